pub mod Origins
pub mod Following
pub mod Past
pub mod Standing
pub mod State
pub mod SessionCodes
pub mod Replies
pub mod ItsGraph
