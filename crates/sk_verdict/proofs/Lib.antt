pub mod Gathering
pub mod Placing
pub mod Normals
pub mod Judgements
pub mod SomeJudgements
pub mod Marking
