pub mod Drawing
pub mod Numbers
pub mod Places
pub mod Possible
pub mod Setting
