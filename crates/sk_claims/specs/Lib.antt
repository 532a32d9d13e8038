pub mod Claims
pub mod ClaimLines
pub mod ClaimReading
pub mod Printed
pub mod ClaimText
pub mod PlaceLines
pub mod PlaceReading
