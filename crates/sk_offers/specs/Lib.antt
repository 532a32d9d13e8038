pub mod OfferLines
pub mod OfferReading
pub mod Offering
