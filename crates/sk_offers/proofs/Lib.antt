pub mod Boards
pub mod FallingMerges
pub mod FittingOffers
pub mod OfferAnswers
pub mod OffersSoFar
pub mod Places
