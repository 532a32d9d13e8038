pub mod Fronts
pub mod MeasureAnswer
pub mod MeasureReport
pub mod OffersReport
pub mod OffsThere
pub mod StatusCodes
pub mod VerifyAnswer
