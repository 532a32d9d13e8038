pub mod LastDigits
pub mod ReadBack
