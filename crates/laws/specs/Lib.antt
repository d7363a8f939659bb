pub mod Agree
pub mod Bills
pub mod PartTexts
pub mod Sizes
pub mod TapSets
pub mod Traced
pub mod Written
