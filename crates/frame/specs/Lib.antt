pub mod Given
pub mod Names
pub mod Outcome
pub mod Outsides
