pub mod Fields
pub mod Lines
pub mod Moments
pub mod Rows
pub mod inside
