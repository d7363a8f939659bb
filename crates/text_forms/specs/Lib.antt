pub mod inside
pub mod Shaped
