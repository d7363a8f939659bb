pub mod Placed
pub mod inside
