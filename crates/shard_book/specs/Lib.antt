pub mod Book
pub mod Difference
pub mod Late
pub mod Visits
pub mod Windows
pub mod inside
