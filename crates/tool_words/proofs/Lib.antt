pub mod Columns
pub mod Entered
pub mod Rows
