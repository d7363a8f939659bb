pub mod Request
pub mod Columns
pub mod Tasks
pub mod ToolLine
pub mod inside
