pub mod Changes
pub mod Given
pub mod Ledgers
pub mod Rows
pub mod Texts
pub mod Tokens
pub mod inside
