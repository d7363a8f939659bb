pub mod DatedWords
pub mod Flags
pub mod NextTables
pub mod Requests
pub mod TablesRefused
