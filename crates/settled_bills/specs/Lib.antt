pub mod Columns
pub mod Faults
pub mod Ledgers
pub mod Parts
pub mod Traces
pub mod inside
