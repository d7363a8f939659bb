pub mod Counted
pub mod Joined
mod JoinedParts
pub mod LedgerStarted
pub mod Numbering
pub mod OwnEntries
pub mod OwnTaps
mod Parts
mod Rest
pub mod Rows
pub mod Settled
pub mod SettledFiles
pub mod Takings
pub mod TapsExplained
pub mod TracedLines
