mod Alike
mod BillLemmas
pub mod Books
mod CentsFit
pub mod Lacking
mod Lines
mod Once
mod OneMore
pub mod OneText
mod OwnTaps
pub mod Owned
mod PartReports
mod Posts
mod Prefixes
mod Renamed
mod Rides
mod SameReports
mod Sets
mod States
mod SumsFit
pub mod LedgerTokens
mod TracedLines
