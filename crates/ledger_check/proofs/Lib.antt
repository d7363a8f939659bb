mod Balanced
pub mod CheckerLemmas
pub mod ColumnLemmas
pub mod EndLemmas
pub mod EntryLists
pub mod LineEnds
pub mod FieldLemmas
pub mod FrontLemmas
mod FullyBalanced
pub mod LineLemmas
pub mod LineSums
pub mod MomentLemmas
pub mod OpenSums
pub mod Orders
pub mod PositionLemmas
pub mod FullCheckLaw
pub mod FullCheckLemmas
pub mod RunLemmas
pub mod SameLines
pub mod SameTaken
mod SameTaps
mod Spread
mod Times
pub mod TokenOrder
pub mod VerdictLemmas
pub mod WalkLemmas
