pub mod Along
pub mod Beginnings
pub mod ByToken
pub mod LocalLemmas
pub mod Closing
pub mod ExplainedLines
pub mod LineLists
pub mod LinePuts
mod Modes
pub mod MomentLemmas
pub mod Parts
pub mod Increasing
pub mod StatementLines
pub mod TermsLines
pub mod TextsExist
pub mod PieceWriting
pub mod Years
