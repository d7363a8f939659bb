pub mod Decided
pub mod Differences
pub mod EndLines
pub mod Verdicts
