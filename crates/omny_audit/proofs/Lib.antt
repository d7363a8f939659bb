pub mod Audits
pub mod FindingLemmas
pub mod ProgramLemmas
pub mod TraceLemmas
