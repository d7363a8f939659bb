mod AgencyLemmas
pub mod AgencyMomentLemmas
mod NumberLemmas
mod AgencyRowLemmas
mod DeviceLemmas
mod FieldLemmas
mod GoingLemmas
mod GrowingLemmas
mod LocalLemmas
mod NumberingLemmas
pub mod MomentLemmas
mod OneDeviceTable
mod UniqueParse
mod RowLemmas
mod TableLemmas
pub mod UtcLemmas
mod WrittenLemmas
