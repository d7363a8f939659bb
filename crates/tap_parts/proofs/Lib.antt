pub mod Adding
pub mod Buckets
pub mod Early
pub mod FullBatches
mod Keys
pub mod Pieces
pub mod Positions
pub mod RangeLemmas
pub mod TokenOrder
pub mod Total
