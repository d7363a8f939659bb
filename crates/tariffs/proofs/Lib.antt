pub mod ApartLemmas
pub mod ByteLemmas
pub mod DatedLemmas
pub mod MaskLemmas
pub mod RiderBytes
pub mod TokenFilter
pub mod UntilLemmas
