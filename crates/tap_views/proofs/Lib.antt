pub mod Choices
mod Cuts
pub mod Deciding
mod Encodings
mod Finding
pub mod FirstLines
mod Fronts
mod Grammar
pub mod Lists
mod Numbers
pub mod Orderings
pub mod Reading
pub mod ParseLemmas
mod RunLemmas
mod Sorted
mod Spans
pub mod Texts
pub mod TokenBytes
pub mod TokenLemmas
pub mod TokensUp
pub mod TapOrders
