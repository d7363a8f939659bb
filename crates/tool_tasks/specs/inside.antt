-- What only private functions cite. Who reads the contracts of public calls need not read it.
pub mod Corrections
pub mod Decode
pub mod Does
pub mod EncodeRows
pub mod Loads
pub mod Merge
pub mod Prepared
pub mod Sort
pub mod Streams
