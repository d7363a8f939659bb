pub mod KnownBytes
mod Loading
pub mod Corrected
pub mod Decoding
pub mod Making
pub mod MergedUploads
pub mod PartsRead
pub mod Preparing
pub mod EncodingRows
pub mod Streaming
