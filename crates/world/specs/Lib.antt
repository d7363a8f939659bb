pub mod GhostBytes
pub mod Loads
pub mod Origins
pub mod Run
pub mod Streams
pub mod Writes
pub mod inside
