pub mod ClassFaults
pub mod Classes
pub mod Names
