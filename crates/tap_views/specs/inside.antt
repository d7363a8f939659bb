-- What only private functions cite. Who reads the contracts of public calls need not read it.
pub mod Encoding
pub mod Faults
pub mod Readings
pub mod Records
pub mod Runs
