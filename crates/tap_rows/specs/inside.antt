-- What only private functions cite. Who reads the contracts of public calls need not read it.
pub mod DeviceRows
pub mod Goings
pub mod Growing
pub mod Numbering
pub mod Positions
pub mod RecordReaders
pub mod TapTables
pub mod WrittenTimes
