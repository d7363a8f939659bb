-- What only private functions cite. Who reads the contracts of public calls need not read it.
pub mod Ends
pub mod Fault
pub mod Listing
pub mod Options
pub mod PostedFiles
