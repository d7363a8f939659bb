-- What only private functions cite. Who reads the contracts of public calls need not read it.
pub mod Added
pub mod Keys
pub mod Positions
pub mod Shown
