-- What only private functions cite. Who reads the contracts of public calls need not read it.
pub mod Columns
pub mod Rows
