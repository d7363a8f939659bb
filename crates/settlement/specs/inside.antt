-- What only private functions cite. Who reads the contracts of public calls need not read it.
pub mod Billing
pub mod SplitUploads
pub mod Taken
