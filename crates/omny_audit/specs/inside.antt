-- What only private functions cite. Who reads the contracts of public calls need not read it.
pub mod Audits
pub mod Checks
pub mod Program
pub mod Traced
