-- What only private functions cite. Who reads the contracts of public calls need not read it.
pub mod Accounts
pub mod Counting
pub mod Late
pub mod Packed
pub mod Sound
pub mod Visits
