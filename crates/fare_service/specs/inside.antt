-- What only private functions cite. Who reads the contracts of public calls need not read it.
pub mod Spots
pub mod Closing
pub mod Joining
pub mod Lending
pub mod Outcomes
pub mod Runs
pub mod ServiceView
pub mod Shares
pub mod Stopping
