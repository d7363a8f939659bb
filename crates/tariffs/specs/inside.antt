-- What only private functions cite. Who reads the contracts of public calls need not read it.
pub mod Midnight
pub mod PosixRule
pub mod RiderFilter
pub mod Table
pub mod Transfers
pub mod Validators
