-- What only private functions cite. Who reads the contracts of public calls need not read it.
pub mod Drawing
pub mod DrawerStates
pub mod NoBook
pub mod Passes
pub mod SeatStates
pub mod Steps
