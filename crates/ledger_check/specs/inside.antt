-- What only private functions cite. Who reads the contracts of public calls need not read it.
pub mod Fronts
pub mod OpenSums
pub mod Positions
pub mod FullChecks
pub mod Moments
pub mod Taps
