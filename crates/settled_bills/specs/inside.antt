-- What only private functions cite. Who reads the contracts of public calls need not read it.
pub mod Charged
pub mod ExplainedTaps
pub mod MergedLines
pub mod OwnTaps
pub mod Puts
pub mod Taken
pub mod WorkerSlots
