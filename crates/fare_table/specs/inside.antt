-- What only private functions cite. Who reads the contracts of public calls need not read it.
pub mod ByteOrder
pub mod OrFault
pub mod TextTransfers
