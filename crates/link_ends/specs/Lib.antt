pub mod Fits
pub mod Ends
pub mod Calls
pub mod Whole
pub mod Plain
pub mod Around
pub mod Lending
