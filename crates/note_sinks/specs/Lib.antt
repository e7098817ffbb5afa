pub mod Outlets
pub mod Lines
pub mod Laws
pub mod Naps
pub mod Ledgers
pub mod Sums
pub mod BadLedgers
pub mod BadTexts
