pub mod Journals
pub mod Passing
pub mod Writers
pub mod Keeping
