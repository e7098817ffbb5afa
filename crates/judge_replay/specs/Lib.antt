pub mod Reads
pub mod BadReads
pub mod Houses
pub mod Tellers
