pub mod Asks
pub mod CommandLine
pub mod Rows
