pub mod Becoming
pub mod Counted
pub mod Crosses
