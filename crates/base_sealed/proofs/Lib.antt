mod Walks
pub mod Values
