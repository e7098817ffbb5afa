pub mod Closings
pub mod Finds
pub mod Plans
pub mod PlansRefused
pub mod Searches
