pub mod Faults
pub mod Fronts
pub mod Intakes
pub mod Feeds
