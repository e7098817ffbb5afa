pub mod BadHouses
pub mod Fronts
pub mod Houses
