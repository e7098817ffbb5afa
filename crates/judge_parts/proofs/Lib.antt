pub mod Fresh
pub mod Fronts
pub mod HousesRefused
pub mod Next
pub mod Told
