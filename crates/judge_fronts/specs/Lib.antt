pub mod BadFronts
pub mod Certain
pub mod Fronts
pub mod Gates
pub mod Laws
pub mod Past
pub mod Sides
