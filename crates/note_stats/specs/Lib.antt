pub mod Places
pub mod Tallies
pub mod Gates
pub mod Walks
pub mod Laws
