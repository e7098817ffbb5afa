pub mod Works
pub mod Seats
pub mod Teams
