pub mod Held
pub mod Places
pub mod Cells
pub mod Views
pub mod Rule
pub mod After
pub mod Told
pub mod Seats
