pub mod RingEnds
pub mod Ends
pub mod Grid
pub mod Laws
pub mod Lending
pub mod Reached
pub mod Reaching
