pub mod HandedIn
pub mod Handling
pub mod Kept
pub mod Sealing
