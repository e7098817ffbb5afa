pub mod Errors
pub mod Finishes
pub mod Jobs
pub mod Plans
pub mod Waits
