pub mod Bad
pub mod Houses
pub mod Outside
pub mod Passing
