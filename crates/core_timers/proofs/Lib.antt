pub mod Tables
pub mod Shown
pub mod Swaps
pub mod Orders
pub mod Sifts
pub mod Shrinks
pub mod Grows
pub mod Stands
pub mod Named
pub mod Kept
pub mod Found
pub mod Comes
pub mod Firsts
pub mod Opened
mod TimersRefused
