pub mod Booked
pub mod Sent
pub mod HandedOn
pub mod Collected
pub mod Redeemed
pub mod Watched
pub mod Opened
pub mod Idle
pub mod InARow
pub mod Vain
pub mod WaitedOnce
pub mod OrdersBack
pub mod Halls
pub mod CallsMade
mod Closing
mod CallsRefused
mod WaitsRefused
mod SendsRefused
mod TicketsRefused
mod WatchesRefused
