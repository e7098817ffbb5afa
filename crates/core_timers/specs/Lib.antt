pub mod Timers
pub mod Tables
pub mod Heap
pub mod BadTimers
pub mod BadHeaps
