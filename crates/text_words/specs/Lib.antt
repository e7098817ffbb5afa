pub mod Notes
pub mod Replies
pub mod Causes
pub mod Faults
pub mod Statuses
pub mod Numbers
pub mod Words
pub mod Fields
