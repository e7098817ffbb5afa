pub mod Offers
pub mod Counting
pub mod Polled
pub mod Accepted
pub mod Runs
pub mod BadRuns
pub mod BadCallers
pub mod BadReports
