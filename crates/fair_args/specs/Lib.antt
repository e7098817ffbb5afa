pub mod Asks
pub mod BadAnswers
pub mod Commands
pub mod Found
pub mod Refusals
