pub mod Orders
pub mod Fitting
pub mod Outcomes
mod LocalsRefused
mod StartsRefused
mod FinishesRefused
pub mod Polled
pub mod PollsOwed
mod PollsRefused
pub mod Finished
pub mod AllPassed
pub mod WholeJournals
pub mod SinksTold
pub mod Dealt
pub mod Watched
pub mod Started
pub mod Crosses
pub mod WrongAnswers
