mod Names
pub mod Alone
pub mod Published
pub mod Openings
pub mod Rung
mod SmallWorkers
mod BoardsRefused
mod LinksRefused
mod ServesRefused
mod OnceRefused
mod EndsRefused
mod LooksRefused
mod PollsRefused
mod QueuesRefused
mod ActsRefused
mod SleepsRefused
mod ParksRest
mod WatchesRefused
pub mod Noted
pub mod Acting
pub mod Spare
pub mod Asking
pub mod PollNotes
pub mod TurnNotes
pub mod TurnAsks
pub mod TurnRoom
pub mod Between
pub mod Gated
pub mod Serving
pub mod Woken
pub mod Due
mod Silent
pub mod Telling
pub mod Fewer
pub mod Heard
mod Supplied
pub mod Looked
mod Lives
pub mod GivenBack
mod Resting
pub mod Opened
pub mod Creating
pub mod Ending
