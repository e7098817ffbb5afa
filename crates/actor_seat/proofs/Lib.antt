mod Names
pub mod Along
pub mod Growing
pub mod Openings
pub mod Seen
pub mod Stepping
pub mod Adding
pub mod AddedTurns
pub mod Posted
pub mod Kept
pub mod HandedBack
pub mod Picked
pub mod LentIn
pub mod LentOut
pub mod LinkedCalls
pub mod Unsent
pub mod OwnWakes
pub mod Passed
pub mod PollNotes
pub mod TurnOfEnds
pub mod Opened
pub mod OutsideSeats
pub mod Untouched
pub mod Fewer
pub mod Rung
mod BellsRefused
mod WakesRefused
