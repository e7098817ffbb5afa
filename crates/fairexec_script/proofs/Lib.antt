pub mod DraftsRefused
pub mod EventLimits
pub mod LimitLemmas
pub mod PollLemmas
pub mod SubmitLemmas
pub mod ThreadsLimitLemmas
pub mod NoParks
