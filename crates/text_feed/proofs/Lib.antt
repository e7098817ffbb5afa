pub mod FrontLemmas
pub mod TakeLemmas
pub mod FeedLemmas
pub mod FaultLemmas
pub mod IntakeLemmas
