pub mod Given
pub mod Passed
mod SpelledLemmas
