pub mod ExampleLemmas
pub mod ScriptLemmas
pub mod FillLemmas
pub mod AskingLemmas
