pub mod Escaped
pub mod Lists
pub mod PollSteps
pub mod LeadSteps
pub mod LeadLaws
