pub mod Audits
pub mod Outcomes
pub mod StatLines
pub mod StatTexts
pub mod VerdictTexts
pub mod Writing
pub mod Reports
pub mod BadTexts
