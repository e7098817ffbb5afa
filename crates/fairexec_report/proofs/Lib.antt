pub mod AuditLemmas
pub mod ReportLaws
pub mod ReportLemmas
pub mod StatLemmas
pub mod TextLemmas
pub mod TextsRefused
