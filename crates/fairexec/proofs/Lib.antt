pub mod BytesLemmas
pub mod EndsRefused
