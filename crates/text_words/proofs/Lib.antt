pub mod KnownLemmas
pub mod FieldLemmas
pub mod NumberLemmas
pub mod PlaceLemmas
pub mod WordLemmas
