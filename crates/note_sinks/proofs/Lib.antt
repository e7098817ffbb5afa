pub mod WriteLemmas
pub mod TextLemmas
pub mod JoinLemmas
pub mod PlaceLemmas
pub mod PickLemmas
pub mod LedgerLemmas
pub mod SumLemmas
