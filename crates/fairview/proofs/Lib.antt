pub mod BytesLemmas
pub mod EndLemmas
