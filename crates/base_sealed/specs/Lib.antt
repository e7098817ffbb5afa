pub mod Views
pub mod Lending
