pub mod Escapes
pub mod EscapeLaws
pub mod Lists
pub mod Bars
pub mod Leads
pub mod Laws
