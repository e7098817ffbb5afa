pub mod Lists
pub mod Accounts
