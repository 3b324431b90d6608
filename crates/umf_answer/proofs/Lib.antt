pub mod Lists
pub mod Once
