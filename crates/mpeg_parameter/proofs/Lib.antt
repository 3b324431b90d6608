pub mod Laws
pub mod Meaning
pub mod Names
pub mod Once
pub mod Rows
