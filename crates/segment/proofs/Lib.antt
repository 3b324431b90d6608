pub mod Floats
pub mod NameStatements
pub mod Names
pub mod Once
