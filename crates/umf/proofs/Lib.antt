pub mod Laws
pub mod Once
pub mod Opened
pub mod Sections
pub mod Split
pub mod Statements
pub mod Stands
pub mod Turns
