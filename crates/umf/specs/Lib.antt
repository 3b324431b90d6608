pub mod Inside
pub mod Split
pub mod Umf
