pub mod Meaning
pub mod Parameters
pub mod Table
