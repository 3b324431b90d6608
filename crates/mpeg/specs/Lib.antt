pub mod Inside
pub mod Lines
pub mod Meaning
pub mod Read
