pub mod Coding
pub mod Laws
pub mod Marked
pub mod Numbers
pub mod Once
