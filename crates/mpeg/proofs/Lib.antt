pub mod Judging
pub mod Laws
pub mod Meaning
pub mod Numbers
pub mod Once
pub mod Turns
pub mod Worked
