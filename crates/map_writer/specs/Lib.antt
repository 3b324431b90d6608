pub mod Inside
pub mod Largest
pub mod Meaning
pub mod ReadBack
pub mod Readers
pub mod ViewGiven
pub mod Write
pub mod WrongForm
