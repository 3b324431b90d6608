pub mod Field
pub mod Marks
