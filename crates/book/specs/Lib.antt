pub mod Book
pub mod Inside
pub mod Marked
