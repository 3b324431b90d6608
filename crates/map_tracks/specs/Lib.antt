pub mod AnyText
pub mod Inside
pub mod Table
pub mod Tracks
pub mod WrongForm
