pub mod Inside
pub mod Piece
pub mod Seen
