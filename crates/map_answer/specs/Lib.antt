pub mod Answer
pub mod Inside
