pub mod Fill
pub mod Inside
