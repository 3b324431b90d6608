pub mod Aspect
pub mod Encode
pub mod Inside
pub mod Map
pub mod Parts
pub mod Table
pub mod View
pub mod WrongForm
