pub mod Inside
pub mod Lacking
pub mod OddFields
pub mod Sought
pub mod Stream
pub mod WrongForm
