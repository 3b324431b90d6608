pub mod BookBuilder
pub mod Inside
pub mod Lacking
pub mod OddFields
