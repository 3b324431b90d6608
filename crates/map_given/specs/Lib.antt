pub mod Faults
pub mod Given
pub mod Inside
pub mod Places
