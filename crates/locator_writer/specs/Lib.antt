pub mod ReadBack
pub mod Readers
pub mod Write
