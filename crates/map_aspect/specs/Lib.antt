pub mod Aspect
pub mod Meaning
