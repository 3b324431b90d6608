pub mod Clean
pub mod Ids
pub mod Laws
pub mod Numbers
pub mod Once
