pub mod Fields
pub mod Laws
pub mod Maps
pub mod Numbers
pub mod Once
