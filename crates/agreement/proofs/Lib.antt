pub mod Contract
pub mod Laws
pub mod Once
