pub mod Demand
pub mod Functions
pub mod Known
pub mod Names
pub mod Strike
pub mod WrongForm
