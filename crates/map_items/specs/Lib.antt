pub mod Find
pub mod Items
pub mod Judge
