pub mod Contracts
pub mod Laws
pub mod OddFields
pub mod Once
pub mod Same
pub mod Seen
pub mod Sound
pub mod Torn
