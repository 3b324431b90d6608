pub mod Back
pub mod Laws
pub mod Once
pub mod Readers
pub mod RoundTrip
pub mod Worked
