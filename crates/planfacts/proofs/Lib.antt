pub mod FactsOf
pub mod Places
pub mod UseOf
pub mod Given
pub mod Listed
pub mod Charge
pub mod Bounds
