pub mod Laws
pub mod Refused
