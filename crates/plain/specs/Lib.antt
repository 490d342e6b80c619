pub mod Plain
pub mod Keyed
