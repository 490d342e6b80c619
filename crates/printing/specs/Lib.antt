pub mod Added
pub mod Lines
pub mod Put
