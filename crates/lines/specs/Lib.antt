pub mod Lines
pub mod Escapes
pub mod Parts
pub mod Blocks
