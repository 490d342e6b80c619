pub mod Lines
pub mod Own
pub mod Checked
pub mod Pair
