pub mod Fed
pub mod Statements
