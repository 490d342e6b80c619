pub mod Statements
pub mod Streams
