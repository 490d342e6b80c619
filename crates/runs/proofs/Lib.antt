pub mod Runs
pub mod Streams
