pub mod Views
pub mod Walk
pub mod Reads
pub mod Stream
