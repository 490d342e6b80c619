pub mod Bytes
pub mod Read
