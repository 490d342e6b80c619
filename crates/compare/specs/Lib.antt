pub mod Dump
pub mod Compare
