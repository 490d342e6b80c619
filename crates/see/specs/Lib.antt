pub mod Scans
pub mod Masked
pub mod View
