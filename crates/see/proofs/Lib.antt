pub mod Scans
pub mod Cells
pub mod Enough
pub mod All
pub mod Nexts
pub mod Elements
