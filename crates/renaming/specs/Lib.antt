pub mod Renaming
pub mod Uses
