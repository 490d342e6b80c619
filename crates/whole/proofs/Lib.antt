pub mod Sizes
pub mod Fitting
pub mod Done
