pub mod Description
pub mod Described
pub mod Agrees
pub mod One
