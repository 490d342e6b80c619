pub mod Enter
pub mod Names
