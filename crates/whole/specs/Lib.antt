pub mod Accepted
pub mod After
