pub mod TextLaw
pub mod Arena
pub mod WordLaw
pub mod Naming
pub mod StoreLaws
