pub mod Laws
pub mod LookLaw
