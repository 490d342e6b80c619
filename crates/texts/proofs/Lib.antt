pub mod Laws
pub mod LookLaw
pub mod EventLaws
