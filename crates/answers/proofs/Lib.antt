pub mod Refusals
pub mod LowOutcomes
pub mod Fifteen
