pub mod FoundLaws
pub mod FoundLaw
