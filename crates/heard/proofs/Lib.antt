pub mod CodeLaws
pub mod FieldLaw
