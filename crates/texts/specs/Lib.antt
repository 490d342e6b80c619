pub mod Texts
pub mod EventTexts
