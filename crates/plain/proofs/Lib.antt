pub mod PlainLaw
pub mod Laws
pub mod CopyLaws
pub mod TotalLaw
pub mod KeyLaws
pub mod ValueLaws
pub mod LoadLaw
pub mod Codes
