pub mod Laws
pub mod ApartLaws
pub mod LoopLaws
pub mod NameLaws
