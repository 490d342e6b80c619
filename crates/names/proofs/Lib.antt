pub mod Laws
pub mod LikeLaws
pub mod ApartLaws
pub mod NewLaw
pub mod BroughtLaw
pub mod NamesLaw
pub mod FoundNames
