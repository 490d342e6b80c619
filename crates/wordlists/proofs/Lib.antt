pub mod Laws
pub mod Clean
pub mod ListLaws
