pub mod LineLaws
pub mod EscapeLaws
pub mod BlockLaws
pub mod ReadLaws
