pub mod Next
pub mod Left
