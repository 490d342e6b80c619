pub mod Laid
pub mod Payload
