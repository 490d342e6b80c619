pub mod Made
pub mod Base
pub mod Lent
pub mod Internal
pub mod Bounds
pub mod Readings
pub mod Streams
pub mod Calls
