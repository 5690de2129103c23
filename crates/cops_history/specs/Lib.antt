pub mod Turns
pub mod Commands
pub mod History
pub mod Example
pub mod Exchanged
pub mod Lives
pub mod LifeExample
