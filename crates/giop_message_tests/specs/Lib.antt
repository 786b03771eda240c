pub mod Listened
pub mod Waited
