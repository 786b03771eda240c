pub mod Worked
pub mod Streams
pub mod Checkpoints
