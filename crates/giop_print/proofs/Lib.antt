mod Blocks
mod DigitLanes
pub mod Writing
mod Gathering
mod Plain
mod Spelling
