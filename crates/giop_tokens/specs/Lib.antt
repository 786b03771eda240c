pub mod Faults
pub mod Marks
pub mod Tokens
pub mod Reading
pub mod Readers
pub mod Names
pub mod Lines
pub mod Layout
