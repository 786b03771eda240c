pub mod Primitives
pub mod Alignment
pub mod Numbers
