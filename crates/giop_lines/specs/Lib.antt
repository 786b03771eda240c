pub mod Numbers
pub mod Texts
pub mod Names
pub mod Paths
pub mod Values
pub mod Lines
