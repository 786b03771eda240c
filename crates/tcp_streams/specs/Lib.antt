pub mod Lives
pub mod Pairs
pub mod Places
pub mod Queue
pub mod Stamped
