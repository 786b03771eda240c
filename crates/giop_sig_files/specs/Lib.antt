pub mod Blocks
pub mod Joined
pub mod Places
pub mod Names
