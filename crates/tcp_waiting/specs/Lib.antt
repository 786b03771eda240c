pub mod Layout
pub mod Numbers
pub mod Payload
pub mod Places
pub mod Pool
