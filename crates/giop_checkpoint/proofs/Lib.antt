pub mod Puts
mod Versions
mod Places
mod States
pub mod Fronts
pub mod RecordFields
