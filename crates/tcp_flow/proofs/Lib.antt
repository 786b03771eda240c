pub mod Chains
pub mod Closings
pub mod Content
pub mod ContentRuns
pub mod Direct
mod Early
pub mod Events
pub mod Firsts
pub mod Obeying
pub mod Order
pub mod Others
pub mod Places
pub mod Preserving
pub mod Lefts
pub mod Room
mod Rows
pub mod States
pub mod Steps
pub mod Tails
pub mod Truth
