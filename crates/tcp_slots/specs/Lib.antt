pub mod Order
pub mod Ranks
pub mod Slots
pub mod Table
