pub mod Ids
pub mod Last
pub mod Order
pub mod Placed
pub mod Stamped
pub mod Told
