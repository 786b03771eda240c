pub mod Counts
pub mod Ends
pub mod Held
pub mod Numbered
pub mod Order
pub mod Packing
pub mod Queries
pub mod Reversed
