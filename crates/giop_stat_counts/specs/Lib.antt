pub mod Buckets
pub mod Counts
pub mod Seconds
pub mod Windows
