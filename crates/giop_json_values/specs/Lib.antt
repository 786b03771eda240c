pub mod Nesting
pub mod TypeCodes
