pub mod Layouts
pub mod Fixed
pub mod Records
pub mod Refusals
