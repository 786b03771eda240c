mod Lists
pub mod StreamLaws
mod Cuts
mod Events
mod StreamLines
mod SlotSteps
mod CodeSteps
mod Restored
mod Worked
