mod Tags
mod Extensions
mod ZeroRuns
