mod BeginLemmas
mod PerformLemmas
