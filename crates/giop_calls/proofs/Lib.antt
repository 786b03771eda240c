pub mod OutstandingLemmas
