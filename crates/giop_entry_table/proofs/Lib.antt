mod IdLemmas
mod ListLemmas
mod HoldingLemmas
mod OptionalIdLemmas
mod SearchLemmas
