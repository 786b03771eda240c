pub mod EntryTable
pub mod EntryTableView
pub mod Ids
pub mod MutBorrow
pub mod OptionalIds
pub mod OptionalIdsMutBorrow
pub mod OptionalIdsView
