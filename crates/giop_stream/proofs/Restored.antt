-- Checkpoints: what `save` writes of an engine, and which engine `load` makes of it.
pub mod Saved
pub mod SavedSizes
pub mod Loaded
pub mod LoadedFields
pub mod LoadRanges
pub mod WholeRecords
pub mod WithoutKey
pub mod KeysOfStream
