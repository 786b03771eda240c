-- Example streams, computed.
pub mod Rows
pub mod EngineRows
