pub mod Octets
pub mod Frames
pub mod Datagrams
pub mod Segments
pub mod EndpointText
pub mod Links
