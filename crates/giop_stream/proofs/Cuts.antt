-- How a stream is cut into messages, octet by octet.
pub mod Cutting
pub mod CutFrom
pub mod Numbers
pub mod Start
pub mod OpenMessages
pub mod OfOctets
pub mod Stopped
pub mod Counts
pub mod Sizes
pub mod MessagesGrow
