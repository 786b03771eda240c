mod TellerLemmas
mod Stopping
mod Gapless
mod Handing
mod ReadingOn
mod ShortPackets
mod ShortSegments
pub mod Arriving
