mod Blocks
mod TimeLemmas
mod TagLemmas
mod TaggedLemmas
mod TaggedPuts
mod WholeLines
mod FailingBelow
pub mod Tagging
pub mod FollowedLemmas
mod FailingLemmas
mod LineEnds
mod StampedLemmas
mod StreamReadLemmas
mod DumpLemmas
mod WrittenLemmas
mod EmptyStream
mod PartLemmas
mod StreamNumbers
mod StreamTextLemmas
mod StreamEnds
mod StreamCloses
mod StreamSlots
mod OneText
