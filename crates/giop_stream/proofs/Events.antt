-- The events of a stream's octets, and the open messages and the faults that follow from them.
pub mod MessageKinds
pub mod EventInduction
pub mod KeptEvents
pub mod EventsOfOctet
pub mod EventsKeep
pub mod UnfinishedKept
pub mod Sharing
pub mod Soundness
pub mod UnfinishedAreOpen
pub mod UnfinishedAtFinish
pub mod AfterMoreEvents
pub mod StepCases
pub mod EventsByEngine
pub mod FaultsBound
