-- The slots of the code compared with what is tracked of the messages: what the calls of the code
-- do to the slots at each event.
pub mod OneSlotChanges
pub mod Alike
pub mod EventsInSlots
pub mod Performing
pub mod SlotLists
pub mod EventsOnSlots
pub mod FindingOpen
pub mod AtRequestId
pub mod Ending
pub mod AfterOctet
pub mod Parts
pub mod AtHeader
pub mod RequestIds
pub mod Cases
pub mod ReadingEffects
pub mod Continuing
pub mod Adding
