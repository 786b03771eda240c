-- The fields of an engine compared with the stream: what an octet, a run of octets and the finish
-- do to them.
pub mod WhatStands
pub mod OneOctet
pub mod NextOctet
pub mod EngineStep
pub mod EngineLaws
pub mod EngineAlive
pub mod MessageEnds
pub mod MessageOctets
pub mod PayloadRunSteps
pub mod Runs
pub mod OwnerRuns
pub mod OutsideMessages
pub mod HeaderRuns
pub mod HeaderEndSteps
pub mod TakenOctets
pub mod FragmentSteps
pub mod DueSteps
pub mod StreamAgreement
pub mod AnswersGoOn
pub mod KeptOn
pub mod AgreementAtHeaders
pub mod Lacking
