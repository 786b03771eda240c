-- Answers that make no difference to a stream: those for messages whose header hasn't ended, or
-- ends after the message is over. And answers that agree with a correspondent (meaning).
use Rattle.std.specs.Prelude.{◌≡◌, ◌⊎◌, ℕ, List, [], None}
use Rattle.std.specs.List.{AllByRecursion as Each}
use Rattle.giop_message.specs.Signatures.{Answer, Answers}
use Rattle.giop_message.specs.HeaderEnds.{CallEvent, HeaderEnd, Header_end, Exception_end, AgreesAtEnds, header_noted}
use Rattle.giop_sig.specs.Table.{Table}
use Rattle.giop_stream.specs.Rules.{rules_by}
use Rattle.giop_stream.specs.EngineHolds.{rules_with}
use Rattle.giop_stream.specs.EngineView.{EngineView}
use Rattle.giop_stream.specs.Events.{events, joined_octets, phase_of}
use Rattle.giop_stream.specs.HeaderEndsOfStream.{header_ends_from}

-- a and b give the same answer for each message of the stream whose header has ended
abbrev pub AnswersAgree : (C : Table) (most_open_messages : ℕ) (stream : List ℕ) (a b : Answers) →
    Type 0
AnswersAgree C most stream a b =
    let es = events (rules_by C a most) stream in
    Each (λ e. (a e.subject.number ≡ b e.subject.number)
    ⊎ (header_noted (phase_of e.subject.number es) e.subject.header
    (joined_octets e.subject.number es) ≡ None)) es

-- a and b give the same answer at the end of a header
abbrev pub AnswersAlike : (a b : Answers) (end : HeaderEnd) → Type 0
AnswersAlike a b (Header_end number header n) = a number ≡ b number
AnswersAlike a b (Exception_end number name) = Unit {0}

-- a and b give the same answer for each message whose header ends in the stream before the message
-- is over
abbrev pub AgreeAtHeaders : (C : Table) (most_open_messages : ℕ) (stream : List ℕ) (a b : Answers) →
    Type 0
AgreeAtHeaders C most stream a b =
    Each (AnswersAlike a b) (header_ends_from (rules_by C a most) [] stream)

-- These answers agree with a correspondent in this state, over these octets after the stream that
-- an engine holds. If the header of a message ends in the octets, the message is answered as the
-- correspondent answers at that time, after it was told of the headers before.
abbrev pub AgreesOver : {St : Type 0} (answer : St → Answer) (notified : St → CallEvent → St)
    (state : St) (engine : EngineView) (answers : Answers) (stream octets_after_stream : List ℕ) →
    Type 0
AgreesOver answer notified state e a stream octets =
    AgreesAtEnds answer notified e.table state a (header_ends_from (rules_with e a) stream octets)
