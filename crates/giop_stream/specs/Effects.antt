-- What the events of an octet do, one after another: to the open messages, to what is kept of each
-- message, and the lines that they give (steps).
use Rattle.std.specs.Prelude.{Bool, true, ◌||◌, ◌≡◌, ◌==◌, ℕ, ◌<◌, ◌≤◌, false, List, [], ◌∷◌, ◌++◌, length, Option, Some, None, if◌then◌else◌, option_map}
use Rattle.std.specs.List.{list_any}
use Rattle.giop_sig.specs.Table.{Table}
use Rattle.giop_message.specs.MessageReader.{MessageReader}
use Rattle.giop_message.specs.ReaderOfTable.{message_reader}
use Rattle.giop_message.specs.Signatures.{Answers}
use Rattle.giop_stream.specs.Events.{EventKind, Begins, Takes, Opens, Continues, Seams, Cancelled, Faults, Closes, MessageKey, Event, Open, place, octets_of_event, phase_after_event, ends_joining, open_after_event}
use Rattle.giop_stream.specs.Lines.{StreamLine, Started, ContinuesMessage, Kept, lines_of_event, is_last_line_of, up_to_last_line}
use Rattle.giop_stream.specs.Framing.{CutMessage, with_payload}
use Rattle.giop_stream.specs.OpenSlots.{KeptByNumber, Tracked}

pub record Effect : Type 0 where
  pub tracked : Tracked
  pub lines : List StreamLine

-- what is kept of a message after an event of it
abbrev pub kept_after_event : (event_kind : EventKind) (kept : Kept) → Kept
kept_after_event what kept = record {
  octets = kept.octets ++ octets_of_event what;
  phase = phase_after_event kept.octets kept.phase what;
}

-- the lines of an event, by what is kept of its message
unfoldable pub lines_for : (R : MessageReader) (event : Event) (kept : Option Kept) →
    List StreamLine
lines_for R e None = []
lines_for R e (Some kept) = lines_of_event R e kept (kept_after_event e.what kept) e.what

-- what is kept of each message: with what this event adds, and without the messages that these
-- lines end
unfoldable pub kept_with : (known : KeptByNumber) (event : Event) → KeptByNumber
kept_with known e i = if e.subject.number == i then option_map (kept_after_event e.what)
    (known i) else
    known i

unfoldable pub kept_unless_ended : (known : KeptByNumber) (lines : List StreamLine) → KeptByNumber
kept_unless_ended known lines i = if list_any (is_last_line_of i) lines then None else known i

-- what one event does: its lines up to the message's last line, and what is kept after it
unfoldable pub lines_at : (R : MessageReader) (known : KeptByNumber) (event : Event) →
    List StreamLine
lines_at R known e = up_to_last_line (λ i. false) (lines_for R e (known e.subject.number))

unfoldable pub tracked_after_event : (R : MessageReader) (tracked : Tracked) (event : Event) →
    Tracked
tracked_after_event R c e = record {
  still_open = open_after_event c.still_open e.subject e.what;
  mixed = c.mixed || ends_joining e;
  known =
      kept_unless_ended (kept_with c.known e) (lines_at R c.known e);
}

unfoldable pub effects : (R : MessageReader) (tracked : Tracked) (events : List Event) → Effect
effects R c [] = record { tracked = c; lines = [] }
effects R c (e ∷ es) =
    let more = effects R (tracked_after_event R c e) es in
    record { tracked = more.tracked; lines = lines_at R c.known e ++ more.lines }

-- While the request id of a message is read, fewer octets are kept of the message than its payload
-- has with this octet, and padding is counted from the message's header.
abbrev pub IsBegun : (known : KeptByNumber) (message : CutMessage) → Type 0
IsBegun known m = 0 < length m.payload → length m.payload ≤ 4 → (kept : Kept) →
    known m.number ≡ Some kept → (length kept.octets < length m.payload) × (kept.phase 12 ≡ 12)

-- ---- An octet of a stream.

-- the current message, with its next octet
abbrev pub with_octet : (message : CutMessage) (next_octet : ℕ) → CutMessage
with_octet m octet = with_payload m (m.payload ++ octet ∷ [])

-- ---- One message's part of an event: its lines, and what is kept of the message after the event,
-- unless the message is over.

unfoldable pub lines_of : (R : MessageReader) (event : Event) (kept : Option Kept) → List StreamLine
lines_of R e o = up_to_last_line (λ i. false) (lines_for R e o)

unfoldable pub message_kept_after : (R : MessageReader) (event : Event) (kept : Option Kept) →
    Option Kept
message_kept_after R e o = if list_any (is_last_line_of e.subject.number)
    (lines_of R e o) then None else
    option_map (kept_after_event e.what) o

-- what is kept and the lines together
pub record MessageEffect : Type 0 where
  pub kept : Option Kept
  pub lines : List StreamLine

unfoldable pub message_effect : (R : MessageReader) (event : Event) (kept : Option Kept) →
    MessageEffect
message_effect R e o = record { kept = message_kept_after R e o; lines = lines_of R e o }

-- the part of no event
abbrev pub no_message_effect : (kept : Option Kept) → MessageEffect
no_message_effect o = record { kept = o; lines = [] }

-- one part, and then what more events make of what it keeps
abbrev pub then_message_effect : (earlier_effect later_effect : MessageEffect) → MessageEffect
then_message_effect one more = record { kept = more.kept; lines = one.lines ++ more.lines }

-- ---- What an event does to the slots.

-- whether the event opens no message and closes none
abbrev pub keeps_open_list : (event_kind : EventKind) → Bool
keeps_open_list Begins = true
keeps_open_list (Takes x) = true
keeps_open_list (Opens key) = false
keeps_open_list (Continues i) = true
keeps_open_list Seams = true
keeps_open_list (Cancelled j) = false
keeps_open_list (Faults fault) = true
keeps_open_list Closes = false

-- whether the event closes a message
abbrev pub closes_message : (event_kind : EventKind) → Bool
closes_message Begins = false
closes_message (Takes x) = false
closes_message (Opens key) = false
closes_message (Continues i) = false
closes_message Seams = false
closes_message (Cancelled j) = true
closes_message (Faults fault) = false
closes_message Closes = true

-- ---- The effects of one event, of no event, and of more events after some.

abbrev pub one_effect : (R : MessageReader) (tracked : Tracked) (place_in_stream_from_1 : ℕ)
    (subject : MessageKey) (event_kind : EventKind) → Effect
one_effect R c at subject what =
    let e : Event = record { place = at; subject = subject; what = what } in
    record { tracked = tracked_after_event R c e; lines = lines_of R e (c.known subject.number) }

abbrev pub no_effect : (tracked : Tracked) → Effect
no_effect c = record { tracked = c; lines = [] }

abbrev pub then_effect : (earlier_effect later_effect : Effect) → Effect
then_effect one more = record { tracked = more.tracked; lines = one.lines ++ more.lines }

-- an event of a message at a place
abbrev pub event : (place_in_stream_from_1 : ℕ) (subject : MessageKey) (event_kind : EventKind) →
    Event
event at subject what = record { place = at; subject = subject; what = what }

-- the effect of an event on what is tracked, and its lines; none if the octets belong to no message
abbrev pub effect_to : (C : Table) (answers : Answers) (place_in_stream_from_1 : ℕ)
    (tracked : Tracked) (owner : Option MessageKey) (event_kind : EventKind) → Effect
effect_to C l at c None what = no_effect c
effect_to C l at c (Some w) what = one_effect (message_reader C l) c at w what

-- an effect with this line before its own
abbrev pub line_effect : (line : StreamLine) (effect : Effect) → Effect
line_effect line effect = record { tracked = effect.tracked; lines = line ∷ effect.lines }

-- the line of a Fragment that continues an open message
abbrev pub continues_line_of : (message : CutMessage) (opener : Open) → StreamLine
continues_line_of m o = record {
  place = place m;
  number = m.number;
  content =
      ContinuesMessage o.opener.number;
}

-- the start line of a message
abbrev pub start_line_of : (message : CutMessage) → StreamLine
start_line_of m = record { place = place m; number = m.number; content = Started m.header }
