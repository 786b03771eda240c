-- What has happened in each stream of a capture, by all events; and that its lines in the text of
-- the capture, except those of five kinds, are giopdump's (docs/FORMATS.md, Conversations of a
-- capture; meaning). A stream is named by its number.
use Rattle.std.specs.Prelude.{◌≡◌, ℕ, ◌<◌, ◌^◌, ◌-◌, ◌/◌, ◌==◌, Bool, true, false, ◌||◌, nat_lt, List, [], ◌∷◌, ◌++◌, Option, None, if◌then◌else◌}
use Rattle.std.specs.List.{AllByRecursion as Each}
use Rattle.giop_print.specs.Output.{saturating_next}
use Rattle.giop_message.specs.Signatures.{Answers}
use Rattle.giop_stream.specs.Rules.{Rules}
use Rattle.giop_stream.specs.Stream.{text, closing}
use Rattle.tcp_flow.specs.Flow.{Event, Opens, Begins, Delivers, Closes, OfCapture}
use Rattle.tcp_flow.specs.Laws.{EventsMayFollow}
use Rattle.giop_conversation.specs.Captured.{Setup, Dump, Leads, rules_in, next_stream_number}
use Rattle.giop_conversation.specs.CaptureParts.{CapturePart, parts_text, IsWholeLines, giopdump_read_lines_of, giopdump_lines_of}

-- what has happened in a stream
pub record StreamHistory : Type 0 where
  pub octets : List ℕ  -- the octets that were delivered of it
  pub answers : Answers  -- by which its last octets were read: what the ids of its messages answer
  pub is_closed : Bool
  pub goes_on : Bool  -- whether octets were delivered after its close, or it closed once more

abbrev pub new_stream : StreamHistory
new_stream = record { octets = []; answers = λ number id. None; is_closed = false; goes_on = false }

-- a stream after octets were delivered, which were read by these answers
abbrev pub with_octets : (answers : Answers) (delivered_octets : List ℕ)
    (stream_history : StreamHistory) → StreamHistory
with_octets a octets s =
    record s { octets = s.octets ++ octets; answers = a; goes_on = s.goes_on || s.is_closed }

abbrev pub with_close : StreamHistory → StreamHistory
with_close s = record s { is_closed = true; goes_on = s.goes_on || s.is_closed }

-- what giopdump writes of a stream: its text, and then its closing if the stream has closed
abbrev pub giopdump_text : (rules : Rules) (stream_history : StreamHistory) → List ℕ
giopdump_text R s = text R s.octets ++ (if s.is_closed then closing R s.octets else [])

-- what has happened in the streams of a capture
pub record History : Type 0 where
  pub begun : ℕ  -- how many streams have begun
  pub stream_of : ℕ → ℕ  -- the number of each flow's last stream, by the flow's id; 0 without one
  pub has_slot : ℕ → Bool  -- whether the stream of each number began in a flow with a slot
  pub stream : ℕ → StreamHistory  -- the history of the stream of each number

abbrev pub no_history : History
no_history = record {
  begun = 0;
  stream_of = λ flow. 0;
  has_slot = λ number. false;
  stream = λ number. new_stream;
}

-- after a stream of this number has begun in the flow of this id; the Bool tells whether the flow's
-- connection has a slot
abbrev pub with_begun : (history_before : History) (flow_id stream_number : ℕ) (has_slot : Bool) →
    History
with_begun h id number true =
    record h {
      begun = saturating_next h.begun;
      stream_of = λ flow. if flow == id then number else h.stream_of flow;
      has_slot = λ n. if n == number then true else h.has_slot n;
    }
with_begun h id number false = record h { begun = saturating_next h.begun }

abbrev pub with_stream : (history_before : History) (stream_number : ℕ)
    (stream_history : StreamHistory) → History
with_stream h number s = record h { stream = λ n. if number == n then s else h.stream n }

-- after one more event; if it delivers octets, these are read by the answers
abbrev pub history_after_event : (setup : Setup) (answers : Answers) (history_before : History)
    (event : Event) → History
history_after_event S a h (Opens id flow) = h
history_after_event S a h (Begins id start) =
    with_begun h id (next_stream_number S h.begun) (nat_lt (id / 2) S.connections)
history_after_event S a h (Delivers id octets) =
    with_stream h (h.stream_of id) (with_octets a octets (h.stream (h.stream_of id)))
history_after_event S a h (Closes id cause) =
    with_stream h (h.stream_of id) (with_close (h.stream (h.stream_of id)))
history_after_event S a h (OfCapture event) = h

-- after all events, which lead from one dump to another; the octets of each event are read by its
-- answers
abbrev pub history : (S : Setup) → (history_before : History) → (dump_before : Dump) →
    (events : List Event) → (dump_after : Dump) → Leads S dump_before events dump_after → History
history S h d [] behind leads = h
history S h d (e ∷ es) behind leads =
    history S (history_after_event S leads.1.answers h e) leads.0 es behind leads.2

-- The lines of a stream that giopdump writes too are exactly giopdump's. Those of its octets are
-- its text. And unless the stream goes on after its close, those of its octets and of its end
-- together are what giopdump writes of it.
pub record IsDumped (S : Setup) (stream_history : StreamHistory)
    (lines_of_octets all_giopdump_lines : List ℕ) : Type 0 where
  pub reads_are : lines_of_octets ≡ text (rules_in S stream_history.answers) stream_history.octets
  pub own_are : stream_history.goes_on ≡ false → all_giopdump_lines
      ≡ giopdump_text (rules_in S stream_history.answers) stream_history

-- In each flow, octets come and a stream closes only while a stream lives there, as in a flow
-- without a gap (tcp_flow, Laws).
abbrev pub AreGapless : (events : List Event) → Type 0
AreGapless events =
    (flow : ℕ) → (payloads : _) × (due : Option ℕ) × EventsMayFollow payloads flow None events due

-- In each flow, octets come and a stream closes only while a stream lives there, and each stream
-- that began has closed.
abbrev pub AreWhole : (events : List Event) → Type 0
AreWhole events = (flow : ℕ) → (payloads : _) × EventsMayFollow payloads flow None events None

-- The number is one that no two streams have: it is neither 0 nor the greatest, at which numbers
-- stay.
abbrev pub IsUnique : (stream_number : ℕ) → Type 0
IsUnique number = (0 < number) × (number < 2 ^ 64 - 1)

-- The text is what was written before, and then parts, each of whole lines. In them, the lines of
-- each stream that giopdump writes too are exactly giopdump's.
pub record ShowsStreams (S : Setup) (text_before : List ℕ) (histories : History)
    (whole_text : List ℕ) : Type 0 where
  pub parts : List CapturePart
  pub whole : Each IsWholeLines parts
  pub shows : whole_text ≡ text_before ++ parts_text parts
  pub streams : (number : ℕ) → IsUnique number → IsDumped S (histories.stream number)
      (giopdump_read_lines_of number parts) (giopdump_lines_of number parts)
