-- The owner of a payload's octets, and what the code knows of that message at one of them (state).
use Rattle.std.specs.Prelude.{◌≡◌, ◌==◌, ◌<◌, ◌+◌, ◌-◌, ℕ, suc, Bool, true, ◌||◌, List, [], ◌++◌, length, Option, Some, None, if◌then◌else◌}
use Rattle.std.specs.List.{AllByRecursion as Each}
use Rattle.giop_sig.specs.Types.{Ty}
use Rattle.giop_sig.specs.Table.{Table}
use Rattle.giop_sig.specs.HeaderTypes.{BeginsWithId, header_type}
use Rattle.giop_message.specs.Phases.{unbroken}
use Rattle.giop_message.specs.Signatures.{Answers}
use Rattle.giop_message.specs.ReaderOfTable.{message_reader}
use Rattle.giop_message.specs.Headers.{minor, kind, size, begins_with_request_id}
use Rattle.giop_stream.specs.Kinds.{is_fragmented_1_1, is_any_fragment, lookup_offset}
use Rattle.giop_stream.specs.Rules.{asks_by}
use Rattle.giop_stream.specs.Lines.{Kept, nothing_kept}
use Rattle.giop_stream.specs.declared.slots.Slots.{Slots}
use Rattle.giop_stream.specs.declared.current.Current.{Current}
use Rattle.giop_stream.specs.Framing.{CutMessage, with_payload}
use Rattle.giop_stream.specs.Events.{MessageKey, OpenState, Event, Open, NumbersRise, key, message_key, place, opener_of, has_joined_octets, events_at_name, events_at_end, events_of_octet}
use Rattle.giop_stream.specs.Effects.{Effect, effects, then_effect, with_octet}
use Rattle.giop_stream.specs.OpenSlots.{Tracked, IsNotOpen, before_in}
use Rattle.giop_stream.specs.SlotsRepresent.{SlotsRepresent}
use Rattle.giop_stream.specs.EngineState.{opener_key, owner_of_next}
use Rattle.giop_stream.specs.PayloadRuns.{run_effect}

-- the message opens, continues or cancels one
abbrev pub acts_on_open : (header : List ℕ) → Bool
acts_on_open header = begins_with_request_id header || is_fragmented_1_1 header

-- The owner of the next octet after a message has its place among the open ones. For a Fragment it
-- is the message that the Fragment continues.
unfoldable pub owner_after_name : (before : OpenState) (message : CutMessage) → Option MessageKey
owner_after_name b m = if is_any_fragment m.header then opener_key (opener_of b m) else
    Some (message_key m)

-- what stands before the next octet, by a table and what is tracked
abbrev pub before_with : (C : Table) (answers : Answers) (tracked : Tracked) → OpenState
before_with C l c = before_in (asks_by C l) c

-- the code knows this of a message, at its last octet that has come
pub record IsCurrent (now : Current) (message : CutMessage) : Type 0 where
  pub number : message.number ≡ now.number
  pub header : message.header ≡ now.header
  pub place : place message ≡ now.place

-- A message with this header begins with its request id, by the built-in types of version 1, and so
-- by those of each table.
abbrev pub BeginsWithRequestId : (header : List ℕ) → Type 0
BeginsWithRequestId header = (T : Ty) × (header_type 1 (minor header) (kind header) ≡ Some T) ×
    BeginsWithId T

-- The request id of a message is complete; or, in 1.1, its header is. If the message has a place
-- among the open ones, it is neither open nor over.
pub record IsAtName (C : Table) (answers : Answers) (slots : Slots) (tracked : Tracked)
    (message : CutMessage) (now : Current) (open_key : Option ℕ) : Type 0 where
  pub keeps : SlotsRepresent C answers slots tracked (Some (message_key message))
  pub rising : NumbersRise tracked.still_open
  pub current : IsCurrent now message
  pub key_is : acts_on_open message.header ≡ true → key message ≡ open_key
  pub not_open : acts_on_open message.header ≡ true → IsNotOpen message.number tracked.still_open
  pub alive : acts_on_open message.header ≡ true → (kept : Kept) ×
      (tracked.known message.number ≡ Some kept)

-- The slots represent what is tracked at an octet of a message, the last one that has come.
pub record IsAtOctet (C : Table) (answers : Answers) (slots : Slots) (tracked : Tracked)
    (message : CutMessage)
    (now : Current) : Type 0 where
  pub keeps : SlotsRepresent C answers slots tracked (owner_of_next
      (before_with C answers tracked) message)
  pub rising : NumbersRise tracked.still_open
  pub current : IsCurrent now message

-- ---- An octet that has come, part by part: its owner, its events as its message has its place
-- among the open ones, and its events at the end.

unfoldable pub owner_of_octet : (before : OpenState) (message_up_to_octet : CutMessage) →
    Option MessageKey
owner_of_octet b m = if has_joined_octets m then opener_key (opener_of b m) else Some
    (message_key m)

unfoldable pub events_if_at_name : (most_open_messages : ℕ) (before : OpenState)
    (message_up_to_octet : CutMessage) → List Event
events_if_at_name most b m =
    if length m.payload == lookup_offset m.header then events_at_name most b m else []

unfoldable pub events_if_at_end : (before : OpenState) (message_up_to_octet : CutMessage) →
    List Event
events_if_at_end b m = if length m.payload == size m.header then events_at_end b m else []

-- the owner of the octets after it
unfoldable pub owner_after : (before : OpenState) (message_up_to_octet : CutMessage) →
    Option MessageKey
owner_after b m = if length m.payload == size m.header then None else owner_of_next b m

-- each open message has a smaller number than this
abbrev pub IsNewest : (message_number : ℕ) (still_open : List Open) → Type 0
IsNewest number still_open = Each (λ o. o.opener.number < number) still_open

-- what is kept of a message that has its own payload alone
abbrev pub own_kept : (message : CutMessage) → Kept
own_kept m = record { octets = m.payload; phase = unbroken }

-- The slots represent what is tracked after the octet's owner has taken it.
pub record IsAfterTake (C : Table) (answers : Answers) (slots : Slots) (tracked : Tracked)
    (message : CutMessage)
    (now : Current) : Type 0 where
  pub keeps : SlotsRepresent C answers slots tracked (owner_of_octet
      (before_with C answers tracked) message)
  pub rising : NumbersRise tracked.still_open
  pub current : IsCurrent now message
  pub payload_count : length message.payload ≡ now.payload_count
  pub newest : length message.payload ≡ lookup_offset message.header →
      IsNewest message.number tracked.still_open
  pub alive : acts_on_open message.header ≡ true → length message.payload
      ≡ lookup_offset message.header →
      tracked.known message.number ≡ Some (own_kept message)
  pub says : begins_with_request_id message.header ≡ true → BeginsWithRequestId message.header

-- What is tracked before this octet of a message comes, and what the code knows of the message at
-- the octet.
pub record IsBeforeOctet (tracked : Tracked) (message : CutMessage) (now : Current)
    (octet : ℕ) : Type 0 where
  pub rising : NumbersRise tracked.still_open
  pub current : IsCurrent now (with_octet message octet)
  pub payload_count : length message.payload + 1 ≡ now.payload_count
  pub newest : length message.payload < lookup_offset message.header →
      IsNewest message.number tracked.still_open
  pub alive : acts_on_open message.header ≡ true →
      length message.payload < lookup_offset message.header →
      tracked.known message.number ≡ Some (own_kept message)
  pub says : begins_with_request_id message.header ≡ true → BeginsWithRequestId message.header

-- what these octets of a message do, which only add to its contents, if one more octet comes after
-- them
abbrev pub effect_before : (C : Table) (answers : Answers) (tracked : Tracked)
    (message : CutMessage) (now : Current) (octets_before_last : List ℕ) → Effect
effect_before C l c m now octets = run_effect C l (now.place - suc (length octets)) c
    (owner_of_next (before_with C l c) m) octets

-- The slots represent what is tracked before octets of a message come: first those that only add to
-- its contents, and then a last one.
pub record IsBeforeOctets (C : Table) (answers : Answers) (slots : Slots) (tracked : Tracked)
    (message : CutMessage) (now : Current) (octets_before_last : List ℕ) (last_octet : ℕ)
    : Type 0 where
  pub keeps : SlotsRepresent C answers slots tracked
      (owner_of_next (before_with C answers tracked) message)
  pub rising : NumbersRise tracked.still_open
  pub same_owner : owner_of_next (before_with C answers
      (effect_before C answers tracked message now octets_before_last).tracked)
      (with_payload message (message.payload ++ octets_before_last)) ≡ owner_of_next
      (before_with C answers tracked) message
  pub last : IsBeforeOctet (effect_before C answers tracked message now octets_before_last).tracked
      (with_payload message (message.payload ++ octets_before_last)) now last_octet

-- what the events of an octet that has come do
abbrev pub octet_effect : (C : Table) (answers : Answers) (most_open_messages : ℕ)
    (tracked : Tracked) (message_up_to_octet : CutMessage) → Effect
octet_effect C l most c m =
    effects (message_reader C l) c (events_of_octet most (before_with C l c) m)

-- what all these octets do: the first ones add to the contents, and the last one does what its
-- events do
abbrev pub octets_effect : (C : Table) (answers : Answers) (most_open_messages : ℕ)
    (tracked : Tracked) (message : CutMessage) (now : Current) (octets_before_last : List ℕ)
    (last_octet : ℕ) → Effect
octets_effect C l most c m now octets octet =
    let ran = effect_before C l c m now octets in
    then_effect ran (octet_effect C l most ran.tracked
    (with_octet (with_payload m (m.payload ++ octets)) octet))

-- The slots represent what is tracked before a message begins, at the last octet of its header.
pub record IsBeforeMessage (C : Table) (answers : Answers) (slots : Slots) (tracked : Tracked)
    (owner : Option MessageKey) (message : CutMessage) (now : Current) : Type 0 where
  pub keeps : SlotsRepresent C answers slots tracked owner
  pub rising : NumbersRise tracked.still_open
  pub current : IsCurrent now message
  pub none_come : message.payload ≡ []
  pub payload_count : now.payload_count ≡ 0
  pub newest : IsNewest message.number tracked.still_open
  pub unknown : tracked.known message.number ≡ Some nothing_kept

-- The slots represent what is tracked after a message has begun, at the last octet of its header.
pub record IsAtHeader (C : Table) (answers : Answers) (slots : Slots) (tracked : Tracked)
    (message : CutMessage)
    (now : Current) : Type 0 where
  pub keeps : SlotsRepresent C answers slots tracked (Some (message_key message))
  pub rising : NumbersRise tracked.still_open
  pub current : IsCurrent now message
  pub none_come : message.payload ≡ []
  pub not_open : IsNotOpen message.number tracked.still_open
  pub alive : is_fragmented_1_1 message.header ≡ true → tracked.known message.number
      ≡ Some nothing_kept
