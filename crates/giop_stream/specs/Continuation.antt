-- A Fragment of an open message, if the last octet of its header and its request id come together
-- (state, steps). Only private clauses cite these.
use Rattle.std.specs.Prelude.{◌≡◌, ◌<◌, ◌≤◌, ℕ, true, List, [], ◌∷◌, ◌++◌, length, Option, Some, None}
use Rattle.std.specs.List.{position_from}
use Rattle.giop_cdr.specs.Numbers.{num}
use Rattle.giop_entry_table.specs.OptionalIds.{is_id}
use Rattle.giop_sig.specs.Table.{Table}
use Rattle.giop_message.specs.Headers.{order, size, is_fragment_1_2}
use Rattle.giop_message.specs.Signatures.{Answers}
use Rattle.giop_stream.specs.declared.slots.Slots.{Slots}
use Rattle.giop_stream.specs.declared.current.Current.{Current}
use Rattle.giop_stream.specs.declared.fragment.Continuation.{Continuation}
use Rattle.giop_stream.specs.Framing.{CutMessage, with_payload}
use Rattle.giop_stream.specs.Events.{MessageKey, NumbersRise, id}
use Rattle.giop_stream.specs.Effects.{Effect, line_effect, start_line_of, with_octet}
use Rattle.giop_stream.specs.Lines.{Kept}
use Rattle.giop_stream.specs.OpenSlots.{Tracked}
use Rattle.giop_stream.specs.SlotsRepresent.{SlotsRepresent}
use Rattle.giop_stream.specs.PayloadOwner.{IsCurrent, IsBeforeOctet, octet_effect}

-- The open message with this request id is at this index.
pub record IsOpenAt (slots : Slots) (found : Continuation) : Type 0 where
  pub within : found.index < length slots.slots.entries
  pub here : position_from (λ slot. is_id found.id slot.key) 0 slots.slots.entries ≡ Some
      found.index

-- These five octets, after the first eleven of a header, are the header's last one and the request
-- id of a Fragment that continues this open message.
pub record IsContinuation (eleven_header_octets five_octets_after : List ℕ) (slots : Slots)
    (found : Continuation) : Type 0 where
  pub last : ℕ
  pub id : List ℕ
  pub parts : five_octets_after ≡ last ∷ id
  pub eleven : length eleven_header_octets ≡ 11
  pub four : length id ≡ 4
  pub fragment : is_fragment_1_2 (eleven_header_octets ++ last ∷ []) ≡ true
  pub sized : 4 ≤ size (eleven_header_octets ++ last ∷ [])
  pub spells : found.id ≡ num (order (eleven_header_octets ++ last ∷ [])) id
  pub open_at : IsOpenAt slots found

-- The slots represent what is tracked when the request id of a Fragment is complete, and it makes
-- no difference which message owns the octets until then.
pub record IsContinuing (C : Table) (answers : Answers) (slots : Slots) (tracked : Tracked)
    (owner_until_now : Option MessageKey) (message : CutMessage) (now : Current) : Type 0 where
  pub keeps : SlotsRepresent C answers slots tracked owner_until_now
  pub rising : NumbersRise tracked.still_open
  pub current : IsCurrent now message
  pub alive : (kept : Kept) × (tracked.known message.number ≡ Some kept)

-- The slots represent what is tracked before the last octet of a Fragment's request id, without
-- the Fragment itself.
pub record IsBeforeContinuation (C : Table) (answers : Answers) (slots : Slots) (tracked : Tracked)
    (message : CutMessage) (now : Current) (last_id_octet : ℕ) (found : Continuation) : Type 0 where
  pub keeps : SlotsRepresent C answers slots tracked None
  pub before : IsBeforeOctet tracked message now last_id_octet
  pub three : length message.payload ≡ 3
  pub fragment : is_fragment_1_2 message.header ≡ true
  pub spells : id (with_octet message last_id_octet) ≡ found.id
  pub open_at : IsOpenAt slots found

-- what the last octet of a Fragment's header and the octets of its request id do: the message
-- starts, and the last octet does what its events do
abbrev pub continuation_effect : (C : Table) (answers : Answers) (most_open_messages : ℕ)
    (tracked : Tracked) (message : CutMessage) (last_id_octet : ℕ) → Effect
continuation_effect C l most c m octet =
    line_effect (start_line_of (with_payload m [])) (octet_effect C l most c (with_octet m octet))
