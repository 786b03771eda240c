-- When the code's slots represent what is tracked of the messages of a stream (state).
use Rattle.std.specs.Prelude.{◌≡◌, ◌<◌, ℕ, cond, List, [], ◌∷◌, Option, Some, None, is_none, slice_get, if◌then◌else◌}
use Rattle.std.specs.List.{position_from, AllByRecursion as Each}
use Rattle.giop_sig.specs.Table.{Table}
use Rattle.giop_message.specs.declared.message.Message.{Message as CodeMessage}
use Rattle.giop_message.specs.Signatures.{Answers}
use Rattle.giop_message.specs.MessageState.{Follows, Fits, octets_taken}
use Rattle.giop_entry_table.specs.OptionalIds.{is_id}
use Rattle.giop_entry_table.specs.declared.optional_ids.OptionalIdEntry.{OptionalIdEntry as Entry}
use Rattle.giop_stream.specs.declared.slots.Slot.{Slot as Contents}
use Rattle.giop_stream.specs.declared.slots.Slots.{Slots}
use Rattle.giop_stream.specs.declared.slots.PayloadOwner.{PayloadOwner}
use Rattle.giop_stream.specs.declared.slots.PayloadOwner.TheVariants.{Current, Open}
use Rattle.giop_stream.specs.Events.{MessageKey}
use Rattle.giop_stream.specs.Events as events
use Rattle.giop_stream.specs.Lines.{Kept}
use Rattle.giop_stream.specs.OpenSlots.{Slot, Tracked, slots_at, IsNotOpen}

-- An open message, under its key.
abbrev pub OpenEntry : Type 0
OpenEntry = Entry Contents

abbrev pub open_entry : (key : Option ℕ) (message_number : ℕ) (header : List ℕ)
    (message : Option CodeMessage) → OpenEntry
open_entry key number header message =
    record { key = key; value = record { number = number; header = header; message = message } }

-- the same open message with another state of its reading
abbrev pub with_message : (slot : OpenEntry) (message : Option CodeMessage) → OpenEntry
with_message slot message = open_entry slot.key slot.value.number slot.value.header message

-- The code's message has read the octets that are kept. If the message is over, there is none.
abbrev pub RepresentsMessage : (C : Table) (answers : Answers) (message : Option CodeMessage)
    (key : MessageKey) (kept : Option Kept) → Type 0
RepresentsMessage C l (Some m) w (Some kept) =
    Follows C l kept.phase w.number w.header m kept.octets
RepresentsMessage C l None w None = Unit {0}
RepresentsMessage C l (Some m) w None = ⊥
RepresentsMessage C l None w (Some kept) = ⊥

-- A message can take the octet at this place: it fits the table, and has fewer octets than the
-- stream has up to this place.
abbrev pub IsReady : (C : Table) (place_in_stream_from_1 : ℕ) (message : Option CodeMessage) →
    Type 0
IsReady C at None = Unit {0}
IsReady C at (Some m) = Fits C m × (octets_taken m < at)

-- the current message, unless it is open or over
abbrev pub current_of : (payload_owner : PayloadOwner) → Option CodeMessage
current_of (Current message is_over) = cond is_over None message
current_of (Open k) = None

-- the index of the open message that the payload's octets belong to
abbrev pub index_of : (payload_owner : PayloadOwner) → Option ℕ
index_of (Current message is_over) = None
index_of (Open k) = k

-- each message in the slots can take the octet at this place
pub record AreReady (C : Table) (place_in_stream_from_1 : ℕ) (slots : Slots) : Type 0 where
  pub current_ready : IsReady C place_in_stream_from_1 (current_of slots.owner)
  pub each_ready : Each (λ slot. IsReady C place_in_stream_from_1 slot.value.message)
      slots.slots.entries

-- there is as much room as before: the same number of messages may be open; and if each message in
-- the slots could take the octet at a place, each of them still can
pub record KeepsRoom (old new : Slots) : Type 0 where
  pub most : new.slots.most ≡ old.slots.most
  pub ready : (C : Table) (at : ℕ) → AreReady C at old → AreReady C at new

pub record IsSlot (C : Table) (answers : Answers) (code_entry : OpenEntry) (slot : Slot)
    : Type 0 where
  pub number : code_entry.value.number ≡ slot.open_as.opener.number
  pub header : code_entry.value.header ≡ slot.open_as.opener.header
  pub key : code_entry.key ≡ slot.open_as.key
  pub message : RepresentsMessage C answers code_entry.value.message slot.open_as.opener slot.kept

abbrev pub AreSlots : (C : Table) (answers : Answers) (code_entries : List OpenEntry)
    (slots : List Slot) → Type 0
AreSlots C l [] [] = Unit {0}
AreSlots C l (kept ∷ more) (slot ∷ slots) = IsSlot C l kept slot × AreSlots C l more slots
AreSlots C l [] (slot ∷ slots) = ⊥
AreSlots C l (kept ∷ more) [] = ⊥

-- the owner of the payload's octets: the open message at this index; or a message that isn't open,
-- and this is kept of it; or none
abbrev pub PayloadBelongs : (C : Table) (answers : Answers) (open_index : Option ℕ)
    (current_message : Option CodeMessage) (tracked : Tracked) (owner : Option MessageKey) → Type 0
PayloadBelongs C l (Some index) message c None = ⊥
PayloadBelongs C l (Some index) message c (Some w) =
    (o : events.Open) × (slice_get c.still_open index ≡ Some o) × (o.opener ≡ w)
PayloadBelongs C l None message c None = message ≡ None
PayloadBelongs C l None message c (Some w) =
    IsNotOpen w.number c.still_open × RepresentsMessage C l message w (c.known w.number)

-- the slots are those of the open messages, with what is kept of each of them; it is known whether
-- Fragments of 1.1 may belong to several messages; and the owner is this message
pub record SlotsRepresent (C : Table) (answers : Answers) (code_slots : Slots) (tracked : Tracked)
    (owner_of_next : Option MessageKey) : Type 0 where
  pub slots : AreSlots C answers code_slots.slots.entries (slots_at tracked)
  pub mixed : code_slots.is_mixed ≡ tracked.mixed
  pub owner : PayloadBelongs C answers (index_of code_slots.owner) (current_of code_slots.owner)
      tracked owner_of_next

-- the index of the open message under this key; of the one without a key there is none if
-- Fragments of 1.1 aren't joined any more
abbrev pub index_under : (slots : Slots) (key : Option ℕ) → Option ℕ
index_under s (Some id) = position_from (λ slot. is_id id slot.key) 0 s.slots.entries
index_under s None =
    if s.is_mixed then None else position_from (λ slot. is_none slot.key) 0 s.slots.entries

-- the slots hold no message
pub record IsBare (slots : Slots) : Type 0 where
  pub no_slots : slots.slots.entries ≡ []
  pub no_owner : slots.owner ≡ Open None
