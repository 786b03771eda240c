-- Lists of slots: those of the code compared with those of the specs, one by one; which slots are
-- ready for an octet, and which calls keep room.
use Rattle.std.proofs.Common.{◌≡◌, ℕ, zero, suc, ◌<◌, ◌≤◌, List, [], ◌∷◌, ◌++◌, length, get_or, refl, ap, ◌∙◌, Option, Some, None, arith}
use Rattle.std.specs.Prelude.{slice_get, slice_set, option_map}
use Rattle.std.specs.List.{remove, AllByRecursion as Each}
use Rattle.giop_message.specs.declared.message.Message.{Message}
use Rattle.giop_entry_table.specs.OptionalIds.{replace_value}
use Rattle.giop_stream.specs.declared.slots.Slot.{Slot as Contents}
use Rattle.giop_stream.specs.declared.slots.Slots.{Slots}
use Rattle.giop_sig.specs.Table.{Table}
use Rattle.giop_message.specs.Signatures.{Answers}
use Rattle.giop_stream.specs.Events.{Open}
use Rattle.giop_stream.specs.OpenSlots.{Slot, KeptByNumber, slots_of, Tracked}
use Rattle.giop_stream.specs.SlotsRepresent.{OpenEntry, with_message, IsReady, KeepsRoom, IsSlot, AreSlots}

pub slots_get : (c : Tracked) (k : ℕ) (o : Open) → slice_get c.still_open k ≡ Some o
    → slice_get (slots_of c.known c.still_open) k
    ≡ Some (record { open_as = o; kept = c.known o.opener.number })
unfolding slots_of
slots_get c k o e = go c.still_open k e
  where
    go : (still_open : List Open) (k : ℕ) → slice_get still_open k ≡ Some o
        → slice_get (slots_of c.known still_open) k
        ≡ Some (record { open_as = o; kept = c.known o.opener.number })
    go [] k e = absurd cc
    go (a ∷ still_open) zero e = search (arith)
    go (a ∷ still_open) (suc k) e = go still_open k e

pub get_last : (still_open : List Open) (o : Open) →
    slice_get (still_open ++ o ∷ []) (length still_open) ≡ Some o
get_last [] o = refl
get_last (a ∷ still_open) o = get_last still_open o

pub slots_many : (K : KeptByNumber) (still_open : List Open) →
    length (slots_of K still_open) ≡ length still_open
unfolding slots_of
slots_many K [] = refl
slots_many K (o ∷ still_open) = ap suc (slots_many K still_open)

-- ---- A value among the entries of the table of open messages.

-- the entry that holds the value
pub entry_there : (ks : List OpenEntry) (k : ℕ) (v : Contents) →
    option_map (λ e. e.value) (slice_get ks k) ≡ Some v
    → (x : OpenEntry) × (slice_get ks k ≡ Some x) × (x.value ≡ v)
entry_there [] k v e = absurd cc
entry_there (y ∷ ks) zero v e = search (arith)
entry_there (y ∷ ks) (suc k) v e = entry_there ks k v e

-- the entry with this id and this value
pub entry_is : (ks : List OpenEntry) (k : ℕ) (x : OpenEntry) →
    option_map (λ e. e.key) (slice_get ks k) ≡ Some x.key
    → option_map (λ e. e.value) (slice_get ks k) ≡ Some x.value → x ≡ get_or ks k x
entry_is [] k x i v = absurd cc
entry_is (y ∷ ks) zero x i v = search (arith)
entry_is (y ∷ ks) (suc k) x i v = entry_is ks k x i v

pub value_at : (ks : List OpenEntry) (k : ℕ) (v : Contents) (d : OpenEntry) →
    option_map (λ e. e.value) (slice_get ks k) ≡ Some v
    → (get_or ks k d).value ≡ v
value_at [] k v d e = absurd cc
value_at (y ∷ ks) zero v d e = search (arith)
value_at (y ∷ ks) (suc k) v d e = value_at ks k v d e

pub none_beyond : (ks : List OpenEntry) (k : ℕ) →
    None ≡ option_map (λ e. e.value) (slice_get ks k) → k < length ks → ⊥
none_beyond [] k e l = omega (arith, l)
none_beyond (y ∷ ks) zero e l = search (arith)
none_beyond (y ∷ ks) (suc k) e l = none_beyond ks k e (omega (arith, l))

pub some_within : (ks : List OpenEntry) (k : ℕ) (v : Contents) →
    Some v ≡ option_map (λ e. e.value) (slice_get ks k) → k < length ks
some_within [] k v e = absurd cc
some_within (y ∷ ks) zero v e = omega arith
some_within (y ∷ ks) (suc k) v e = search (arith, some_within ks k v e)

-- the entry after its message was replaced
pub revalued_set : (ks : List OpenEntry) (k : ℕ) (x : OpenEntry) (message : Option Message) →
    slice_get ks k ≡ Some x
    → replace_value ks k (with_message x message).value ≡ slice_set ks k (with_message x message)
revalued_set [] k x message e = refl
revalued_set (y ∷ ks) zero x message e = search (arith)
revalued_set (y ∷ ks) (suc k) x message e = search (arith, revalued_set ks k x message e)

module _ (C : Table) (l : Answers) where
  pub slot_of : (ks : List OpenEntry) (ss : List Slot) (k : ℕ) (x : OpenEntry) (s : Slot) →
      AreSlots C l ks ss
      → slice_get ks k ≡ Some x → slice_get ss k ≡ Some s → IsSlot C l x s
  slot_of [] ss k x s h e f = absurd cc
  slot_of (y ∷ ks) [] k x s h e f = absurd cc
  slot_of (y ∷ ks) (t ∷ ss) zero x s h e f = search (arith)
  slot_of (y ∷ ks) (t ∷ ss) (suc k) x s h e f = slot_of ks ss k x s h.1 e f

  pub set_slot : (ks : List OpenEntry) (ss : List Slot) (k : ℕ) (x : OpenEntry) (s : Slot) →
      AreSlots C l ks ss
      → IsSlot C l x s → AreSlots C l (slice_set ks k x) (slice_set ss k s)
  set_slot [] [] k x s h i = tt
  set_slot [] (t ∷ ss) k x s h i = absurd h
  set_slot (y ∷ ks) [] k x s h i = absurd h
  set_slot (y ∷ ks) (t ∷ ss) zero x s h i = (i, h.1)
  set_slot (y ∷ ks) (t ∷ ss) (suc k) x s h i = (h.0, set_slot ks ss k x s h.1 i)

  pub no_more_slots : (ks : List OpenEntry) (ss : List Slot) (k : ℕ) (s : Slot) →
      AreSlots C l ks ss → slice_get ss k ≡ Some s → k < length ks
  no_more_slots [] [] k s h e = absurd cc
  no_more_slots [] (t ∷ ss) k s h e = absurd h
  no_more_slots (y ∷ ks) [] k s h e = absurd h
  no_more_slots (y ∷ ks) (t ∷ ss) zero s h e = omega arith
  no_more_slots (y ∷ ks) (t ∷ ss) (suc k) s h e = search (arith, no_more_slots ks ss k s h.1 e)

  pub are_as_many : (ks : List OpenEntry) (ss : List Slot) → AreSlots C l ks ss →
      length ks ≡ length ss
  are_as_many [] [] h = refl
  are_as_many [] (s ∷ ss) h = absurd h
  are_as_many (k ∷ ks) [] h = absurd h
  are_as_many (k ∷ ks) (s ∷ ss) h = ap suc (are_as_many ks ss h.1)

  pub push_slot : (ks : List OpenEntry) (ss : List Slot) (x : OpenEntry) (s : Slot) →
      AreSlots C l ks ss → IsSlot C l x s
      → AreSlots C l (ks ++ x ∷ []) (ss ++ s ∷ [])
  push_slot [] [] x s h i = (i, tt)
  push_slot [] (t ∷ ss) x s h i = absurd h
  push_slot (k ∷ ks) [] x s h i = absurd h
  push_slot (k ∷ ks) (t ∷ ss) x s h i = (h.0, push_slot ks ss x s h.1 i)

  pub remove_slot : (ks : List OpenEntry) (ss : List Slot) (k : ℕ) → AreSlots C l ks ss →
      AreSlots C l (remove ks k) (remove ss k)
  remove_slot [] [] zero h = tt
  remove_slot [] [] (suc k) h = tt
  remove_slot [] (s ∷ ss) k h = absurd h
  remove_slot (x ∷ ks) [] k h = absurd h
  remove_slot (x ∷ ks) (s ∷ ss) zero h = h.1
  remove_slot (x ∷ ks) (s ∷ ss) (suc k) h = (h.0, remove_slot ks ss k h.1)

-- ---- Slots that are ready for an octet.

pub later_ready : (C : Table) (n n' : ℕ) (message : Option Message) → n ≤ n' → IsReady C n message →
    IsReady C n' message
later_ready C n n' None less h = tt
later_ready C n n' (Some m) less h = (h.0, omega (arith, h.1))

pub all_later : (C : Table) (n n' : ℕ) (ks : List OpenEntry) → n ≤ n' →
    Each (λ slot. IsReady C n slot.value.message) ks →
    Each (λ slot. IsReady C n' slot.value.message) ks
all_later C n n' [] less h = tt
all_later C n n' (k ∷ ks) less h = search (arith, later_ready, all_later C n n' ks less h.1)

pub ready_at : (C : Table) (n : ℕ) (ks : List OpenEntry) (k : ℕ) (v : Contents) →
    option_map (λ e. e.value) (slice_get ks k) ≡ Some v
    → Each (λ slot. IsReady C n slot.value.message) ks → IsReady C n v.message
ready_at C n [] k v e hs = absurd cc
ready_at C n (y ∷ ks) zero v e hs = search (arith)
ready_at C n (y ∷ ks) (suc k) v e hs = ready_at C n ks k v e hs.1

pub value_ready : (C : Table) (n : ℕ) (ks : List OpenEntry) (k : ℕ) (v : Contents) →
    IsReady C n v.message
    → Each (λ slot. IsReady C n slot.value.message) ks →
    Each (λ slot. IsReady C n slot.value.message) (replace_value ks k v)
value_ready C n [] k v h hs = tt
value_ready C n (y ∷ ks) zero v h hs = (h, hs.1)
value_ready C n (y ∷ ks) (suc k) v h hs = (hs.0, value_ready C n ks k v h hs.1)

pub push_ready : (C : Table) (n : ℕ) (ks : List OpenEntry) (x : OpenEntry) →
    IsReady C n x.value.message
    → Each (λ slot. IsReady C n slot.value.message) ks →
    Each (λ slot. IsReady C n slot.value.message) (ks ++ x ∷ [])
push_ready C n [] x h hs = (h, tt)
push_ready C n (y ∷ ks) x h hs = (hs.0, push_ready C n ks x h hs.1)

-- if two calls each keep room, both together keep it
pub room_then : {old between new : Slots} → KeepsRoom old between → KeepsRoom between new
    → KeepsRoom old new
room_then a b = record { most = b.most ∙ a.most; ready = λ C n h. b.ready C n (a.ready C n h) }
