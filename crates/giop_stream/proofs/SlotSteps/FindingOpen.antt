-- Which open message under a key the code finds.
use Rattle.std.proofs.Common.{◌≡◌, ℕ, suc, ◌+◌, Bool, true, false, cond, List, [], ◌∷◌, refl, sym, subst, Option, Some, None, arith}
use Rattle.std.specs.Prelude.{is_none, slice_get, if◌then◌else◌}
use Rattle.std.specs.List.{find, position_from}
use Rattle.giop_entry_table.specs.OptionalIds.{is_id}
use Rattle.giop_stream.specs.declared.slots.Slots.{Slots}
use Rattle.giop_stream.specs.SlotsRepresent.{OpenEntry, AreSlots, SlotsRepresent, index_under}
use Rattle.giop_stream.specs.Events.{MessageKey, Open, open_under, open_message_1_1}
use Rattle.giop_stream.specs.Events as events
use Rattle.giop_stream.specs.OpenSlots.{KeptByNumber, slots_of, Tracked, before_in}
use Rattle.giop_stream.specs.PayloadOwner.{before_with}
use Rattle.giop_sig.specs.Table.{Table}
use Rattle.giop_message.specs.Signatures.{Answers}

-- ---- The first open message whose key passes a test.

-- the result of a search: none, or the index of the message
pub IsSearchResult : (Option ℕ → Bool) → List Open → ℕ → Option ℕ → Type 0
IsSearchResult test still_open n None = find (λ o. test o.key) still_open ≡ None
IsSearchResult test still_open n (Some k) = (o : Open) × (at : ℕ) × (k ≡ n + at)
    × (slice_get still_open at ≡ Some o) × (find (λ o. test o.key) still_open ≡ Some o)

module _ (test : Option ℕ → Bool) where
  found_next : (a : Open) (still_open : List Open) (n : ℕ) (r : Option ℕ) → test a.key ≡ false →
      IsSearchResult test still_open (n + 1) r → IsSearchResult test (a ∷ still_open) n r
  unfolding IsSearchResult
  found_next a still_open n None e h = rw e h
  found_next a still_open n (Some k) e h = (h.0, suc h.1, omega (arith, h.2), h.3, rw e h.4)

  found_by : (a : Open) (still_open : List Open) (n : ℕ) (b : Bool) → test a.key ≡ b
      → IsSearchResult test still_open (n + 1) (position_from (λ o. test o.key) (n + 1) still_open)
      → IsSearchResult test (a ∷ still_open) n (cond b (Some n)
      (position_from (λ o. test o.key) (n + 1) still_open))
  unfolding IsSearchResult
  found_by a still_open n true e h = (a, 0, omega arith, refl, rw e refl)
  found_by a still_open n false e h = search (arith, found_next)

  found : (still_open : List Open) (n : ℕ) →
      IsSearchResult test still_open n (position_from (λ o. test o.key) n still_open)
  unfolding IsSearchResult
  found [] n = refl
  found (a ∷ still_open) n = search (arith, found_by, found still_open (n + 1))

-- the code's test of a key is that of the events
same_test : (i : ℕ) (key : Option ℕ) → is_id i key ≡ events.is_same_id key (Some i)
same_test i None = refl
same_test i (Some id) = refl

-- the code finds the message at this index
pub record OpenAt (tracked : Tracked) (other : Option Open) (k : ℕ) : Type 0 where
  pub o : Open
  pub here : slice_get tracked.still_open k ≡ Some o
  pub is : other ≡ Some o

module _ (C : Table) (l : Answers) where
  keys_found : (test test' : Option ℕ → Bool) → ((key : Option ℕ) → test key ≡ test' key) →
      (ks : List OpenEntry) (K : KeptByNumber) (still_open : List Open) (n : ℕ) →
      AreSlots C l ks (slots_of K still_open)
      → position_from (λ slot. test slot.key) n ks
      ≡ position_from (λ o. test' o.key) n still_open
  unfolding slots_of
  keys_found test test' same [] K [] n h = refl
  keys_found test test' same [] K (o ∷ still_open) n h = absurd h
  keys_found test test' same (k ∷ ks) K [] n h = absurd h
  keys_found test test' same (k ∷ ks) K (o ∷ still_open) n h =
      rw (h.0.key, same o.key, keys_found test test' same ks K still_open (n + 1) h.1) refl

  module _ (s : Slots) (c : Tracked) (who : Option MessageKey)
      (h : SlotsRepresent C l s c who) where
    -- the search by a test, with what it finds
    IsIndexOfFound : Option Open → Option ℕ → Type 0
    IsIndexOfFound r None = r ≡ None
    IsIndexOfFound r (Some k) = OpenAt c r k

    finds_by : (test : Option ℕ → Bool) (r : Option ℕ) → IsSearchResult test c.still_open 0 r →
        IsIndexOfFound (find (λ o. test o.key) c.still_open) r
    unfolding IsSearchResult IsIndexOfFound
    finds_by test None f = f
    finds_by test (Some k) f =
        let same : f.1 ≡ k = omega (arith, f.2) in
        record {
          o = f.0;
          here = subst (λ (n : ℕ). slice_get c.still_open n ≡ Some f.0) same f.3;
          is = f.4;
        }

    finds_test : (test test' : Option ℕ → Bool) → ((key : Option ℕ) → test key ≡ test' key) →
        IsIndexOfFound (find (λ o. test' o.key) c.still_open)
        (position_from (λ slot. test slot.key) 0 s.slots.entries)
    finds_test test test' same =
        rw (keys_found test test' same s.slots.entries c.known c.still_open 0 h.slots)
        (finds_by test' _ (found test' c.still_open 0))

    finds_if : (a b : Bool) → a ≡ b →
        IsIndexOfFound (if a then None else find (λ o. is_none o.key) c.still_open)
        (if b then None else position_from (λ slot. is_none slot.key) 0 s.slots.entries)
    unfolding IsIndexOfFound
    finds_if true true e = refl
    finds_if true false e = absurd cc
    finds_if false true e = absurd cc
    finds_if false false e = finds_test is_none is_none (λ key. refl)

    finds_pending : IsIndexOfFound (open_message_1_1 (before_with C l c))
        (if s.is_mixed then None
        else position_from (λ slot. is_none slot.key) 0 s.slots.entries)
    unfolding open_message_1_1 before_in
    finds_pending = finds_if c.mixed s.is_mixed (sym h.mixed)

    finds_under : (key : Option ℕ) → IsIndexOfFound (open_under (before_with C l c) key)
        (index_under s key)
    unfolding before_in
    finds_under (Some i) =
        finds_test (is_id i) (λ key. events.is_same_id key (Some i)) (same_test i)
    finds_under None = finds_pending

    pub none_open : (key : Option ℕ) → index_under s key ≡ None →
        open_under (before_with C l c) key ≡ None
    unfolding IsIndexOfFound
    none_open key e = subst (IsIndexOfFound (open_under (before_with C l c) key)) e
        (finds_under key)

    pub one_open : (key : Option ℕ) (k : ℕ) → index_under s key ≡ Some k →
        OpenAt c (open_under (before_with C l c) key) k
    unfolding IsIndexOfFound
    one_open key k e = subst (IsIndexOfFound (open_under (before_with C l c) key)) e
        (finds_under key)
