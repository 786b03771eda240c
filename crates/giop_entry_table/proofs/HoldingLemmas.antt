-- The entries of a table, made of its ids, slab numbers and values: how many there are, the entry
-- at an index, and what they are after one is added, removed or changed.
use Rattle.std.proofs.Common.{◌≡◌, ◌≢◌, ◌<◌, ◌==◌, ◌+◌, ◌≤◌, ℕ, zero, suc, false, eqb, cond, List, [], ◌∷◌, ◌++◌, length, get_or, Option, Some, None, IsSome, slice_get, refl, sym, ap, ◌∙◌, arith, length-append, inl, inr, map, drop, set, is_some, count_by}
use Rattle.std.specs.List.{AllByRecursion as Each, IsDistinct, remove, position_from}
use Rattle.std.proofs.lemmas.List.Sums.{sum_by-cons}
use Rattle.std.proofs.lemmas.Bool.{eqb-false, cases_eq}
use Rattle.std.proofs.lemmas.List.Edits.{length-remove}
use Rattle.giop_entry_table.proofs.ListLemmas.{remove-nil, each-at, each-both, each-map, each-push, each-remove, distinct-push, distinct-remove, others-remove}
use Rattle.std.proofs.lemmas.Option.{slice_get-map, slice_get_past}
use Rattle.std.specs.Option.{option_map}
use Rattle.slab.specs.Slab.{Slab, get, slab_len, Updates, with_value}
use Rattle.giop_entry_table.specs.declared.entry_table.Entry.{Entry}
use Rattle.giop_entry_table.specs.EntryTable.{replace_value}
use Rattle.giop_entry_table.specs.EntryTableView.{entries_of, MatchesSlab}

-- the slab has a value under each of these numbers
abbrev pub HaveValues : {V : Type 0} (values : Slab V) (numbers : List ℕ) → Type 0
HaveValues values numbers = Each (λ number. IsSome (get values number)) numbers

-- two slabs have the same under each of these numbers
abbrev pub HaveSameValues : {V : Type 0} (old new : Slab V) (numbers : List ℕ) → Type 0
HaveSameValues old new numbers = Each (λ number. get new number ≡ get old number) numbers

module _ {V : Type 0} where
  -- the value that is there
  pub there : (o : Option V) → IsSome o → (v : V) × (o ≡ Some v)
  there None p = absurd (cc)
  there (Some v) p = (v, refl)

  pub length-entries : (values : Slab V) (keys numbers : List ℕ) → length keys ≡ length numbers →
      HaveValues values numbers →
      length (entries_of values keys numbers) ≡ length numbers
  length-entries values [] [] same held = refl
  length-entries values [] (n ∷ ns) same held = absurd (omega (arith, same))
  length-entries values (k ∷ ks) [] same held = absurd (omega (arith, same))
  length-entries values (k ∷ ks) (n ∷ ns) same held =
      let v = there (get values n) held.0 in
      let rest = length-entries values ks ns (omega (arith, same)) held.1 in
      rw v.1 (ap suc rest)

  pub entry_at : (values : Slab V) (keys numbers : List ℕ) (index : ℕ) (v : V) →
      length keys ≡ length numbers → HaveValues values numbers →
      index < length numbers → get values (get_or numbers index 0) ≡ Some v →
      slice_get (entries_of values keys numbers) index
      ≡ Some (record { key = get_or keys index 0; value = v })
  entry_at values [] numbers index v same held within found = absurd (omega (arith, same, within))
  entry_at values (k ∷ ks) [] index v same held within found = absurd (omega (arith, within))
  entry_at values (k ∷ ks) (n ∷ ns) zero v same held within found = rw found refl
  entry_at values (k ∷ ks) (n ∷ ns) (suc index) v same held within found =
      let first = there (get values n) held.0 in
      let rest = entry_at values ks ns index v (omega (arith, same)) held.1 (omega (arith, within))
      found in
      rw first.1 rest

  pub entries-same : (old new : Slab V) (keys numbers : List ℕ) → HaveSameValues old new numbers →
      entries_of new keys numbers ≡ entries_of old keys numbers
  entries-same old new [] numbers same = refl
  entries-same old new (k ∷ ks) [] same = refl
  entries-same old new (k ∷ ks) (n ∷ ns) same = rw (same.0, entries-same old new ks ns same.1) refl

  pub entries-push : (values : Slab V) (keys numbers : List ℕ) (key number : ℕ) (v : V) →
      length keys ≡ length numbers → HaveValues values numbers →
      get values number ≡ Some v →
      entries_of values (keys ++ key ∷ []) (numbers ++ number ∷ [])
      ≡ entries_of values keys numbers ++ record { key = key; value = v } ∷ []
  entries-push values [] [] key number v same held found = rw found refl
  entries-push values [] (n ∷ ns) key number v same held found = absurd (omega (arith, same))
  entries-push values (k ∷ ks) [] key number v same held found = absurd (omega (arith, same))
  entries-push values (k ∷ ks) (n ∷ ns) key number v same held found =
      let first = there (get values n) held.0 in
      let rest = entries-push values ks ns key number v (omega (arith, same)) held.1 found in
      rw (first.1, rest) refl

  pub entries-remove : (values : Slab V) (keys numbers : List ℕ) (index : ℕ) →
      length keys ≡ length numbers → HaveValues values numbers →
      entries_of values (remove keys index) (remove numbers index)
      ≡ remove (entries_of values keys numbers) index
  entries-remove values [] [] index same held =
      rw (remove-nil {X = ℕ} index, remove-nil {X = Entry V} index) refl
  entries-remove values [] (n ∷ ns) index same held = absurd (omega (arith, same))
  entries-remove values (k ∷ ks) [] index same held = absurd (omega (arith, same))
  entries-remove values (k ∷ ks) (n ∷ ns) zero same held =
      let first = there (get values n) held.0 in
      rw first.1 refl
  entries-remove values (k ∷ ks) (n ∷ ns) (suc index) same held =
      let first = there (get values n) held.0 in
      let rest = entries-remove values ks ns index (omega (arith, same)) held.1 in
      rw first.1 (rw rest refl)

  pub entries-revalued : (old new : Slab V) (keys numbers : List ℕ) (index : ℕ) (v : V) →
      length keys ≡ length numbers → HaveValues old numbers →
      IsDistinct eqb numbers → index < length numbers →
      Updates old new (get_or numbers index 0) (Some v) →
      entries_of new keys numbers ≡ replace_value (entries_of old keys numbers) index v
  unfolding IsDistinct
  entries-revalued old new keys [] index v same held distinct within updates =
      absurd (omega (arith, within))
  entries-revalued old new [] (n ∷ ns) index v same held distinct within updates =
      absurd (omega (arith, same))
  entries-revalued old new (k ∷ ks) (n ∷ ns) zero v same held distinct within updates =
      let first = there (get old n) held.0 in
      let kept : HaveSameValues old new ns = each-map (λ m. eqb n m ≡ false) (λ m. get new m
      ≡ get old m)
      (λ m apart. updates.others m (λ e. eqb-false n m apart (sym e))) ns distinct.0 in
      rw (first.1, updates.changed, entries-same old new ks ns kept) refl
  entries-revalued old new (k ∷ ks) (n ∷ ns) (suc index) v same held distinct within updates =
      let first = there (get old n) held.0 in
      let short : index < length ns = omega (arith, within) in
      let apart = each-at (λ m. eqb n m ≡ false) ns index distinct.0 short in
      let kept = updates.others n (eqb-false n _ apart) in
      let rest = entries-revalued old new ks ns index v (omega (arith, same)) held.1 distinct.1
      short updates in
      rw (kept, first.1, rest) refl

  pub position-entries : (values : Slab V) (keys numbers : List ℕ) (key from : ℕ) →
      length keys ≡ length numbers → HaveValues values numbers →
      position_from (λ e. e.key == key) from (entries_of values keys numbers)
      ≡ position_from (λ k. k == key) from keys
  position-entries values [] numbers key from same held = refl
  position-entries values (k ∷ ks) [] key from same held = absurd (omega (arith, same))
  position-entries values (k ∷ ks) (n ∷ ns) key from same held =
      let first = there (get values n) held.0 in
      let rest = position-entries values ks ns key (from + 1) (omega (arith, same)) held.1 in
      rw first.1 (ap (cond (k == key) (Some from)) rest)

  pub keys-of : (values : Slab V) (keys numbers : List ℕ) → length keys ≡ length numbers →
      HaveValues values numbers →
      map (λ e. e.key) (entries_of values keys numbers) ≡ keys
  keys-of values [] numbers same held = refl
  keys-of values (k ∷ ks) [] same held = absurd (omega (arith, same))
  keys-of values (k ∷ ks) (n ∷ ns) same held =
      let first = there (get values n) held.0 in
      rw first.1 (ap (λ ks. k ∷ ks) (keys-of values ks ns (omega (arith, same)) held.1))

  position-keys : (es : List (Entry V)) (key from : ℕ) →
      position_from (λ e. e.key == key) from es
      ≡ position_from (λ k. k == key) from (map (λ e. e.key) es)
  position-keys [] key from = refl
  position-keys (e ∷ es) key from =
      ap (cond (e.key == key) (Some from)) (position-keys es key (from + 1))

  drop-keys : (es : List (Entry V)) (n : ℕ) →
      map (λ e. e.key) (drop n es) ≡ drop n (map (λ e. e.key) es)
  drop-keys es zero = refl
  drop-keys [] (suc n) = refl
  drop-keys (e ∷ es) (suc n) = drop-keys es n

  pub position-entries-after : (values : Slab V) (keys numbers : List ℕ) (key n : ℕ) →
      length keys ≡ length numbers → HaveValues values numbers →
      position_from (λ e. e.key == key) n (drop n (entries_of values keys numbers))
      ≡ position_from (λ k. k == key) n (drop n keys)
  position-entries-after values keys numbers key n same held =
      position-keys (drop n (entries_of values keys numbers)) key n
      ∙ ap (position_from (λ k. k == key) n) (drop-keys (entries_of values keys numbers) n
      ∙ ap (drop n) (keys-of values keys numbers same held))

  -- if ids, numbers and values are tied, there are as many entries as numbers
  pub length-held : (keys numbers : List ℕ) (values : Slab V) → MatchesSlab keys numbers values →
      length (entries_of values keys numbers) ≡ length numbers
  length-held keys numbers values tied = length-entries values keys numbers tied.as_many tied.held

  pub held-at : (keys numbers : List ℕ) (values : Slab V) (index : ℕ) →
      MatchesSlab keys numbers values → index < length numbers →
      (v : V) × (get values (get_or numbers index 0) ≡ Some v)
      × (slice_get (entries_of values keys numbers) index
      ≡ Some (record { key = get_or keys index 0; value = v }))
  held-at keys numbers values index tied within =
      let v = there _ (each-at (λ n. IsSome (get values n)) numbers index tied.held within) in
      (v.0, v.1, entry_at values keys numbers index v.0 tied.as_many tied.held within v.1)

  same-beside : (old new : Slab V) (number : ℕ) (slot : Option V) (numbers : List ℕ) →
      Updates old new number slot → Each (λ m. m ≢ number) numbers → HaveSameValues old new numbers
  same-beside old new number slot numbers updates apart =
      each-map (λ m. m ≢ number) (λ m. get new m ≡ get old m) (λ m. updates.others m) numbers apart

  held-beside : (old new : Slab V) (numbers : List ℕ) → HaveSameValues old new numbers →
      HaveValues old numbers → HaveValues new numbers
  held-beside old new numbers same held =
      each-both (λ m. get new m ≡ get old m) (λ m. IsSome (get old m)) (λ m. IsSome (get new m))
      (λ m e p. rw e p) numbers same held

  vacant-apart : (values : Slab V) (number : ℕ) (numbers : List ℕ) → get values number ≡ None →
      HaveValues values numbers → Each (λ m. m ≢ number) numbers
  vacant-apart values number numbers vacant held =
      each-map (λ m. IsSome (get values m)) (λ m. m ≢ number)
      (λ m p e. absurd (cc (vacant, p, ap (get values) e))) numbers held

  pub IsTied-push : (keys numbers : List ℕ) (old new : Slab V) (key number : ℕ) (v : V) →
      MatchesSlab keys numbers old → get old number ≡ None →
      Updates old new number (Some v) → slab_len new ≡ slab_len old + 1 →
      MatchesSlab (keys ++ key ∷ []) (numbers ++ number ∷ []) new
  IsTied-push keys numbers old new key number v tied vacant updates len =
      let apart = vacant-apart old number numbers vacant tied.held in
      let kept = held-beside old new numbers (same-beside old new number _ numbers updates apart)
      tied.held in
      record {
        as_many = omega (
          arith,
          tied.as_many,
          length-append keys (key ∷ []),
          length-append numbers (number ∷ []),
        );
        distinct = distinct-push numbers number tied.distinct apart;
        held = each-push (λ m. IsSome (get new m)) numbers number kept (rw updates.changed refl);
        counted = omega (arith, len, tied.counted, length-append numbers (number ∷ []));
      }

  pub entries-added : (keys numbers : List ℕ) (old new : Slab V) (key number : ℕ) (v : V) →
      MatchesSlab keys numbers old → get old number ≡ None →
      Updates old new number (Some v) →
      entries_of new (keys ++ key ∷ []) (numbers ++ number ∷ [])
      ≡ entries_of old keys numbers ++ record { key = key; value = v } ∷ []
  entries-added keys numbers old new key number v tied vacant updates =
      let same = same-beside old new number _ numbers updates
      (vacant-apart old number numbers vacant tied.held) in
      let kept = held-beside old new numbers same tied.held in
      entries-push new keys numbers key number v tied.as_many kept updates.changed
      ∙ ap (λ es. es ++ record { key = key; value = v } ∷ [])
      (entries-same old new keys numbers same)

  pub IsTied-remove : (keys numbers : List ℕ) (old new : Slab V) (index : ℕ) →
      MatchesSlab keys numbers old → index < length numbers →
      Updates old new (get_or numbers index 0) None → slab_len new + 1 ≡ slab_len old →
      MatchesSlab (remove keys index) (remove numbers index) new
  IsTied-remove keys numbers old new index tied within updates len =
      let apart = others-remove numbers index tied.distinct within in
      let same = same-beside old new _ _ (remove numbers index) updates apart in
      let fewer = each-remove (λ n. IsSome (get old n)) numbers index tied.held in
      record {
        as_many = omega (
          arith,
          tied.as_many,
          within,
          length-remove keys index,
          length-remove numbers index,
        );
        distinct = distinct-remove numbers index tied.distinct;
        held = held-beside old new (remove numbers index) same fewer;
        counted = omega (arith, len, tied.counted, within, length-remove numbers index);
      }

  pub entries-taken : (keys numbers : List ℕ) (old new : Slab V) (index : ℕ) →
      MatchesSlab keys numbers old → index < length numbers →
      Updates old new (get_or numbers index 0) None →
      entries_of new (remove keys index) (remove numbers index)
      ≡ remove (entries_of old keys numbers) index
  entries-taken keys numbers old new index tied within updates =
      let apart = others-remove numbers index tied.distinct within in
      let same = same-beside old new _ _ (remove numbers index) updates apart in
      entries-same old new (remove keys index) (remove numbers index) same
      ∙ entries-remove old keys numbers index tied.as_many tied.held

  pub IsTied-revalued : (keys numbers : List ℕ) (old new : Slab V) (index : ℕ) (v : V) →
      MatchesSlab keys numbers old →
      Updates old new (get_or numbers index 0) (Some v) → slab_len new ≡ slab_len old →
      MatchesSlab keys numbers new
  IsTied-revalued keys numbers old new index v tied updates len =
      record {
        as_many = tied.as_many;
        distinct = tied.distinct;
        held = each-map (λ n. IsSome (get old n)) (λ n. IsSome (get new n)) (λ n p.
            elim (cases_eq n (get_or numbers index 0)) [
              | inl same ↦ rw (same, updates.changed) refl
              | inr differs ↦ rw (updates.others n differs) p
            ]) numbers tied.held;
        counted = len ∙ tied.counted;
      }

  pub IsTied-none : (values : Slab V) → values.slots ≡ [] → MatchesSlab [] [] values
  unfolding IsDistinct
  IsTied-none values empty = record {
    as_many = refl;
    distinct = tt;
    held = tt;
    counted =
        rw empty refl;
  }

  -- the ids are those of the entries
  pub keys-held : (keys numbers : List ℕ) (values : Slab V) (index : ℕ) →
      MatchesSlab keys numbers values →
      option_map (λ e. e.key) (slice_get (entries_of values keys numbers) index)
      ≡ slice_get keys index
  keys-held keys numbers values index tied =
      rw (← slice_get-map) (ap (λ ks. slice_get ks index)
      (keys-of values keys numbers tied.as_many tied.held))

  -- the value of an entry is the one under its number
  pub value-at : (keys numbers : List ℕ) (values : Slab V) (index number : ℕ) →
      MatchesSlab keys numbers values → index < length numbers →
      number ≡ get_or numbers index 0 →
      option_map (λ e. e.value) (slice_get (entries_of values keys numbers) index)
      ≡ get values number
  value-at keys numbers values index number tied within found =
      let at = held-at keys numbers values index tied within in
      rw at.2 (rw found (sym at.1))

  pub none-at : (keys numbers : List ℕ) (values : Slab V) (index : ℕ) →
      MatchesSlab keys numbers values → length numbers ≤ index →
      slice_get (entries_of values keys numbers) index ≡ None
  none-at keys numbers values index tied past =
      slice_get_past _ index (rw (length-held keys numbers values tied) past)

  -- the slab has a value under the number at an index
  pub held-number : (keys numbers : List ℕ) (values : Slab V) (index number : ℕ) →
      MatchesSlab keys numbers values → index < length numbers →
      number ≡ get_or numbers index 0 → IsSome (get values number)
  held-number keys numbers values index number tied within found =
      rw found (each-at (λ n. IsSome (get values n)) numbers index tied.held within)

  pub entry-of : (keys numbers : List ℕ) (values : Slab V) (index number : ℕ) (v : V) →
      MatchesSlab keys numbers values → index < length numbers →
      number ≡ get_or numbers index 0 → get values number ≡ Some v →
      slice_get (entries_of values keys numbers) index
      ≡ Some (record { key = get_or keys index 0; value = v })
  entry-of keys numbers values index number v tied within found here =
      entry_at values keys numbers index v tied.as_many tied.held within (rw found at here)

  count-kept : (slots : List (Option V)) (number : ℕ) (v : V) → IsSome (get_or slots number None) →
      count_by is_some (set slots number (Some v)) ≡ count_by is_some slots
  count-kept [] number v held = refl
  count-kept (slot ∷ rest) zero v held =
      let here = there slot held in
      let one = λ (o : Option V). cond (is_some o) 1 0 in
      rw here.1 (sum_by-cons one (Some v) rest ∙ sym (sum_by-cons one (Some here.0) rest))
  count-kept (slot ∷ rest) (suc number) v held =
      let one = λ (o : Option V). cond (is_some o) 1 0 in
      sum_by-cons one slot (set rest number (Some v))
      ∙ ap (λ n. one slot + n) (count-kept rest number v held) ∙ sym (sum_by-cons one slot rest)

  -- after one value is written, there are as many values as before
  pub length-with_value : (values : Slab V) (number : ℕ) (v : V) → IsSome (get values number) →
      slab_len (with_value values number v) ≡ slab_len values
  length-with_value values number v held = count-kept values.slots number v held

  -- a change under a number is a change under a number that is equal to it
  pub Updates-under : (old new : Slab V) (number other : ℕ) (slot : Option V) → number ≡ other →
      Updates old new number slot → Updates old new other slot
  Updates-under old new number other slot same updates = rw (← same) updates
