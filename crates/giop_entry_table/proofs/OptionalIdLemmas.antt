-- The entries of a table of which one may lack an id, made of entries with ids and the index of that
-- one: how many there are, the one at an index, what a search finds, and what they are after one is
-- added, removed or changed.
use Rattle.std.proofs.Common.{◌≡◌, ◌==◌, ◌<◌, ◌≤◌, ◌+◌, ◌-◌, ℕ, zero, suc, Bool, true, false, cond, List, [], ◌∷◌, ◌++◌, length, drop, slice_get, Option, Some, None, IfSome, is_none, refl, ap, ◌∙◌, arith}
use Rattle.std.proofs.Math.Dec.{eqb-suc-zero, eqb-zero-suc, eqb-suc-suc}
use Rattle.std.specs.List.{remove, position_from}
use Rattle.std.specs.Option.{option_map}
use Rattle.giop_entry_table.specs.declared.entry_table.Entry.{Entry}
use Rattle.giop_entry_table.specs.EntryTable as by_ids
use Rattle.giop_entry_table.specs.OptionalIds.{is_id, replace_value}
use Rattle.giop_entry_table.specs.OptionalIdsView.{first_key, index_in_tail, with_optional_ids, index_after_removal}

-- the entry without an id is among this number of entries, if there is one
abbrev pub IsWithin : (index : Option ℕ) (count : ℕ) → Type 0
IsWithin index count = IfSome index (λ k. k < count)

within-after : (index : Option ℕ) (count : ℕ) → IsWithin index (suc count) →
    IsWithin (index_in_tail index) count
within-after None count within = tt
within-after (Some zero) count within = tt
within-after (Some (suc k)) count within = omega (arith, within)

is_id-after : (index : Option ℕ) (k : ℕ) → is_id (suc k) index ≡ is_id k (index_in_tail index)
is_id-after None k = refl
is_id-after (Some zero) k = eqb-zero-suc k
is_id-after (Some (suc n)) k = eqb-suc-suc n k

first_key-at : (index : Option ℕ) (key : ℕ) →
    first_key index key ≡ cond (is_id 0 index) None (Some key)
first_key-at None key = refl
first_key-at (Some zero) key = refl
first_key-at (Some (suc k)) key = rw (eqb-suc-zero k) refl

first-is_id : (index : Option ℕ) (id key : ℕ) → is_id 0 index ≡ false →
    is_id id (first_key index key) ≡ (key == id)
first-is_id None id key apart = refl
first-is_id (Some zero) id key apart = absurd (cc apart)
first-is_id (Some (suc k)) id key apart = refl

first-not : (index : Option ℕ) (id key : ℕ) → (key == id) ≡ false →
    is_id id (first_key index key) ≡ false
first-not None id key apart = apart
first-not (Some zero) id key apart = refl
first-not (Some (suc k)) id key apart = apart

first-removed : (index : Option ℕ) (removed : ℕ) →
    (first_key (index_after_removal index (suc removed)) ≡ first_key index)
    × (index_in_tail (index_after_removal index (suc removed)) ≡ index_after_removal
    (index_in_tail index) removed)
first-removed None removed = (refl, refl)
first-removed (Some zero) removed = (refl, refl)
first-removed (Some (suc k)) removed = by (index_after_removal (Some k) removed) refl
  where
    by : (o : Option ℕ) → index_after_removal (Some k) removed ≡ o →
        (first_key (index_after_removal (Some (suc k)) (suc removed)) ≡ first_key (Some (suc k)))
        × (index_in_tail (index_after_removal (Some (suc k)) (suc removed))
        ≡ index_after_removal (Some k) removed)
    by None is = rw is (refl, refl)
    by (Some n) is = rw is (refl, refl)

removed-first : (index : Option ℕ) → index_after_removal index 0 ≡ index_in_tail index
removed-first None = refl
removed-first (Some zero) = refl
removed-first (Some (suc k)) = refl

module _ {V : Type 0} where
  pub length-optional : (index : Option ℕ) (es : List (Entry V)) →
      length (with_optional_ids index es) ≡ length es
  length-optional index [] = refl
  length-optional index (e ∷ es) = ap suc (length-optional (index_in_tail index) es)

  pub value-optional : (index : Option ℕ) (es : List (Entry V)) (k : ℕ) →
      option_map (λ e. e.value) (slice_get (with_optional_ids index es) k)
      ≡ option_map (λ e. e.value) (slice_get es k)
  value-optional index [] k = refl
  value-optional index (e ∷ es) zero = refl
  value-optional index (e ∷ es) (suc k) = value-optional (index_in_tail index) es k

  pub key-optional : (index : Option ℕ) (es : List (Entry V)) (k : ℕ) →
      option_map (λ e. e.key) (slice_get (with_optional_ids index es) k)
      ≡ option_map (λ e. cond (is_id k index) None (Some e.key)) (slice_get es k)
  key-optional index [] k = refl
  key-optional index (e ∷ es) zero = ap Some (first_key-at index e.key)
  key-optional index (e ∷ es) (suc k) =
      rw (is_id-after index k) (key-optional (index_in_tail index) es k)

  pub key-there : (index : Option ℕ) (es : List (Entry V)) (k key : ℕ) →
      option_map (λ e. e.key) (slice_get es k) ≡ Some key →
      option_map (λ e. e.key) (slice_get (with_optional_ids index es) k)
      ≡ Some (cond (is_id k index) None (Some key))
  key-there index es k key is = key-optional index es k ∙ by (slice_get es k) is
    where
      by : (o : Option (Entry V)) → option_map (λ e. e.key) o ≡ Some key →
          option_map (λ e. cond (is_id k index) None (Some e.key)) o
          ≡ Some (cond (is_id k index) None (Some key))
      by None is = absurd (cc is)
      by (Some e) is = cc is

  pub key-past : (index : Option ℕ) (es : List (Entry V)) (k : ℕ) →
      option_map (λ e. e.key) (slice_get es k) ≡ None →
      option_map (λ e. e.key) (slice_get (with_optional_ids index es) k) ≡ None
  key-past index es k is = key-optional index es k ∙ by (slice_get es k) is
    where
      by : (o : Option (Entry V)) → option_map (λ e. e.key) o ≡ None →
          option_map (λ e. cond (is_id k index) None (Some e.key)) o ≡ None
      by None is = refl
      by (Some e) is = absurd (cc is)

  -- the entry without an id is the one at its index
  pub position-without : (index : Option ℕ) (es : List (Entry V)) (from : ℕ) →
      IsWithin index (length es) →
      position_from (λ e. is_none e.key) from (with_optional_ids index es)
      ≡ option_map (λ k. from + k) index
  position-without None [] from within = refl
  position-without (Some k) [] from within = absurd (omega (arith, within))
  position-without None (e ∷ es) from within = position-without None es (from + 1) tt
  position-without (Some zero) (e ∷ es) from within = ap Some (omega arith)
  position-without (Some (suc k)) (e ∷ es) from within =
      position-without (Some k) es (from + 1) (omega (arith, within)) ∙ ap Some (omega arith)

  pub without_at : (index : Option ℕ) (es : List (Entry V)) → IsWithin index (length es) →
      position_from (λ e. is_none e.key) 0 (with_optional_ids index es) ≡ index
  without_at None es within = position-without None es 0 tt
  without_at (Some k) es within = position-without (Some k) es 0 within ∙ ap Some (omega arith)

  -- if each entry has an id, an id is found where it is among the ids
  position-all : (id : ℕ) (es : List (Entry V)) (from : ℕ) →
      position_from (λ e. is_id id e.key) from (with_optional_ids None es)
      ≡ position_from (λ e. e.key == id) from es
  position-all id [] from = refl
  position-all id (e ∷ es) from =
      ap (cond (e.key == id) (Some from)) (position-all id es (from + 1))

  -- an id is found at the first index of it among the ids, unless that is the entry without an id;
  -- else the search goes on after that one
  abbrev IsFound : (index : Option ℕ) (id : ℕ) (es : List (Entry V)) (from : ℕ) (k : Option ℕ) →
      Type 0
  IsFound index id es from None =
      position_from (λ e. is_id id e.key) from (with_optional_ids index es) ≡ None
  IsFound index id es from (Some k) = (from ≤ k)
      × (is_id (k - from) index ≡ false →
      position_from (λ e. is_id id e.key) from (with_optional_ids index es) ≡ Some k)
      × (is_id (k - from) index ≡ true →
      position_from (λ e. is_id id e.key) from (with_optional_ids index es)
      ≡ position_from (λ e. e.key == id) (k + 1) (drop (k + 1 - from) es))

  found : (index : Option ℕ) (id : ℕ) (es : List (Entry V)) (from : ℕ) →
      IsFound index id es from (position_from (λ e. e.key == id) from es)
  found index id [] from = refl
  found index id (e ∷ es) from =
      by (e.key == id) refl (found (index_in_tail index) id es (from + 1))
    where
      here : from - from ≡ 0
      here = omega arith

      next : from + 1 - from ≡ 1
      next = omega arith

      other : (o : Option ℕ) → is_id 0 o ≡ true → o ≡ Some 0
      other None is = absurd (cc is)
      other (Some zero) is = refl
      other (Some (suc k)) is = absurd (cc (is, eqb-suc-zero k))

      later : (o : Option ℕ) → (e.key == id) ≡ false →
          IsFound (index_in_tail index) id es (from + 1) o → IsFound index id (e ∷ es) from o
      later None apart rest = rw (first-not index id e.key apart) rest
      later (Some k) apart rest =
          let up : k - from ≡ suc (k - (from + 1)) = omega (arith, rest.0) in
          let past : k + 1 - from ≡ suc (k + 1 - (from + 1)) = omega (arith, rest.0) in
          let same = is_id-after index (k - (from + 1)) in (
            omega (arith, rest.0),
            λ not_it. rw (first-not index id e.key apart) (rest.1 (rw (up, same) at not_it)),
            λ it. rw (first-not index id e.key apart, past) (rest.2 (rw (up, same) at it)),
          )

      by : (b : Bool) → (e.key == id) ≡ b →
          IsFound (index_in_tail index) id es (from + 1)
          (position_from (λ e. e.key == id) (from + 1) es) →
          IsFound index id (e ∷ es) from (position_from (λ e. e.key == id) from (e ∷ es))
      by true is rest = rw is (
        omega arith,
        λ not_it. rw (first-is_id index id e.key (rw here at not_it), is) refl,
        λ it.
            let first = other index (rw here at it) in
            rw (first, next) (position-all id es (from + 1)),
      )
      by false is rest = rw is (later _ is rest)

  pub found_at : (index : Option ℕ) (id : ℕ) (es : List (Entry V)) (k : ℕ) →
      position_from (λ e. e.key == id) 0 es ≡ Some k → is_id k index ≡ false →
      position_from (λ e. is_id id e.key) 0 (with_optional_ids index es) ≡ Some k
  found_at index id es k is apart =
      let from_zero : k - 0 ≡ k = omega arith in
      (rw is at (found index id es 0)).1 (rw from_zero apart)

  pub found_past : (index : Option ℕ) (id : ℕ) (es : List (Entry V)) (k : ℕ) →
      position_from (λ e. e.key == id) 0 es ≡ Some k → is_id k index ≡ true →
      position_from (λ e. is_id id e.key) 0 (with_optional_ids index es)
      ≡ position_from (λ e. e.key == id) (k + 1) (drop (k + 1) es)
  found_past index id es k is same =
      let from_zero : k - 0 ≡ k = omega arith in
      let next : k + 1 - 0 ≡ k + 1 = omega arith in
      rw next at ((rw is at (found index id es 0)).2 (rw from_zero same))

  pub not_found : (index : Option ℕ) (id : ℕ) (es : List (Entry V)) →
      position_from (λ e. e.key == id) 0 es ≡ None →
      position_from (λ e. is_id id e.key) 0 (with_optional_ids index es) ≡ None
  not_found index id es is = rw is at (found index id es 0)

  pub optional-push : (index : Option ℕ) (es : List (Entry V)) (key : ℕ) (v : V) →
      IsWithin index (length es) →
      with_optional_ids index (es ++ record { key = key; value = v } ∷ [])
      ≡ with_optional_ids index es ++ record { key = Some key; value = v } ∷ []
  optional-push None [] key v within = refl
  optional-push (Some k) [] key v within = absurd (omega (arith, within))
  optional-push index (e ∷ es) key v within =
      rw (optional-push (index_in_tail index) es key v (within-after index (length es) within)) refl

  pub optional-push-without : (es : List (Entry V)) (key : ℕ) (v : V) →
      with_optional_ids (Some (length es)) (es ++ record { key = key; value = v } ∷ [])
      ≡ with_optional_ids None es ++ record { key = None; value = v } ∷ []
  optional-push-without [] key v = refl
  optional-push-without (e ∷ es) key v = rw (optional-push-without es key v) refl

  pub optional-remove : (index : Option ℕ) (es : List (Entry V)) (removed : ℕ) →
      removed < length es →
      with_optional_ids (index_after_removal index removed) (remove es removed)
      ≡ remove (with_optional_ids index es) removed
  optional-remove index [] removed within = absurd (omega (arith, within))
  optional-remove index (e ∷ es) zero within = rw (removed-first index) refl
  optional-remove index (e ∷ es) (suc removed) within =
      let first = first-removed index removed in
      rw (
        first.0,
        first.1,
        optional-remove (index_in_tail index) es removed (omega (
          arith,
          within,
        )),
      )
      refl

  pub optional-revalued : (index : Option ℕ) (es : List (Entry V)) (k : ℕ) (v : V) →
      with_optional_ids index (by_ids.replace_value es k v) ≡ replace_value
      (with_optional_ids index es) k v
  optional-revalued index [] k v = refl
  optional-revalued index (e ∷ es) zero v = refl
  optional-revalued index (e ∷ es) (suc k) v =
      rw (optional-revalued (index_in_tail index) es k v) refl

  pub length-revalued : (es : List (Entry V)) (k : ℕ) (v : V) →
      length (by_ids.replace_value es k v) ≡ length es
  length-revalued [] k v = refl
  length-revalued (e ∷ es) zero v = refl
  length-revalued (e ∷ es) (suc k) v = ap suc (length-revalued es k v)

-- if the entry without an id was among the entries, it is among those that are left
pub within-removed : (index : Option ℕ) (removed count : ℕ) → IsWithin index (count + 1) →
    removed < count + 1 → IsWithin (index_after_removal index removed) count
within-removed None removed count within less = tt
within-removed (Some zero) zero count within less = tt
within-removed (Some (suc k)) zero count within less = omega (arith, within)
within-removed (Some zero) (suc removed) count within less = omega (arith, less)
within-removed (Some (suc k)) (suc removed) zero within less = absurd (omega (arith, less))
within-removed (Some (suc k)) (suc removed) (suc count) within less =
    by (index_after_removal (Some k) removed) refl
    (within-removed (Some k) removed count (omega (arith, within)) (omega (arith, less)))
  where
    by : (o : Option ℕ) → index_after_removal (Some k) removed ≡ o →
        IsWithin (index_after_removal (Some k) removed) count →
        IsWithin (index_after_removal (Some (suc k)) (suc removed)) (suc count)
    by None is rest = rw is tt
    by (Some n) is rest = rw is (omega (arith, rw is at rest))

-- an index after another one is removed
pub removed-other : (k removed : ℕ) → removed < k → index_after_removal (Some k) removed ≡ Some
    (k - 1)
removed-other zero removed less = absurd (omega (arith, less))
removed-other (suc k) zero less = ap Some (omega arith)
removed-other (suc k) (suc removed) less =
    rw (removed-other k removed (omega (arith, less))) (ap Some (omega (arith, less)))

pub removed-same : (k : ℕ) → index_after_removal (Some k) k ≡ None
removed-same zero = refl
removed-same (suc k) = rw (removed-same k) refl

pub removed-below : (k removed : ℕ) → k < removed → index_after_removal (Some k) removed ≡ Some k
removed-below k zero less = absurd (omega (arith, less))
removed-below zero (suc removed) less = refl
removed-below (suc k) (suc removed) less =
    rw (removed-below k removed (omega (arith, less))) refl
