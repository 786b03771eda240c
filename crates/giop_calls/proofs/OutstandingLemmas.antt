-- Entries that are found by their ids, and what is left of entries that have ids of their own.
use Rattle.std.proofs.Common.{◌≡◌, ℕ, zero, suc, ◌+◌, ◌-◌, ◌≤◌, ◌==◌, Bool, true, false, List, [], ◌∷◌, ◌++◌, length, drop, slice_get, Option, Some, None, IfSome, refl, sym, ap, arith}
use Rattle.std.specs.List.{AllByRecursion as Each, filter, find, remove, position_from}
use Rattle.std.proofs.lemmas.Bool.{eqb-true, eqb-false, ne_eqb}
use Rattle.giop_entry_table.specs.declared.entry_table.Entry.{Entry}
use Rattle.giop_calls.specs.Outstanding.{without, HaveDistinctIds}

module _ {V : Type 0} where
  -- the entry that is found is at the index that the search gives
  found : (t : Entry V → Bool) (es : List (Entry V)) (from : ℕ) →
      IfSome (position_from t from es)
      (λ index. (from ≤ index) × (slice_get es (index - from) ≡ find t es))
  found t [] from = tt
  found t (e ∷ es) from = by (t e) refl (found t es (from + 1))
    where
      later : (o : Option ℕ) →
          IfSome o (λ index. (from + 1 ≤ index) × (slice_get es (index - (from + 1)) ≡ find t es)) →
          IfSome o (λ index. (from ≤ index) × (slice_get (e ∷ es) (index - from) ≡ find t es))
      later None rest = tt
      later (Some index) rest =
          let up : index - from ≡ suc (index - (from + 1)) = omega (arith, rest.0) in
          (omega (arith, rest.0), rw up rest.1)

      by : (b : Bool) → t e ≡ b →
          IfSome (position_from t (from + 1) es)
          (λ index. (from + 1 ≤ index) × (slice_get es (index - (from + 1)) ≡ find t es)) →
          IfSome (position_from t from (e ∷ es))
          (λ index. (from ≤ index) × (slice_get (e ∷ es) (index - from) ≡ find t (e ∷ es)))
      by true is rest =
          let here : from - from ≡ 0 = omega arith in
          rw (is, here) (omega arith, refl)
      by false is rest = rw is (later _ rest)

  pub found_at : (t : Entry V → Bool) (es : List (Entry V)) (index : ℕ) →
      position_from t 0 es ≡ Some index → slice_get es index ≡ find t es
  found_at t es index is =
      let from_zero : index - 0 ≡ index = omega arith in
      rw from_zero at (rw is at (found t es 0)).1

  pub not_found : (t : Entry V → Bool) (es : List (Entry V)) (from : ℕ) →
      position_from t from es ≡ None → find t es ≡ None
  not_found t [] from none = refl
  not_found t (e ∷ es) from none = by (t e) refl (not_found t es (from + 1))
    where
      by : (b : Bool) → t e ≡ b →
          (position_from t (from + 1) es ≡ None → find t es ≡ None) → find t (e ∷ es) ≡ None
      by true is rest = absurd (cc (rw is at none))
      by false is rest = rw is (rest (rw is at none))

  -- if no call has the id, all calls are of other ids
  all_others : (id : ℕ) (es : List (Entry V)) →
      Each (λ e. (e.key == id) ≡ false) es → without id es ≡ es
  all_others id [] others = refl
  all_others id (e ∷ es) others = rw (others.0, all_others id es others.1) refl

  -- if no call of the id is found, none is taken away
  pub none_without : (id : ℕ) (es : List (Entry V)) (from : ℕ) →
      position_from (λ e. e.key == id) from es ≡ None → without id es ≡ es
  none_without id [] from none = refl
  none_without id (e ∷ es) from none = by (e.key == id) refl (none_without id es (from + 1))
    where
      by : (b : Bool) → (e.key == id) ≡ b →
          (position_from (λ e. e.key == id) (from + 1) es ≡ None → without id es ≡ es) →
          without id (e ∷ es) ≡ e ∷ es
      by true is rest = absurd (cc (rw is at none))
      by false is rest = rw (is, rest (rw is at none)) refl

  -- without the first call of an id there is no call of the id, because each call has an id of its
  -- own
  removed : (id : ℕ) (es : List (Entry V)) (from : ℕ) → HaveDistinctIds es →
      IfSome (position_from (λ e. e.key == id) from es)
      (λ index. (from ≤ index) × (remove es (index - from) ≡ without id es))
  removed id [] from apart = tt
  removed id (e ∷ es) from apart = by (e.key == id) refl (removed id es (from + 1) apart.1)
    where
      later : (o : Option ℕ) →
          IfSome o (λ index. (from + 1 ≤ index)
          × (remove es (index - (from + 1)) ≡ without id es)) →
          IfSome o (λ index. (from ≤ index) × (remove (e ∷ es) (index - from) ≡ e ∷ without id es))
      later None rest = tt
      later (Some index) rest =
          let up : index - from ≡ suc (index - (from + 1)) = omega (arith, rest.0) in
          (omega (arith, rest.0), rw up (ap (λ others. e ∷ others) rest.1))

      by : (b : Bool) → (e.key == id) ≡ b →
          IfSome (position_from (λ e. e.key == id) (from + 1) es)
          (λ index. (from + 1 ≤ index) × (remove es (index - (from + 1)) ≡ without id es)) →
          IfSome (position_from (λ e. e.key == id) from (e ∷ es))
          (λ index. (from ≤ index) × (remove (e ∷ es) (index - from) ≡ without id (e ∷ es)))
      by true is rest =
          let here : from - from ≡ 0 = omega arith in
          let same : e.key ≡ id = eqb-true _ _ is in
          rw (is, here) (omega arith, sym (all_others id es (rw same at apart.0)))
      by false is rest = rw is (later _ rest)

  pub removed_at : (id : ℕ) (es : List (Entry V)) (index : ℕ) → HaveDistinctIds es →
      position_from (λ e. e.key == id) 0 es ≡ Some index → remove es index ≡ without id es
  removed_at id es index apart is =
      let from_zero : index - 0 ≡ index = omega arith in
      rw from_zero at (rw is at (removed id es 0 apart)).1

  each_filter : (P : Entry V → Type 0) (t : Entry V → Bool) (es : List (Entry V)) →
      Each P es → Each P (filter t es)
  each_filter P t [] all = tt
  each_filter P t (e ∷ es) all = by (t e) refl (each_filter P t es all.1)
    where
      by : (b : Bool) → t e ≡ b → Each P (filter t es) → Each P (filter t (e ∷ es))
      by true is rest = rw is (all.0, rest)
      by false is rest = rw is rest

  pub apart_without : (id : ℕ) (es : List (Entry V)) → HaveDistinctIds es →
      HaveDistinctIds (without id es)
  apart_without id [] apart = tt
  apart_without id (e ∷ es) apart = by (e.key == id) refl (apart_without id es apart.1)
    where
      by : (b : Bool) → (e.key == id) ≡ b → HaveDistinctIds (without id es) →
          HaveDistinctIds (without id (e ∷ es))
      by true is rest = rw is rest
      by false is rest = rw is (each_filter _ _ es apart.0, rest)

  -- the calls that are left have other ids
  pub others_without : (id : ℕ) (es : List (Entry V)) →
      Each (λ e. (e.key == id) ≡ false) (without id es)
  others_without id [] = tt
  others_without id (e ∷ es) = by (e.key == id) refl (others_without id es)
    where
      by : (b : Bool) → (e.key == id) ≡ b → Each (λ e. (e.key == id) ≡ false) (without id es) →
          Each (λ e. (e.key == id) ≡ false) (without id (e ∷ es))
      by true is rest = rw is rest
      by false is rest = rw is (is, rest)

  pub each_drop : (P : Entry V → Type 0) (n : ℕ) (es : List (Entry V)) → Each P es →
      Each P (drop n es)
  each_drop P zero es all = all
  each_drop P (suc n) [] all = tt
  each_drop P (suc n) (e ∷ es) all = each_drop P n es all.1

  pub apart_push : (es : List (Entry V)) (e : Entry V) → HaveDistinctIds es →
      Each (λ other. (other.key == e.key) ≡ false) es → HaveDistinctIds (es ++ e ∷ [])
  apart_push [] e apart others = (tt, tt)
  apart_push (x ∷ xs) e apart others =
      (last xs apart.0, apart_push xs e apart.1 others.1)
    where
      last : (ys : List (Entry V)) → Each (λ other. (other.key == x.key) ≡ false) ys →
          Each (λ other. (other.key == x.key) ≡ false) (ys ++ e ∷ [])
      last [] all = (ne_eqb e.key x.key (λ same. eqb-false x.key e.key others.0 (sym same)), tt)
      last (y ∷ ys) all = (all.0, last ys all.1)

  pub length_without : (id : ℕ) (es : List (Entry V)) → length (without id es) ≤ length es
  length_without id [] = omega arith
  length_without id (e ∷ es) = by (e.key == id) refl (length_without id es)
    where
      by : (b : Bool) → (e.key == id) ≡ b → length (without id es) ≤ length es →
          length (without id (e ∷ es)) ≤ suc (length es)
      by true is rest = rw is (omega (arith, rest))
      by false is rest = rw is (omega (arith, rest))
