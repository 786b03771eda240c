-- Rows of slots: which are full while one of them has a free place.
use Rattle.std.proofs.Common.{◌≡◌, ℕ, zero, suc, ◌+◌, ◌*◌, ◌-◌, ◌/◌, ◌%◌, ◌<◌, ◌≤◌, ◌≢◌, List, [], ◌∷◌, ◌++◌, length, get_or, set, refl, sym, ap, ◌∙◌, arith, inl, inr, append_assoc, append-nil, length-append, add-one}
use Rattle.std.specs.List.{insert, remove, concat, AllByRecursion}
use Rattle.std.proofs.lemmas.Bool.{cases_lt}
use Rattle.std.proofs.lemmas.List.{nil_from_length, length_push, get_or_append_left, get_or-append_right, get_or-map, get_or-set_other, map-set, map_push, length-map}
use Rattle.std.proofs.lemmas.List.Edits.{length-insert, length-remove, insert-append_left, insert-append_right, remove-append_left, remove-append_right}
use Rattle.std.proofs.lemmas.List.Elements.{All-from_recursion, recursion_from_All, All-push}
use Rattle.std.specs.Prelude.{Result, Ok, Err, OnOk, OnErr, Option, Some}
use Rattle.std.specs.Option.{OnSome}
use Rattle.std.specs.VecDeque.{deque_items, deque_len, deque_capacity}
use Rattle.std.specs.declared.collections.VecDeque.{VecDeque}
use Rattle.tcp_slots.specs.Order.{IsFilled, HasGap, HaveMemory, rows_of}

-- a row reaches as far as all slots do, if none are behind a shorter one
within_row : (r c : List ℕ) (i : ℕ) → (length r < i → c ≡ []) → i ≤ length (r ++ c) → i ≤ length r
within_row r c i none l =
    elim (cases_lt (length r) i) [
      | inl a ↦ omega (arith, length-append r c, ap length (none a))
      | inr b ↦ b
    ]

-- a row is full if it and those after it have slots enough
full : (r : List ℕ) (rs : List (List ℕ)) → IsFilled (r ∷ rs) → 1024 ≤ length (concat (r ∷ rs)) →
    length r ≡ 1024
unfolding IsFilled
full r rs h m = omega (arith, within_row r (concat rs) 1024 h.1 m)

-- the row in which the slots end has a free place
opened : (k : ℕ) (rs : List (List ℕ)) → IsFilled rs → k < length rs →
    1024 * k ≤ length (concat rs) → length (concat rs) < 1024 * suc k → HasGap k rs
unfolding IsFilled HasGap
opened k [] h l a b = absurd (omega arith)
opened zero (r ∷ rs) h l a b =
    let few : length r < 1024 = omega (arith, length-append r (concat rs)) in
    (few, λ m. h.1 few, h.2)
opened (suc k) (r ∷ rs) h l a b =
    let n = length-append r (concat rs) in
    let e = full r rs h (omega arith) in
    (e, opened k rs h.2 (omega arith) (omega arith) (omega arith))

-- the free place is after the last slot, so the rows are filled
pub closed : (k : ℕ) (rs : List (List ℕ)) → HasGap k rs → 1024 * k ≤ length (concat rs) →
    length (concat rs) < 1024 * suc k → IsFilled rs
unfolding IsFilled HasGap
closed k [] h a b = absurd h
closed zero (r ∷ rs) h a b =
    let n = length-append r (concat rs) in (
      omega arith,
      λ m. elim (cases_lt (suc (length r)) 1024) [
        | inl l ↦ h.1 l
        | inr g ↦ nil_from_length (concat rs) (omega arith)
      ],
      h.2,
    )
closed (suc k) (r ∷ rs) h a b =
    let n = length-append r (concat rs) in (
      omega arith,
      λ m. absurd (omega arith),
      closed k rs h.1 (omega arith) (omega arith),
    )

-- filled rows have at most as many slots as there is memory for
pub most_filled : (rs : List (List ℕ)) → IsFilled rs → length (concat rs) ≤ 1024 * length rs
unfolding IsFilled
most_filled [] h = omega arith
most_filled (r ∷ rs) h =
    omega (arith, length-append r (concat rs), most_filled rs h.2)

-- the row with the free place exists, and isn't full
gap_row : (k : ℕ) (rs : List (List ℕ)) → HasGap k rs →
    (k < length rs) × (length (get_or rs k []) < 1024)
unfolding HasGap
gap_row k [] h = absurd h
gap_row zero (r ∷ rs) h = (omega arith, h.0)
gap_row (suc k) (r ∷ rs) h =
    let i = gap_row k rs h.1 in (omega arith, i.1)

-- the row before the one with the free place is full
row_before : (k : ℕ) (rs : List (List ℕ)) → HasGap (suc k) rs →
    length (get_or rs k []) ≡ 1024
unfolding HasGap
row_before k [] h = absurd h
row_before zero (r ∷ rs) h = h.0
row_before (suc k) (r ∷ rs) h = row_before k rs h.1

-- the row after the one with the free place has slots, if there are enough
row_behind : (k : ℕ) (rs : List (List ℕ)) → HasGap k rs → 1024 * suc k ≤ length (concat rs) →
    (suc k < length rs) × (0 < length (get_or rs (suc k) []))
unfolding HasGap IsFilled
row_behind k [] h m = absurd h
row_behind zero (r ∷ []) h m = absurd (omega (arith, length-append r []))
row_behind zero (r ∷ q ∷ rs) h m = (
  omega arith,
  within_row q (concat rs) 1 (λ a. h.2.1 (omega arith))
      (omega (arith, length-append r (q ++ concat rs))),
)
row_behind (suc k) (r ∷ rs) h m =
    let i = row_behind k rs h.1 (omega (arith, length-append r (concat rs))) in
    (omega arith, i.1)

-- the last slot of the row before is moved into the row with the free place
passed_on : (k : ℕ) (rs : List (List ℕ)) (r : List ℕ) (x : ℕ) → HasGap (suc k) rs →
    get_or rs k [] ≡ r ++ x ∷ [] →
    HasGap k (set (set rs k r) (suc k) (x ∷ get_or rs (suc k) []))
    × (concat (set (set rs k r) (suc k) (x ∷ get_or rs (suc k) [])) ≡ concat rs)
unfolding HasGap IsFilled
passed_on k [] r x h e = absurd h
passed_on zero (q ∷ []) r x h e = absurd h.1
passed_on zero (q ∷ s ∷ rs) r x h e =
    let m = ap length e ∙ length_push r x in (
      (omega arith, λ l. absurd (omega arith), h.1),
      rw e (sym (append_assoc r (x ∷ []) (s ++ concat rs))),
    )
passed_on (suc k) (q ∷ rs) r x h e =
    let i = passed_on k rs r x h.1 e in ((h.0, i.0), ap (λ l. q ++ l) i.1)

-- the first slot of the row after is moved into the row with the free place
passed_back : (k : ℕ) (rs : List (List ℕ)) (x : ℕ) (s : List ℕ) → HasGap k rs →
    get_or rs (suc k) [] ≡ x ∷ s →
    HasGap (suc k) (set (set rs (suc k) s) k (get_or rs k [] ++ x ∷ []))
    × (concat (set (set rs (suc k) s) k (get_or rs k [] ++ x ∷ [])) ≡ concat rs)
unfolding HasGap IsFilled
passed_back k [] x s h e = absurd h
passed_back zero (r ∷ []) x s h e = absurd (omega (arith, ap length e))
passed_back zero (r ∷ q ∷ rs) x s h e =
    let m : length q ≡ suc (length s) = ap length e in
    let f : length (r ++ x ∷ []) ≡ 1024 = elim (cases_lt (suc (length r)) 1024) [
      | inl l ↦ absurd (omega (arith, ap length (h.1 l), length-append q (concat rs)))
      | inr g ↦ omega (arith, length_push r x)
    ] in (
      (f, (omega arith, λ l. h.2.1 (omega arith), h.2.2)),
      rw e (append_assoc r (x ∷ []) (s ++ concat rs)),
    )
passed_back (suc k) (q ∷ rs) x s h e =
    let i = passed_back k rs x s h.1 e in ((h.0, i.0), ap (λ l. q ++ l) i.1)

-- a slot is inserted into the row with the free place
inserted : (k i index x : ℕ) (rs : List (List ℕ)) → HasGap k rs → i < 1024 →
    index ≡ 1024 * k + i → index ≤ length (concat rs) →
    (i ≤ length (get_or rs k [])) × IsFilled (set rs k (insert (get_or rs k []) i x))
    × (concat (set rs k (insert (get_or rs k []) i x)) ≡ insert (concat rs) index x)
unfolding HasGap IsFilled
inserted k i index x [] h l e m = absurd h
inserted zero i index x (r ∷ rs) h l e m =
    let at : index ≡ i = omega arith in
    let inside = within_row r (concat rs) i (λ a. h.1 (omega arith)) (omega arith) in
    let o = length-insert r i x inside in (
      inside,
      (omega arith, λ f. h.1 (omega arith), h.2),
      rw at (sym (insert-append_left r (concat rs) i x inside)),
    )
inserted (suc k) i index x (r ∷ rs) h l e m =
    let n = length-append r (concat rs) in
    let j = inserted k i (index - 1024) x rs h.1 l (omega arith) (omega arith) in (
      j.0,
      (omega arith, λ f. absurd (omega arith), j.1),
      ap (λ c. r ++ c) j.2
          ∙ sym (insert-append_right r (concat rs) 1024 index x h.0 (omega arith)),
    )

-- a slot is removed, and leaves a free place in its row
removed : (k i index : ℕ) (rs : List (List ℕ)) → IsFilled rs → i < 1024 →
    index ≡ 1024 * k + i → index < length (concat rs) →
    HasGap k (set rs k (remove (get_or rs k []) i))
    × (concat (set rs k (remove (get_or rs k []) i)) ≡ remove (concat rs) index)
unfolding HasGap IsFilled
removed k i index [] h l e m = absurd (omega arith)
removed zero i index (r ∷ rs) h l e m =
    let at : index ≡ i = omega arith in
    let inside : i < length r =
    within_row r (concat rs) (suc i) (λ a. h.1 (omega arith)) (omega arith) in
    let o = length-remove r i inside in (
      (omega arith, λ f. h.1 (omega arith), h.2),
      rw at (sym (remove-append_left r (concat rs) i inside)),
    )
removed (suc k) i index (r ∷ rs) h l e m =
    let n = length-append r (concat rs) in
    let f = full r rs h (omega arith) in
    let j = removed k i (index - 1024) rs h.2 l (omega arith) (omega arith) in (
      (f, j.0),
      ap (λ c. r ++ c) j.1 ∙ sym (remove-append_right r (concat rs) 1024 index f (omega arith)),
    )

-- the last slot of all leaves its row
last_left : (k x : ℕ) (r : List ℕ) (rs : List (List ℕ)) → IsFilled rs →
    1024 * k < length (concat rs) → length (concat rs) ≤ 1024 * suc k →
    get_or rs k [] ≡ r ++ x ∷ [] →
    IsFilled (set rs k r) × (concat rs ≡ concat (set rs k r) ++ x ∷ [])
unfolding IsFilled
last_left k x r [] h a b e = absurd (omega arith)
last_left zero x r (q ∷ rs) h a b e =
    let n = length-append q (concat rs) in
    let none : concat rs ≡ [] = elim (cases_lt (length q) 1024) [
      | inl l ↦ h.1 l
      | inr g ↦ nil_from_length (concat rs) (omega arith)
    ] in (
      (omega (arith, ap length e, length_push r x), λ l. none, h.2),
      rw (e, none) (append-nil (r ++ x ∷ []) ∙ ap (λ l. l ++ x ∷ []) (sym (append-nil r))),
    )
last_left (suc k) x r (q ∷ rs) h a b e =
    let n = length-append q (concat rs) in
    let f = full q rs h (omega arith) in
    let i = last_left k x r rs h.2 (omega arith) (omega arith) e in (
      (h.0, λ l. absurd (omega arith), i.0),
      ap (λ l. q ++ l) i.1 ∙ sym (append_assoc q (concat (set rs k r)) (x ∷ [])),
    )

-- the row of a slot, and its place there
found : (k i index d : ℕ) (rs : List (List ℕ)) → IsFilled rs → i < 1024 →
    index ≡ 1024 * k + i → index < length (concat rs) →
    (k < length rs) × (i < length (get_or rs k []))
    × (get_or (concat rs) index d ≡ get_or (get_or rs k []) i d)
unfolding IsFilled
found k i index d [] h l e m = absurd (omega arith)
found zero i index d (r ∷ rs) h l e m =
    let at : index ≡ i = omega arith in
    let inside : i < length r =
    within_row r (concat rs) (suc i) (λ a. h.1 (omega arith)) (omega arith) in
    (omega arith, inside, rw at (get_or_append_left r (concat rs) d i inside))
found (suc k) i index d (r ∷ rs) h l e m =
    let n = length-append r (concat rs) in
    let f = full r rs h (omega arith) in
    let j = found k i (index - 1024) d rs h.2 l (omega arith) (omega arith) in (
      omega arith,
      j.1,
      get_or-append_right r (concat rs) 1024 index d f (omega arith) ∙ j.2,
    )

-- ---- The blocks that hold the rows.

-- what is done if nothing fails
done : {X E : Type 0} {P Q : Type 0} (r : Result X E) → OnOk r P → OnErr r Q → (Q → ⊥) → P
done (Ok x) p q n = p
done (Err e) p q n = absurd (n q)

given : {X P : Type 0} (r : Option X) (x : X) → r ≡ Some x → OnSome r P → P
given r x e p = rw e at p

module _ {Z : Type 0} (bs : List (VecDeque ℕ Z)) where
  -- the row of a block
  row_at : (k : ℕ) (d : VecDeque ℕ Z) → k < length bs →
      get_or (rows_of bs) k [] ≡ (get_or bs k d).items
  row_at k d l = get_or-map deque_items bs k d [] l

  -- the row with the free place is that of a block
  pub gap_block : (k : ℕ) → HasGap k (rows_of bs) → k < length bs
  gap_block k h = omega (arith, (gap_row k (rows_of bs) h).0, length-map bs deque_items)

  -- a block has as many slots as its row
  block_len : (k : ℕ) (d : VecDeque ℕ Z) → k < length bs →
      deque_len (get_or bs k d) ≡ length (get_or (rows_of bs) k [])
  block_len k d l = (get_or bs k d).ok.0 ∙ ap length (sym (row_at k d l))

  -- the block before the one with the free place is full
  pub full_before : (k : ℕ) (d : VecDeque ℕ Z) → HasGap (suc k) (rows_of bs) →
      deque_len (get_or bs k d) ≡ 1024
  full_before k d h =
      block_len k d (omega (arith, gap_block (suc k) h)) ∙ row_before k (rows_of bs) h

  -- the block has a free place
  pub room_here : (k : ℕ) (d : VecDeque ℕ Z) → HasGap k (rows_of bs) → HaveMemory bs →
      deque_len (get_or bs k d) < deque_capacity (get_or bs k d)
  room_here k d h m =
      let l = gap_block k h in
      omega (
        arith,
        (gap_row k (rows_of bs) h).1,
        block_len k d l,
        All-from_recursion (λ b. 1024 ≤ deque_capacity b) bs m.each k d l,
      )

  -- the block has a free place, also after another one was written
  pub room_at : (k j : ℕ) (b d : VecDeque ℕ Z) → HasGap k (rows_of bs) → HaveMemory bs → k ≢ j →
      deque_len (get_or (set bs j b) k d) < deque_capacity (get_or (set bs j b) k d)
  room_at k j b d h m ne = rw (get_or-set_other bs j k b d ne) (room_here k d h m)

  -- the block after it has slots, if there are enough
  pub some_behind : (k : ℕ) → HasGap k (rows_of bs) →
      1024 * suc k ≤ length (concat (rows_of bs)) →
      (k + 1 < length bs) × ((d : VecDeque ℕ Z) → 0 < deque_len (get_or bs (k + 1) d))
  some_behind k h m =
      let some = row_behind k (rows_of bs) h m in
      let l : suc k < length bs = omega (arith, length-map bs deque_items) in
      (omega arith, λ d. rw add-one (omega (arith, block_len (suc k) d l)))

  -- the last slot of a block is moved to the front of the next one
  pub block_passed_on : (k : ℕ) (d e r t : VecDeque ℕ Z) (x : ℕ) → HasGap (suc k) (rows_of bs) →
      (get_or bs k d).items ≡ r.items ++ x ∷ [] →
      t.items ≡ x ∷ (get_or (set bs k r) (k + 1) e).items →
      HasGap k (rows_of (set (set bs k r) (k + 1) t))
      × (concat (rows_of (set (set bs k r) (k + 1) t)) ≡ concat (rows_of bs))
  block_passed_on k d e r t x h er et =
      let l : suc k < length bs = gap_block (suc k) h in
      let items : t.items ≡ x ∷ get_or (rows_of bs) (suc k) [] =
      et ∙ rw (
        add-one,
        get_or-set_other bs k (suc k) r e (λ e. omega arith),
        row_at (suc k) e l,
      ) refl in
      rw (map-set deque_items (set bs k r) (k + 1) t, map-set deque_items bs k r, items, add-one)
      (passed_on k (rows_of bs) r.items x h (row_at k d (omega arith) ∙ er))

  -- the first slot of the next block is moved to the end of a block
  pub block_passed_back : (k : ℕ) (d e r t : VecDeque ℕ Z) (x : ℕ) → HasGap k (rows_of bs) →
      k + 1 < length bs → (get_or bs (k + 1) d).items ≡ x ∷ r.items →
      t.items ≡ (get_or (set bs (k + 1) r) k e).items ++ x ∷ [] →
      HasGap (suc k) (rows_of (set (set bs (k + 1) r) k t))
      × (concat (rows_of (set (set bs (k + 1) r) k t)) ≡ concat (rows_of bs))
  block_passed_back k d e r t x h l er et =
      let items : t.items ≡ get_or (rows_of bs) k [] ++ x ∷ [] =
      et ∙ rw (
        get_or-set_other bs (k + 1) k r e (λ e. omega arith),
        row_at k e (omega arith),
      ) refl in
      rw (
        map-set deque_items (set bs (k + 1) r) k t,
        map-set deque_items bs (k + 1) r,
        items,
        add-one,
      )
      (passed_back k (rows_of bs) x r.items h (rw add-one at (row_at (k + 1) d l ∙ er)))

  -- the block of a slot
  pub block_of : (index : ℕ) → IsFilled (rows_of bs) → index < length (concat (rows_of bs)) →
      index / 1024 < length bs
  block_of index h l = omega (
    arith,
    (found (index / 1024) (index % 1024) index 0 (rows_of bs) h (omega arith) (omega arith) l).0,
    length-map bs deque_items,
  )

  -- the index of a slot in its block
  pub stands : (index d : ℕ) (e : VecDeque ℕ Z) → IsFilled (rows_of bs) →
      index < length (concat (rows_of bs)) →
      (index % 1024 < deque_len (get_or bs (index / 1024) e))
      × (get_or (concat (rows_of bs)) index d
      ≡ get_or (get_or bs (index / 1024) e).items (index % 1024) d)
  stands index d e h l =
      let f = found (index / 1024) (index % 1024) index d (rows_of bs) h (omega arith)
      (omega arith) l in
      let k = block_of index h l in
      (omega (arith, block_len (index / 1024) e k), rw (row_at (index / 1024) e k) at f.2)

  -- the block in which the slots end has a free place
  pub free_behind : (len : ℕ) → IsFilled (rows_of bs) → len ≡ length (concat (rows_of bs)) →
      len < 1024 * length bs → HasGap (len / 1024) (rows_of bs)
  free_behind len h e l =
      let n = length-map bs deque_items in
      opened (len / 1024) (rows_of bs) h (omega arith) (omega arith)
      (omega arith)

  -- a slot is inserted into a block with a free place, which can't fail
  pub block_inserted : {X E : Type 0} (index x : ℕ) (d b : VecDeque ℕ Z) (r : Result X E) →
      HasGap (index / 1024) (rows_of bs) → HaveMemory bs → index ≤ length (concat (rows_of bs)) →
      OnOk r (b.items ≡ insert (get_or bs (index / 1024) d).items (index % 1024) x) →
      OnErr r (deque_capacity (get_or bs (index / 1024) d)
      ≤ deque_len (get_or bs (index / 1024) d)) →
      IsFilled (rows_of (set bs (index / 1024) b))
      × (concat (rows_of (set bs (index / 1024) b)) ≡ insert (concat (rows_of bs)) index x)
  block_inserted index x d b r h m l ok err =
      let k : ℕ = index / 1024 in
      let f = inserted k (index % 1024) index x (rows_of bs) h (omega arith) (omega arith) l in
      let e = done r ok err (λ full. omega (arith, room_here k d h m)) in
      rw (map-set deque_items bs k b, e, ← row_at k d (gap_block k h)) (f.1, f.2)

  -- the place is within the block
  pub index_inside : (index : ℕ) (d : VecDeque ℕ Z) → HasGap (index / 1024) (rows_of bs) →
      index ≤ length (concat (rows_of bs)) →
      index % 1024 ≤ deque_len (get_or bs (index / 1024) d)
  index_inside index d h l =
      let f = inserted (index / 1024) (index % 1024) index 0 (rows_of bs) h (omega arith)
      (omega arith) l in
      omega (arith, block_len (index / 1024) d (gap_block (index / 1024) h))

  -- a slot is removed from a block
  pub block_removed : (index x : ℕ) (d b : VecDeque ℕ Z) (r : Option ℕ) →
      IsFilled (rows_of bs) → index < length (concat (rows_of bs)) →
      (index % 1024 < deque_len (get_or bs (index / 1024) d) → r ≡ Some x) →
      OnSome r (b.items ≡ remove (get_or bs (index / 1024) d).items (index % 1024)) →
      HasGap (index / 1024) (rows_of (set bs (index / 1024) b))
      × (concat (rows_of (set bs (index / 1024) b)) ≡ remove (concat (rows_of bs)) index)
  block_removed index x d b r h l is some =
      let k : ℕ = index / 1024 in
      let e = given r x (is (stands index 0 d h l).0) some in
      rw (map-set deque_items bs k b, e, ← row_at k d (block_of index h l))
      (removed k (index % 1024) index (rows_of bs) h (omega arith) (omega arith) l)

  -- the last slot of all leaves its block
  pub block_last : (len x : ℕ) (d b : VecDeque ℕ Z) → IsFilled (rows_of bs) →
      len ≡ length (concat (rows_of bs)) → 0 < len →
      (get_or bs ((len - 1) / 1024) d).items ≡ b.items ++ x ∷ [] →
      IsFilled (rows_of (set bs ((len - 1) / 1024) b))
      × (concat (rows_of bs) ≡ concat (rows_of (set bs ((len - 1) / 1024) b)) ++ x ∷ [])
  block_last len x d b h n l e =
      let k : ℕ = (len - 1) / 1024 in
      let within = block_of (len - 1) h (omega arith) in
      rw (map-set deque_items bs k b) (last_left k x b.items (rows_of bs) h (omega arith)
      (omega arith) (row_at k d within ∙ e))

-- no blocks
pub none_filled : {Z : Type 0} (bs : List (VecDeque ℕ Z)) → bs ≡ [] →
    AllByRecursion (λ b. 1024 ≤ deque_capacity b) bs × IsFilled (rows_of bs)
    × (concat (rows_of bs) ≡ [])
unfolding IsFilled
none_filled bs e = rw e (tt, tt, refl)

-- one more row, which is empty
empty_more : (rs : List (List ℕ)) → concat rs ≡ [] →
    IsFilled (rs ++ [] ∷ []) × (concat (rs ++ [] ∷ []) ≡ [])
unfolding IsFilled
empty_more [] e = ((omega arith, λ l. refl, tt), refl)
empty_more (r ∷ rs) e =
    let z = ap length e in
    let n = length-append r (concat rs) in
    let i = empty_more rs (nil_from_length (concat rs) (omega arith)) in
    let none : r ≡ [] = nil_from_length r (omega arith) in
    ((omega arith, λ l. i.1, i.0), rw (none, i.1) refl)

pub more_filled : {Z : Type 0} (bs : List (VecDeque ℕ Z)) (b : VecDeque ℕ Z)
    (cs : List (VecDeque ℕ Z)) → cs ≡ bs ++ b ∷ [] → b.items ≡ [] → 1024 ≤ deque_capacity b →
    AllByRecursion (λ b. 1024 ≤ deque_capacity b) bs → concat (rows_of bs) ≡ [] →
    AllByRecursion (λ b. 1024 ≤ deque_capacity b) cs × IsFilled (rows_of cs)
    × (concat (rows_of cs) ≡ [])
more_filled {Z} bs b cs e n m h z =
    let P = λ (b : VecDeque ℕ Z). 1024 ≤ deque_capacity b in
    let i = empty_more (rows_of bs) z in
    rw e (
      recursion_from_All P (bs ++ b ∷ []) (All-push P bs b (All-from_recursion P bs h) m),
      rw (map_push deque_items bs b, n) i.0,
      rw (map_push deque_items bs b, n) i.1,
    )
