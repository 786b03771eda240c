-- At which place an id stands, and what is left after an id goes.
use Rattle.std.proofs.Common.{◌≡◌, ℕ, zero, suc, ◌+◌, ◌-◌, ◌<◌, ◌≤◌, Bool, true, false, cond, eqb, nat_eq, ◌&&◌, List, [], ◌∷◌, ◌++◌, length, get_or, set, take, drop, Option, Some, None, refl, sym, ◌∙◌, ap, subst, arith, inl, inr, length-append, append-nil, add-one}
use Rattle.std.specs.Option.{MatchOption, option_map}
use Rattle.std.specs.List.{AllByRecursion, IsDistinct}
use Rattle.std.proofs.lemmas.Bool.{cases_eq, cases_lt, eqb-true, eq-eqb, lt-ltb, le-ltb, ltb-true}
use Rattle.std.proofs.lemmas.List.{get_or-set_other, length-set, take-append-drop, drop_more, take_more_set, get_or_at, get_or-take, length-take-le, take-append-le, take_all, get_or_append_left, get_or_push}
use Rattle.std.proofs.lemmas.List.Elements.{All-from_recursion, recursion_from_All, filter-append, filter_passes}
use Rattle.std.proofs.lemmas.List.Filters.{length-filter_more}
use Rattle.std.proofs.lemmas.List.Sums.{length-filter, count_by-le-length, sum_by-set}
use Rattle.std.proofs.Math.Seq.{take-set-lt}
use Rattle.tcp_streams.specs.declared.pair.Side.TheVariants.{FromLesser, FromGreater}
use Rattle.tcp_streams.specs.Pairs.{flow_id}
use Rattle.tcp_streams.specs.Lives.{index_of, without, elder_side, most_ids}
use Rattle.tcp_streams.specs.Places.{is_id, ids_of, place_of, IsQueue}
use Rattle.tcp_streams.specs.Stamped.{AreStamped, first_side}
use Rattle.tcp_streams.proofs.Ids.{distinct_without, distinct_push}
use Rattle.tcp_streams.proofs.Stamped.{stamp_set, elder_case, stamped_without, stamped_push}

-- ---- The ids that stand in places.

-- the ids, if one of them stands at this place
split_ids : (xs : List ℕ) (k : ℕ) → k < length xs → get_or xs k 0 < most_ids →
    ids_of xs ≡ ids_of (take k xs) ++ get_or xs k 0 ∷ ids_of (drop (k + 1) xs)
split_ids xs k l own =
    ap ids_of (sym (take-append-drop k xs)
    ∙ ap (λ (ys : List ℕ). take k xs ++ ys) (drop_more xs k 0 l))
    ∙ filter-append is_id (take k xs) (get_or xs k 0 ∷ drop (k + 1) xs)
    ∙ rw (lt-ltb (get_or xs k 0) most_ids own) refl

-- its rank is how many ids stand before it
pub rank_at : (xs : List ℕ) (k : ℕ) → k < length xs → get_or xs k 0 < most_ids →
    get_or (ids_of xs) (length (ids_of (take k xs))) 0 ≡ get_or xs k 0
rank_at xs k l own = rw (split_ids xs k l own)
    (get_or_at (ids_of (take k xs)) (get_or xs k 0) (ids_of (drop (k + 1) xs)) 0
    (length (ids_of (take k xs))) refl)

pub rank_below : (xs : List ℕ) (k : ℕ) → k < length xs → get_or xs k 0 < most_ids →
    length (ids_of (take k xs)) < length (ids_of xs)
rank_below xs k l own = rw (split_ids xs k l own) (simp length-append (omega arith))

at_ids : (P : ℕ → Type 0) (xs : List ℕ) (i : ℕ) → i < length xs → get_or xs i 0 < most_ids →
    AllByRecursion P (ids_of xs) → P (get_or xs i 0)
at_ids P xs i l own h = rw (rank_at xs i l own) at (All-from_recursion P (ids_of xs) h
    (length (ids_of (take i xs))) 0 (rank_below xs i l own))

-- ---- The index of an id.

-- if the ids differ, an id that is found at an index stands at that index
pub place_at : (n : ℕ) (xs : List ℕ) (i : ℕ) → i < length xs → n < most_ids →
    IsDistinct eqb (ids_of xs) → get_or xs i 0 ≡ n → place_of n xs ≡ Some i
unfolding place_of IsDistinct
place_at n [] i l some d e = absurd (omega arith)
place_at n (x ∷ xs) zero l some d e =
    rw (lt-ltb x most_ids (omega arith), eq-eqb x n e) refl
place_at n (x ∷ xs) (suc i) l some d e =
    elim (cases_lt x most_ids) [
      | inl a ↦
          (let s = rw (lt-ltb x most_ids a) at d in
          let other : nat_eq x n ≡ false = rw e at (at_ids (λ y. eqb x y ≡ false) xs i
          (omega arith) (omega arith) s.0) in
          rw (lt-ltb x most_ids a, other, place_at n xs i (omega arith) some s.1 e) refl)
      | inr b ↦
          (let s = rw (le-ltb x most_ids b) at d in
          rw (le-ltb x most_ids b, place_at n xs i (omega arith) some s e) refl)
    ]

-- an id stands at this place, and is taken away if the place is given up
pub record StandsAt (n : ℕ) (xs : List ℕ) (place : ℕ) : Type 0 where
  pub within : place < length xs
  pub own : get_or xs place 0 ≡ n
  pub id : n < most_ids
  pub gone : ids_of (set xs place most_ids) ≡ without n (ids_of xs)

-- an id without a place isn't among the ids
abbrev IsPlace : (n : ℕ) (xs : List ℕ) (place : Option ℕ) → Type 0
IsPlace n xs place = MatchOption place (without n (ids_of xs) ≡ ids_of xs) (StandsAt n xs)

place_by : (n x : ℕ) (xs : List ℕ) (b e : Bool) (r : Option ℕ) → is_id x ≡ b → nat_eq x n ≡ e →
    IsPlace n xs r → IsPlace n (x ∷ xs) (cond (b && e) (Some 0) (option_map suc r))
unfolding without
place_by n x xs true true r hb he h =
    let own : x ≡ n = eqb-true x n he in record {
      within = omega arith;
      own = own;
      id = omega (arith, ltb-true x most_ids hb);
      gone = rw (hb, he) refl;
    }
place_by n x xs true false None hb he h = rw (hb, he) (ap (λ (ys : List ℕ). x ∷ ys) h)
place_by n x xs true false (Some i) hb he h = record {
  within = omega arith;
  own = h.own;
  id = h.id;
  gone = rw (hb, he) (ap (λ (ys : List ℕ). x ∷ ys) h.gone);
}
place_by n x xs false e None hb he h = rw hb h
place_by n x xs false e (Some i) hb he h =
    record { within = omega arith; own = h.own; id = h.id; gone = rw hb h.gone }

place_is : (n : ℕ) (xs : List ℕ) → IsPlace n xs (place_of n xs)
unfolding place_of without
place_is n [] = refl
place_is n (x ∷ xs) =
    place_by n x xs (is_id x) (nat_eq x n) (place_of n xs) refl refl (place_is n xs)

pub stands : (n i : ℕ) (xs : List ℕ) → place_of n xs ≡ Some i → StandsAt n xs i
stands n i xs e = rw e at (place_is n xs)

-- if an id has no place, taking it away changes nothing
pub none_without : (n : ℕ) (xs : List ℕ) → place_of n xs ≡ None →
    without n (ids_of xs) ≡ ids_of xs
none_without n xs e = rw e at (place_is n xs)

nowhere : (n : ℕ) (xs : List ℕ) (r : Option ℕ) → IsPlace n xs r →
    ((i : ℕ) → StandsAt n xs i → ⊥) → r ≡ None
nowhere n xs None h none = refl
nowhere n xs (Some i) h none = absurd (none i h)

-- an id without a stamp has no place
pub place_unstamped : (stamps : List ℕ) (n : ℕ) (xs : List ℕ) → get_or stamps n 1 ≡ 0 →
    AreStamped stamps (ids_of xs) → place_of n xs ≡ None
place_unstamped stamps n xs z h = nowhere n xs (place_of n xs) (place_is n xs) (λ i s.
    let l = at_ids (λ x. 0 < get_or stamps x 1) xs i s.within (omega arith) h in
    omega (arith, ap (λ (x : ℕ). get_or stamps x 1) s.own))

-- a number that is no id has no place
pub place_none : (n : ℕ) (xs : List ℕ) → most_ids ≤ n → place_of n xs ≡ None
place_none n xs l =
    nowhere n xs (place_of n xs) (place_is n xs) (λ i s. omega arith)

-- the index of an id is the first index of its number
pub place_index : (n : ℕ) (xs : List ℕ) → n < most_ids → place_of n xs ≡ index_of n xs
unfolding place_of index_of
place_index n [] l = refl
place_index n (x ∷ xs) l = grind (arith, l, place_index n xs l)

-- ---- How many ids stand among the first places.

one_less : (xs : List ℕ) (i : ℕ) → i < length xs → get_or xs i 0 < most_ids →
    suc (length (ids_of (set xs i most_ids))) ≡ length (ids_of xs)
one_less xs i l own =
    let less = sum_by-set (λ (x : ℕ). cond (is_id x) 1 0) xs i most_ids 0 l in
    let one = rw (lt-ltb (get_or xs i 0) most_ids own) at less in
    omega (arith, length-filter is_id xs, length-filter is_id (set xs i most_ids))

-- if each place after the front is one of an id, the ids are counted from there on
pub count_to : (xs : List ℕ) (front i : ℕ) → front ≤ i → i ≤ length xs
    → ((k : ℕ) → front ≤ k → k < length xs → get_or xs k 0 < most_ids)
    → length (ids_of (take i xs)) ≡ length (ids_of (take front xs)) + (i - front)
count_to xs front zero l m whole = let e : front ≡ 0 = omega arith in rw e refl
count_to xs front (suc i) l m whole =
    elim (cases_eq front (suc i)) [
      | inl e ↦ rw e (omega arith)
      | inr ne ↦
          (let own = lt-ltb (get_or xs i 0) most_ids (whole i (omega arith) m) in
          let here = rw own at (length-filter_more is_id xs i 0 m) in
          rw (← add-one) (omega (arith, count_to xs front i (omega arith) (omega arith) whole)))
    ]

pub count_all : (xs : List ℕ) (front : ℕ) → front ≤ length xs
    → ((k : ℕ) → front ≤ k → k < length xs → get_or xs k 0 < most_ids)
    → length (ids_of xs) ≡ length (ids_of (take front xs)) + (length xs - front)
count_all xs front l whole =
    ap (λ (ys : List ℕ). length (ids_of ys)) (sym (take_all (length xs) xs (omega arith)))
    ∙ count_to xs front (length xs) l (omega arith) whole

-- the place of an id that went counts no id
count_gone : (xs : List ℕ) (i : ℕ) → i < length xs →
    length (ids_of (take (i + 1) (set xs i most_ids))) ≡ length (ids_of (take i xs))
count_gone xs i l = rw (take_more_set xs i most_ids l)
    (ap length (filter-append is_id (take i xs) (most_ids ∷ []) ∙ append-nil (ids_of (take i xs))))

-- ---- All ids.

pub all_ids : (xs : List ℕ) → AllByRecursion (λ x. x < most_ids) (ids_of xs)
all_ids xs = recursion_from_All (λ x. x < most_ids) (ids_of xs)
    (λ k d l. ltb-true (get_or (ids_of xs) k d) most_ids (filter_passes is_id xs k d l))

pub ids_only : (xs : List ℕ) → AllByRecursion (λ x. x < most_ids) xs → ids_of xs ≡ xs
ids_only [] h = refl
ids_only (x ∷ xs) h = rw (lt-ltb x most_ids h.0) (ap (λ (ys : List ℕ). x ∷ ys) (ids_only xs h.1))

pub few_ids : (xs : List ℕ) → length (ids_of xs) ≤ length xs
few_ids xs = omega (arith, length-filter is_id xs, count_by-le-length is_id xs)

-- the ids have stamps after one more stamp was noted
pub stamped_note : (stamps : List ℕ) (n s : ℕ) (xs : List ℕ) → 0 < s → AreStamped stamps xs →
    AreStamped (set stamps n s) xs
stamped_note stamps n s [] l h = tt
stamped_note stamps n s (x ∷ xs) l h =
    (stamp_set stamps n s x (λ e. l) (λ o. h.0), stamped_note stamps n s xs l h.1)

-- ---- What stays true of places after an id goes or comes, or after all places without an id are
-- given up.

pub front_few : (xs stamps : List ℕ) (front count : ℕ) → IsQueue xs stamps front count →
    count ≤ front
front_few xs stamps front count h =
    omega (arith, few_ids (take front xs), length-take-le front xs h.within)

-- if an id of the front goes, the front has one id less
pub front_less : (n i : ℕ) (xs stamps : List ℕ) (front count : ℕ) →
    IsQueue xs stamps front count → StandsAt n xs i → i < front →
    suc (length (ids_of (take front (set xs i most_ids)))) ≡ count
front_less n i xs stamps front count h s b =
    rw (take-set-lt front xs i most_ids b) (one_less (take front xs) i
    (omega (arith, length-take-le front xs h.within))
    (omega (arith, get_or-take front xs i 0 b)) ∙ sym h.counted)

goes : (n i : ℕ) (xs stamps : List ℕ) (front count behind left : ℕ) →
    IsQueue xs stamps front count → StandsAt n xs i → behind ≤ length xs → front ≤ behind →
    i < behind → left ≡ length (ids_of (take behind (set xs i most_ids))) →
    IsQueue (set xs i most_ids) (set stamps n 0) behind left
goes n i xs stamps front count behind left h s l m b is =
    let many = length-set xs i most_ids in record {
      few = omega arith;
      distinct = rw s.gone (distinct_without n (ids_of xs) h.distinct);
      stamped = rw s.gone (stamped_without stamps n 0 (ids_of xs) h.distinct h.stamped);
      within = omega arith;
      counted = is;
      whole = λ k d a. rw (get_or-set_other xs i k most_ids 0 (λ e. omega arith))
          (h.whole k (omega arith) (omega arith));
    }

pub goes_front : (n i : ℕ) (xs stamps : List ℕ) (front count : ℕ) →
    IsQueue xs stamps front count → StandsAt n xs i → i < front →
    IsQueue (set xs i most_ids) (set stamps n 0) front (count - 1)
goes_front n i xs stamps front count h s b =
    goes n i xs stamps front count front (count - 1) h s h.within (omega arith) b
    (omega (arith, front_less n i xs stamps front count h s b))

pub goes_after : (n i : ℕ) (xs stamps : List ℕ) (front count : ℕ) →
    IsQueue xs stamps front count → StandsAt n xs i → front ≤ i →
    IsQueue (set xs i most_ids) (set stamps n 0) (i + 1) (count + (i - front))
goes_after n i xs stamps front count h s after =
    goes n i xs stamps front count (i + 1) (count + (i - front)) h s (omega arith)
    (omega arith) (omega arith) (omega (
      arith,
      count_gone xs i s.within,
      count_to xs front i after (omega arith) h.whole,
    ))

pub ids_push : (xs : List ℕ) (n : ℕ) → n < most_ids → ids_of (xs ++ n ∷ []) ≡ ids_of xs ++ n ∷ []
ids_push xs n l = filter-append is_id xs (n ∷ []) ∙ rw (lt-ltb n most_ids l) refl

pub pushed : (n s : ℕ) (xs stamps : List ℕ) (front count : ℕ) → IsQueue xs stamps front count →
    n < most_ids → AllByRecursion (λ x. eqb n x ≡ false) (ids_of xs) → length xs < 262144 → 0 < s →
    IsQueue (xs ++ n ∷ []) (set stamps n s) front count
pushed n s xs stamps front count h l apart slot some =
    let many = length-append xs (n ∷ []) in record {
      few = omega arith;
      distinct = rw (ids_push xs n l) (distinct_push (ids_of xs) n h.distinct apart);
      stamped = rw (ids_push xs n l)
          (stamped_push stamps n s (ids_of xs) some apart h.stamped);
      within = omega arith;
      counted = rw (take-append-le front xs (n ∷ []) h.within) h.counted;
      whole = λ k d m.
          elim (cases_lt k (length xs)) [
            | inl less ↦ rw (get_or_append_left xs (n ∷ []) 0 k less) (h.whole k d less)
            | inr more ↦ rw (get_or_push xs n 0 k (omega arith)) l
          ];
    }

pub started : (xs stamps : List ℕ) → xs ≡ [] → IsQueue xs stamps 0 0
unfolding IsDistinct
started xs stamps e = rw e (record {
  few = omega arith;
  distinct = tt;
  stamped = tt;
  within = omega arith;
  counted = refl;
  whole = λ k l m. absurd (omega arith);
})

pub packed : (xs stamps : List ℕ) → length xs ≤ 262144 → IsDistinct eqb (ids_of xs) →
    AreStamped stamps (ids_of xs) → IsQueue (ids_of xs) stamps 0 0
packed xs stamps few d h =
    let only = ids_only (ids_of xs) (all_ids xs) in record {
      few = omega (arith, few_ids xs);
      distinct = subst (IsDistinct eqb) (sym only) d;
      stamped = subst (AreStamped stamps) (sym only) h;
      within = omega arith;
      counted = refl;
      whole = λ k l m. All-from_recursion (λ x. x < most_ids) (ids_of xs) (all_ids xs) k 0 m;
    }

-- ---- Which stream of a slot is the first.

elder_among : (slot : ℕ) (xs : List ℕ) → elder_side slot (ids_of xs)
    ≡ first_side (place_of (flow_id slot FromLesser) xs) (place_of (flow_id slot FromGreater) xs)
unfolding elder_side place_of first_side
elder_among slot [] = refl
elder_among slot (x ∷ xs) = grind (arith, elder_among slot xs, elder_case)

pub elder_is : (slot : ℕ) (xs : List ℕ) (l g : Option ℕ) → place_of (flow_id slot FromLesser) xs ≡ l
    → place_of (flow_id slot FromGreater) xs ≡ g → elder_side slot (ids_of xs) ≡ first_side l g
elder_is slot xs l g d e = elder_among slot xs ∙ rw (d, e) refl
