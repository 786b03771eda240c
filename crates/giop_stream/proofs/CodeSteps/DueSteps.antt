-- After which octet of a piece the reading stops: what is due after more octets, if it is known
-- what is due after those that were taken.
use Rattle.std.proofs.Common.{◌≡◌, ℕ, ◌+◌, ◌-◌, ◌<◌, ◌≤◌, ◌⊎◌, inl, inr, Bool, true, false, List, [], ◌++◌, length, take, take-add, drop, refl, sym, ap, ◌∙◌, append-nil, append_assoc, None, arith}
use Rattle.std.specs.Prelude.{◌&&◌, ◌||◌, nat_lt}
use Rattle.std.proofs.lemmas.Bool.{cases_lt, false≢true, le-ltb}
use Rattle.giop_sig.specs.Table.{Table}
use Rattle.giop_message.specs.DueOctets.{StaysUndue}
use Rattle.giop_message.specs.HeaderEnds.{CallEvent, after_ends}
use Rattle.giop_message.proofs.MessageLaws.{told_both}
use Rattle.giop_stream.specs.Rules.{Rules}
use Rattle.giop_stream.specs.Framing.{cut, messages}
use Rattle.giop_stream.specs.DueOctets.{begins_in, is_due_after}
use Rattle.giop_stream.specs.HeaderEndsOfStream.{header_ends_from}
use Rattle.giop_stream.proofs.CodeSteps.HeaderEndSteps.{from_append}

-- if two values are both false, neither of them is true
either_false : (a b : Bool) → a ≡ false → b ≡ false → (a || b) ≡ false
either_false a b p q = rw (p, q) refl

first_false : (a b : Bool) → (a || b) ≡ false → a ≡ false
first_false true b e = absurd (false≢true (sym e))
first_false false b e = refl

second_false : (a b : Bool) → (a || b) ≡ false → b ≡ false
second_false true b e = absurd (false≢true (sym e))
second_false false b e = e

-- if the second value is false whenever the first is true, they aren't both true
if_awaited : (a b : Bool) → (a ≡ true → b ≡ false) → (a && b) ≡ false
if_awaited true b f = f refl
if_awaited false b f = refl

awaited : (a b : Bool) → (a && b) ≡ false → a ≡ true → b ≡ false
awaited true b e is = e
awaited false b e is = absurd (false≢true is)

not_less : (m n : ℕ) → nat_lt m n ≡ false → n ≤ m
not_less m n e = go (cases_lt m n)
  where
    go : (m < n) ⊎ (n ≤ m) → n ≤ m
    go (inl less) = grind (arith, e, less)
    go (inr most) = most

module _ {St : Type 0} (due : St → Bool) (notified : St → CallEvent → St) (awaits : Bool)
    (C : Table) (st : St) (R : Rules) (p : List ℕ) where
  abbrev Due : (octets : List ℕ) → Bool
  Due = is_due_after due notified awaits C st R p

  abbrev Count : (z : List ℕ) → ℕ
  Count z = length (messages (cut z))

  -- what is due, from the correspondent's state and from how many messages had begun before and
  -- after
  pub due_is : (octets : List ℕ) (now : St) (before after : ℕ) →
      now ≡ after_ends notified C st (header_ends_from R p octets) → before ≡ Count p →
      after ≡ Count (p ++ octets) → (due now || (awaits && nat_lt before after)) ≡ Due octets
  due_is octets now before after told was is = rw (told, was, is) refl

  -- before the first octet nothing is due, if the correspondent isn't due
  pub none_due : due st ≡ false → Due [] ≡ false
  unfolding header_ends_from
  none_due calm =
      let same : nat_lt (Count p) (Count (p ++ [])) ≡ false =
      le-ltb (Count p) (Count (p ++ [])) (omega (arith, ap Count (append-nil p))) in
      either_false (due st) (awaits && nat_lt (Count p) (Count (p ++ []))) calm
      (if_awaited awaits (nat_lt (Count p) (Count (p ++ []))) (λ j. same))

  -- nothing is due after the octets `past` and `more`
  module _ (past : List ℕ) (now : St)
      (told : now ≡ after_ends notified C st (header_ends_from R p past))
      (undue : Due past ≡ false) (more : List ℕ) where
    still_undue : StaysUndue due notified C now (header_ends_from R (p ++ past)) more →
        (awaits ≡ true → begins_in (p ++ past) more ≡ false) → Due (past ++ more) ≡ false
    still_undue stays begins =
        let both : Due (past ++ more) ≡ (due (after_ends notified C now
        (header_ends_from R (p ++ past) more)) || (awaits && begins_in p (past ++ more))) =
        ap (λ z. due z || (awaits && begins_in p (past ++ more)))
        (ap (after_ends notified C st) (from_append R past p more)
        ∙ (told_both (λ z id. None) notified C st (header_ends_from R p past)
        (header_ends_from R (p ++ past) more)
        ∙ ap (λ z. after_ends notified C z (header_ends_from R (p ++ past) more)) (sym told))) in
        let calm : due now ≡ false =
        ap due told ∙ first_false (due (after_ends notified C st (header_ends_from R p past)))
        (awaits && begins_in p past) undue in
        let none : awaits ≡ true → begins_in p (past ++ more) ≡ false =
        λ is. le-ltb (Count p) (Count (p ++ (past ++ more))) (omega (
          arith,
          not_less (Count p) (Count (p ++ past)) (awaited awaits (begins_in p past)
              (second_false (due (after_ends notified C st (header_ends_from R p past)))
              (awaits && begins_in p past) undue) is),
          not_less (Count (p ++ past)) (Count ((p ++ past) ++ more)) (begins is),
          ap Count (append_assoc p past more),
        )) in
        both ∙ either_false _ (awaits && begins_in p (past ++ more)) (stays calm)
        (if_awaited awaits (begins_in p (past ++ more)) none)

  module _ (piece : List ℕ) (t : ℕ) (now : St)
      (told : now ≡ after_ends notified C st (header_ends_from R p (take t piece)))
      (undue : (k : ℕ) → k ≤ t → Due (take k piece) ≡ false) where
    -- nothing is due after a front of the octets that were taken, nor after these and fewer than n
    -- more
    pub fronts_after : (n : ℕ) → ((j : ℕ) → j < n →
        StaysUndue due notified C now (header_ends_from R (p ++ take t piece))
        (take j (drop t piece))
        × (awaits ≡ true → begins_in (p ++ take t piece) (take j (drop t piece)) ≡ false)) →
        (k : ℕ) → k < t + n → Due (take k piece) ≡ false
    fronts_after n more k few = go (cases_lt t k)
      where
        go : (t < k) ⊎ (k ≤ t) → Due (take k piece) ≡ false
        go (inr before) = undue k before
        go (inl later) =
            let here = more (k - t) (omega (arith, few, later)) in
            let at : k ≡ t + (k - t) = omega (arith, later) in
            ap (λ i. Due (take i piece)) at
            ∙ (ap Due (take-add t (k - t) piece)
            ∙ still_undue (take t piece) now told (undue t (omega arith))
            (take (k - t) (drop t piece)) here.0 here.1)
