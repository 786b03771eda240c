-- No two lines of an octet have the same class.
use Rattle.std.proofs.Common.{inl, inr, ◌≡◌, ℕ, suc, ◌<◌, ◌≤◌, Bool, true, false, cond, List, [], ◌∷◌, ◌++◌, length, refl, append-nil, arith}
use Rattle.std.specs.Prelude.{◌==◌, ◌&&◌}
use Rattle.std.specs.List.{filter, AllByRecursion as Each}
use Rattle.std.proofs.lemmas.Bool.{cases_eq, eqb-true, ne_eqb, and_parts}
use Rattle.std.proofs.lemmas.List.{length_push}
use Rattle.std.proofs.lemmas.List.Elements.{filter-append}
use Rattle.giop_stream.specs.Rules.{Rules}
use Rattle.giop_stream.specs.Framing.{Cut}
use Rattle.giop_message.specs.MessageReader.{KeepsEarlierLines, IsStreamable}
use Rattle.giop_stream.specs.Lines.{Class, rank, StreamLine, has_class, lines}
use Rattle.giop_stream.specs.OpenSlots.{Tracked}
use Rattle.giop_stream.specs.Octet.{OctetKind, Ends, Of}
use Rattle.giop_stream.proofs.Lists.{by_growth, filter_drops, each_append, each_weaker}
use Rattle.giop_stream.proofs.StreamLines.Ordering.{rank_of, RanksRise}
use Rattle.giop_stream.proofs.Cuts.Start.{lines_nothing}
use Rattle.giop_stream.proofs.CodeSteps.OneOctet.{AddsLinesAndState, IsStateThen, then_is}
use Rattle.giop_stream.proofs.CodeSteps.EngineAlive.{sound}

-- ---- If the classes of lines rise, each class has at most one line.

passed : (test : StreamLine → Bool) (n : ℕ) → ((l : StreamLine) → test l ≡ true →
    rank_of l ≡ n) → (k : StreamLine) →
    n < rank_of k → test k ≡ false
passed test n h k less = search (arith)

one_at_most : (test : StreamLine → Bool) (n : ℕ) → ((l : StreamLine) → test l ≡ true →
    rank_of l ≡ n) →
    (ls : List StreamLine) → RanksRise ls → length (filter test ls) ≤ 1
one_at_most test n h [] r = omega arith
one_at_most test n h (l ∷ ls) r = search (
  arith,
  rank_of,
  filter_drops,
  each_weaker,
  passed,
  cond,
  one_at_most test n h ls r.1,
)

-- ---- The lines that an octet adds.

record AddsRisingLines (R : Rules) (p : List ℕ) (octet : ℕ) : Type 0 where
  more : List StreamLine
  grows : lines R (p ++ octet ∷ []) ≡ lines R p ++ more
  here : Each (λ l. l.place ≡ suc (length p)) more
  rises : RanksRise more

more_of : (R : Rules) (p : List ℕ) (x : ℕ) (c : Cut) (ls : List StreamLine) (tracked : Tracked) →
    AddsLinesAndState R p (p ++ x ∷ []) c ls tracked → AddsRisingLines R p x
more_of R p x c ls tracked h = search (arith)

more_by : (R : Rules) (p : List ℕ) (x : ℕ) (o : OctetKind) → IsStateThen R p x o →
    AddsRisingLines R p x
more_by R p x (Ends fault) h = more_of R p x _ _ _ h.1
more_by R p x (Of now) h = more_of R p x _ _ _ h.1.adds
more_by R p x _ h = more_of R p x _ _ _ h.2

-- ---- Octet by octet.

abbrev is_at : (k : ℕ) (c : Class) (l : StreamLine) → Bool
is_at k c l = (l.place == k) && has_class c l

record HasOneOfEachClass (R : Rules) (stream : List ℕ) : Type 0 where
  places : Each (λ l. l.place ≤ length stream) (lines R stream)
  one : (k : ℕ) (c : Class) → length (filter (is_at k c) (lines R stream)) ≤ 1

is_ranked : (k : ℕ) (c : Class) (l : StreamLine) → is_at k c l ≡ true → rank_of l ≡ rank c
is_ranked k c l h = search (arith, eqb-true, rank_of, and_parts)

elsewhere : (k : ℕ) (c : Class) (l : StreamLine) → (l.place ≡ k → ⊥) → is_at k c l ≡ false
elsewhere k c l h = rw (ne_eqb l.place k h) refl

apart_more : (R : Rules) → KeepsEarlierLines R.reading → IsStreamable R.reading →
    (p : List ℕ) (x : ℕ) →
    HasOneOfEachClass R p → HasOneOfEachClass R (p ++ x ∷ [])
apart_more R causal laws p x h =
    let a = more_by R p x _ (then_is R causal laws p x (sound R causal laws p)) in
    let old = lines R p in
    let n = length p in
    let grown : length (p ++ x ∷ []) ≡ suc n = omega (arith, length_push p x) in
    record {
      places = rw (a.grows, grown) (each_append (λ l. l.place ≤ suc n) old a.more
          (each_weaker (λ l. l.place ≤ n) (λ l. l.place ≤ suc n) (λ l k. omega arith) old h.places)
          (each_weaker (λ l. l.place ≡ suc n) (λ l. l.place ≤ suc n) (λ l k. omega arith) a.more
          a.here));
      one = λ k c. rw (a.grows, filter-append (is_at k c) old a.more) (elim (cases_eq k (suc n)) [
        | inl now ↦
            rw (filter_drops (is_at k c) old
            (each_weaker (λ l. l.place ≤ n) (λ l. is_at k c l ≡ false)
            (λ l early. elsewhere k c l (λ e. omega arith)) old h.places))
            (one_at_most (is_at k c) (rank c) (is_ranked k c) a.more a.rises)
        | inr other ↦
            rw (
              filter_drops (is_at k c) a.more
                  (each_weaker (λ l. l.place ≡ suc n) (λ l. is_at k c l ≡ false)
                  (λ l late. elsewhere k c l (λ e. other (omega arith))) a.more a.here),
              append-nil (filter (is_at k c) old),
            )
            (h.one k c)
      ]);
    }

apart_start : (R : Rules) → HasOneOfEachClass R []
apart_start R = search (arith, lines_nothing)

pub one_of_class : (R : Rules) → KeepsEarlierLines R.reading → IsStreamable R.reading →
    (p : List ℕ) (k : ℕ) (c : Class)
    → length (filter (λ l. (l.place == k) && has_class c l) (lines R p)) ≤ 1
one_of_class R causal laws p = (by_growth (HasOneOfEachClass R) (apart_start R)
    (λ p x. apart_more R causal laws p x) p).one
