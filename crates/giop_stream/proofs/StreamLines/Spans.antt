-- Lines whose classes rise, within two ranks; and the same for the line classes that a reader of
-- messages gives.
use Rattle.std.proofs.Common.{inl, inr, ◌⊎◌, ◌≡◌, ℕ, ◌<◌, ◌≤◌, true, List, [], ◌∷◌, ◌++◌, map, refl, arith}
use Rattle.std.specs.List.{list_any, AllByRecursion as Each}
use Rattle.giop_message.specs.MessageReader.{LineClass, Value, Call, Rest, Fault, End, AreInLineOrder, AreCloseClasses, is_fault_class}
use Rattle.giop_stream.specs.Events.{Event}
use Rattle.giop_stream.specs.Lines.{Said, StreamLine, line}
use Rattle.giop_stream.proofs.Lists.{each_append, each_weaker}
use Rattle.giop_stream.proofs.StreamLines.Ordering.{rank_of, RanksRise}

-- ---- Lines whose classes rise, within two ranks.

abbrev pub IsRankBetween : (lo hi : ℕ) (l : StreamLine) → Type 0
IsRankBetween lo hi l = (lo ≤ rank_of l) × (rank_of l ≤ hi)

pub record RanksRiseWithin (lo hi : ℕ) (ls : List StreamLine) : Type 0 where
  pub within : Each (IsRankBetween lo hi) ls
  pub rises : RanksRise ls

pub spans_none : (lo hi : ℕ) → RanksRiseWithin lo hi []
spans_none lo hi = search (arith)

pub spans_wider : (a b lo hi : ℕ) (ls : List StreamLine) → a ≤ lo → hi ≤ b →
    RanksRiseWithin lo hi ls →
    RanksRiseWithin a b ls
spans_wider a b lo hi ls h k s = search (arith, each_weaker)

rises_join : (n : ℕ) (xs ys : List StreamLine) → Each (λ l. rank_of l ≤ n) xs →
    Each (λ l. n < rank_of l) ys → RanksRise xs → RanksRise ys → RanksRise (xs ++ ys)
rises_join n [] ys h k o p = p
rises_join n (x ∷ xs) ys h k o p = search (
  arith,
  each_append,
  rank_of,
  each_weaker,
  rises_join n
      xs ys h.1 k o.1 p,
)

pub spans_join : (a b c d : ℕ) (xs ys : List StreamLine) → b < c → a ≤ c → b ≤ d →
    RanksRiseWithin a b xs →
    RanksRiseWithin c d ys → RanksRiseWithin a d (xs ++ ys)
spans_join a b c d xs ys h k i s t = record {
  within = each_append (IsRankBetween a d) xs ys
      (each_weaker (IsRankBetween a b) (IsRankBetween a d)
      (λ l j. let low = j.0 in let high = j.1 in (omega arith, omega arith)) xs s.within)
      (each_weaker (IsRankBetween c d) (IsRankBetween a d)
      (λ l j. let low = j.0 in let high = j.1 in (omega arith, omega arith)) ys t.within);
  rises = rises_join b xs ys (each_weaker (IsRankBetween a b) (λ l. rank_of l ≤ b) (λ l j. j.1) xs
      s.within) (each_weaker (IsRankBetween c d) (λ l. b < rank_of l)
      (λ l j. let low = j.0 in omega arith) ys t.within) s.rises t.rises;
}

pub spans_one : (n : ℕ) (l : StreamLine) → rank_of l ≡ n → RanksRiseWithin n n (l ∷ [])
spans_one n l h = search (arith)

-- ---- The same for a reader's line classes.

abbrev pub class_rank : (line_class : LineClass) → ℕ
class_rank Value = 1
class_rank Call = 2
class_rank Rest = 6
class_rank Fault = 7
class_rank End = 8

abbrev pub LineClassesRise : (classes : List LineClass) → Type 0
LineClassesRise [] = Unit {0}
LineClassesRise (s ∷ ss) = Each (λ t. class_rank s < class_rank t) ss × LineClassesRise ss

pub record ClassSpans (lo hi : ℕ) (ss : List LineClass) : Type 0 where
  pub within : Each (λ s. (lo ≤ class_rank s) × (class_rank s ≤ hi)) ss
  pub rises : LineClassesRise ss

pub rank_said : (e : Event) (s : LineClass) (text : List ℕ) →
    rank_of (line e (Said s text)) ≡ class_rank s
unfolding line
rank_said e Value text = refl
rank_said e _ text = refl

pub reader_classes_each : {A : Type 0} (P : ℕ → Type 0) (e : Event) (f : A → LineClass)
    (g : A → List ℕ) (xs : List A) → Each (λ s. P (class_rank s)) (map f xs) →
    Each (λ l. P (rank_of l)) (map (λ a. line e (Said (f a) (g a))) xs)
reader_classes_each P e f g [] h = tt
reader_classes_each P e f g (x ∷ xs) h = search (
  arith,
  rank_said,
  reader_classes_each P e f g xs
      h.1,
)

pub reader_classes_rise : {A : Type 0} (e : Event) (f : A → LineClass) (g : A → List ℕ)
    (xs : List A) → LineClassesRise (map f xs) → RanksRise (map (λ a. line e (Said (f a) (g a))) xs)
reader_classes_rise e f g [] h = tt
reader_classes_rise {A} e f g (x ∷ xs) h = (
  rw (rank_said e (f x) (g x)) (reader_classes_each (λ n. class_rank (f x) < n) e f g xs h.0),
  reader_classes_rise e f g xs h.1,
)

pub class_spans : {A : Type 0} (lo hi : ℕ) (e : Event) (f : A → LineClass) (g : A → List ℕ)
    (xs : List A) → ClassSpans lo hi (map f xs) →
    RanksRiseWithin lo hi (map (λ a. line e (Said (f a) (g a))) xs)
class_spans lo hi e f g xs h = record {
  within =
      reader_classes_each (λ n. (lo ≤ n) × (n ≤ hi)) e f g xs h.within;
  rises =
      reader_classes_rise e f g xs h.rises;
}

pub turn_spans : (ss : List LineClass) → AreInLineOrder ss → ClassSpans 1 7 ss
turn_spans ss (inl e) = search (arith)
turn_spans ss (inr (inl e)) = search (arith)
turn_spans ss (inr (inr (inl e))) = search (arith)
turn_spans ss (inr (inr (inr (inl e)))) = search (arith)
turn_spans ss (inr (inr (inr (inr (inl e))))) = search (arith)
turn_spans ss (inr (inr (inr (inr (inr e))))) = search (arith)

pub close_spans : (ss : List LineClass) → AreCloseClasses ss → ClassSpans 6 8 ss
close_spans ss (inl e) = search (arith)
close_spans ss (inr (inl e)) = search (arith)
close_spans ss (inr (inr e)) = search (arith)

-- the line classes at one octet and at the close after it; only a fault can come twice
pub both_say : (ds cs : List LineClass) → AreInLineOrder ds → AreCloseClasses cs →
    (list_any is_fault_class ds ≡ true → cs ≡ End ∷ []) → (ds ≡ Rest ∷ [] → cs ≡ Rest ∷ End ∷ [] →
    ⊥)
    → LineClassesRise (ds ++ cs) ⊎ ((ds ≡ Fault ∷ []) × (cs ≡ Fault ∷ []))
both_say ds cs (inl e) c h k = search (arith, close_spans)
both_say ds cs (inr (inl e)) (inl f) h k = rw (e, f) (inl (omega arith))
both_say ds cs (inr (inl e)) (inr (inl f)) h k = rw (e, f) (inl (omega arith))
both_say ds cs (inr (inl e)) (inr (inr f)) h k = rw (e, f) (inl (omega arith))
both_say ds cs (inr (inr (inl e))) (inl f) h k = rw (e, f) (inl (omega arith))
both_say ds cs (inr (inr (inl e))) (inr (inl f)) h k = rw (e, f) (inl (omega arith))
both_say ds cs (inr (inr (inl e))) (inr (inr f)) h k = rw (e, f) (inl (omega arith))
both_say ds cs (inr (inr (inr (inl e)))) (inl f) h k = rw (e, f) (inl (omega arith))
both_say ds cs (inr (inr (inr (inl e)))) (inr (inl f)) h k = rw (e, f) (inl (omega arith))
both_say ds cs (inr (inr (inr (inl e)))) (inr (inr f)) h k = absurd (k e f)
both_say ds cs (inr (inr (inr (inr (inl e))))) c h k = search (arith)
both_say ds cs (inr (inr (inr (inr (inr e))))) c h k = search (arith)

values_each : {A : Type 0} (f : A → LineClass) (xs : List A) → Each (λ a. f a ≡ Value) xs →
    Each (λ s. (1 ≤ class_rank s) × (class_rank s ≤ 1)) (map f xs)
values_each f [] h = tt
values_each f (x ∷ xs) h = search (arith, values_each f xs h.1)

values_rise : (ss : List LineClass) → AreInLineOrder ss →
    Each (λ s. (1 ≤ class_rank s) × (class_rank s ≤ 1)) ss → LineClassesRise ss
values_rise ss (inl e) h = rw e tt
values_rise ss (inr (inl e)) h = rw e (tt, tt)
values_rise ss (inr (inr (inl e))) h = search (arith)
values_rise ss (inr (inr (inr (inl e)))) h = search (arith)
values_rise ss (inr (inr (inr (inr (inl e))))) h = search (arith)
values_rise ss (inr (inr (inr (inr (inr e))))) h = search (arith)

pub value_spans : {A : Type 0} (f : A → LineClass) (xs : List A) → AreInLineOrder (map f xs) →
    Each (λ a. f a ≡ Value) xs → ClassSpans 1 1 (map f xs)
value_spans f xs t h = search (arith, values_each, values_rise, map)
