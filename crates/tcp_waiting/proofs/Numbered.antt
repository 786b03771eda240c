-- What a slab has at the indices of an order, after one is inserted, removed or replaced.
use Rattle.std.proofs.Common.{◌≡◌, ◌≢◌, ℕ, zero, suc, ◌+◌, ◌<◌, ◌≤◌, false, eqb, cond, List, [], ◌∷◌, length, get_or, set, map, Option, Some, None, IsSome, OnSome, is_some, count_by, refl, ap, sym, ◌∙◌, inl, inr, arith}
use Rattle.std.specs.List.{AllByRecursion, IsDistinct, insert, remove}
use Rattle.std.proofs.lemmas.Bool.{eqb-false, ne_eqb, cases_eq}
use Rattle.std.proofs.lemmas.List.Edits.{length-insert, length-remove}
use Rattle.std.proofs.lemmas.List.Sums.{sum_by-cons}
use Rattle.slab.specs.Slab.{Slab, get, slab_len, with_value, Updates}
use Rattle.slab.proofs.SlabLemmas.{Updates-with_value}
use Rattle.tcp_waiting.specs.declared.pool.Waiting.{Waiting}
use Rattle.tcp_waiting.specs.Places.{waiting_under, IsOrderOfSlab}
use Rattle.tcp_waiting.proofs.Held.{map_insert, map_remove, all_insert, all_remove, all_at, all_weaker}

-- a number differs from all of these
abbrev pub IsNoneOf : (number : ℕ) (numbers : List ℕ) → Type 0
IsNoneOf n ns = AllByRecursion (λ m. m ≢ n) ns

-- what holds on Some, if there is one
pub some_so : {X : Type 0} (o : Option X) (P : Type 0) → IsSome o → OnSome o P → P
some_so None P s h = absurd (cc)
some_so (Some x) P s h = h

pub map_same : (f g : ℕ → Waiting) (ns : List ℕ) → AllByRecursion (λ n. g n ≡ f n) ns →
    map g ns ≡ map f ns
map_same f g [] h = refl
map_same f g (n ∷ ns) h = rw (h.0, map_same f g ns h.1) refl

apart : (n : ℕ) (ns : List ℕ) → AllByRecursion (λ m. eqb n m ≡ false) ns → IsNoneOf n ns
apart n ns h =
    all_weaker (λ m. eqb n m ≡ false) (λ m. m ≢ n) ns (λ m e same. eqb-false n m e (sym same)) h

pub map_changed : (f g : ℕ → Waiting) (ns : List ℕ) (i : ℕ) → IsDistinct eqb ns → i < length ns →
    ((m : ℕ) → m ≢ get_or ns i 0 → g m ≡ f m)
    → map g ns ≡ set (map f ns) i (g (get_or ns i 0))
unfolding IsDistinct
map_changed f g [] i d l o = absurd (omega arith)
map_changed f g (n ∷ ns) zero d l o =
    rw (map_same f g ns (all_weaker (λ m. m ≢ n) (λ m. g m ≡ f m) ns o (apart n ns d.0))) refl
map_changed f g (n ∷ ns) (suc i) d l o =
    let within : i < length ns = omega arith in
    let other : n ≢ get_or ns i 0 =
    λ e. all_at (λ m. m ≢ n) ns i 0 (apart n ns d.0) within (sym e) in
    rw (o n other, map_changed f g ns i d.1 within o) refl

pub distinct_remove : (ns : List ℕ) (i : ℕ) → IsDistinct eqb ns → IsDistinct eqb (remove ns i)
unfolding IsDistinct
distinct_remove [] zero d = tt
distinct_remove [] (suc i) d = tt
distinct_remove (n ∷ ns) zero d = d.1
distinct_remove (n ∷ ns) (suc i) d =
    (all_remove (λ m. eqb n m ≡ false) ns i d.0, distinct_remove ns i d.1)

pub distinct_insert : (ns : List ℕ) (i n : ℕ) → IsDistinct eqb ns → IsNoneOf n ns →
    IsDistinct eqb (insert ns i n)
unfolding IsDistinct
distinct_insert [] zero n d o = (tt, tt)
distinct_insert [] (suc i) n d o = (tt, tt)
distinct_insert (m ∷ ns) zero n d o = (
  all_weaker (λ k. k ≢ n) (λ k. eqb n k ≡ false) (m ∷ ns) (λ k e. ne_eqb n k (λ s. e (sym s))) o,
  d,
)
distinct_insert (m ∷ ns) (suc i) n d o =
    (all_insert (λ k. eqb m k ≡ false) ns i n d.0 (ne_eqb m n o.0), distinct_insert ns i n d.1 o.1)

-- the indices that are left differ from the one that was removed
pub others_remove : (ns : List ℕ) (i : ℕ) → IsDistinct eqb ns → i < length ns →
    IsNoneOf (get_or ns i 0) (remove ns i)
unfolding IsDistinct
others_remove [] i d l = absurd (omega arith)
others_remove (n ∷ ns) zero d l = apart n ns d.0
others_remove (n ∷ ns) (suc i) d l =
    let within : i < length ns = omega arith in (
      λ e. all_at (λ m. m ≢ n) ns i 0 (apart n ns d.0) within (sym e),
      others_remove ns i d.1 within,
    )

-- an index at which the slab has nothing differs from those at which it has something
pub vacant_others : (slots : Slab Waiting) (n : ℕ) (ns : List ℕ) → get slots n ≡ None →
    AllByRecursion (λ m. IsSome (get slots m)) ns → IsNoneOf n ns
vacant_others slots n ns e h =
    all_weaker (λ m. IsSome (get slots m)) (λ m. m ≢ n) ns
    (λ m s same. grind (arith, s, same, e)) h

-- the slab has the same at each index of an order, if it was changed at another one
others_same : (old new : Slab Waiting) (n : ℕ) (slot : Option Waiting) (ns : List ℕ) →
    Updates old new n slot → IsNoneOf n ns
    → AllByRecursion (λ m. get new m ≡ get old m) ns
others_same old new n slot ns u o =
    all_weaker (λ m. m ≢ n) (λ m. get new m ≡ get old m) ns (λ m e. u.others m e) o

held_same : (old new : Slab Waiting) (ns : List ℕ) →
    AllByRecursion (λ m. get new m ≡ get old m) ns
    → AllByRecursion (λ m. IsSome (get old m)) ns → AllByRecursion (λ m. IsSome (get new m)) ns
held_same old new [] s h = tt
held_same old new (n ∷ ns) s h = (rw s.0 h.0, held_same old new ns s.1 h.1)

map_under : (old new : Slab Waiting) (ns : List ℕ) →
    AllByRecursion (λ m. get new m ≡ get old m) ns
    → map (waiting_under new) ns ≡ map (waiting_under old) ns
map_under old new [] s = refl
map_under old new (n ∷ ns) s = rw (s.0, map_under old new ns s.1) refl

-- an order and a slab after one more payload waits
pub record SlabInserts (order_before order_after : List ℕ) (old new : Slab Waiting) (place : ℕ)
    (waiting : Waiting) : Type 0 where
  pub tied : IsOrderOfSlab order_after new
  pub items : map (waiting_under new) order_after
      ≡ insert (map (waiting_under old) order_before) place waiting

pub is_put : (order now : List ℕ) (old new : Slab Waiting) (i n : ℕ) (w : Waiting) →
    IsOrderOfSlab order old → i ≤ length order → now ≡ insert order i n → get old n ≡ None
    → Updates old new n (Some w) → slab_len new ≡ slab_len old + 1
    → SlabInserts order now old new i w
is_put order now old new i n w t l e v u c =
    let others = vacant_others old n order v t.held in
    let same = others_same old new n (Some w) order u others in
    rw e (record {
      tied = record {
        distinct = distinct_insert order i n t.distinct others;
        held = all_insert (λ m. IsSome (get new m)) order i n
            (held_same old new order same t.held) (rw u.changed refl);
        counted = omega (arith, length-insert order i n l);
      };
      items = map_insert (waiting_under new) order i n
          ∙ rw (u.changed, map_under old new order same) refl;
    })

-- an order and a slab after a payload was removed
pub record SlabRemoves (order_before order_after : List ℕ) (old new : Slab Waiting)
    (place : ℕ) : Type 0 where
  pub tied : IsOrderOfSlab order_after new
  pub items : map (waiting_under new) order_after
      ≡ remove (map (waiting_under old) order_before) place

pub is_taken : (order now : List ℕ) (old new : Slab Waiting) (i : ℕ) → IsOrderOfSlab order old →
    i < length order → now ≡ remove order i → Updates old new (get_or order i 0) None
    → slab_len new + 1 ≡ slab_len old → SlabRemoves order now old new i
is_taken order now old new i t l e u c =
    let others = others_remove order i t.distinct l in
    let same = others_same old new (get_or order i 0) None (remove order i) u others in
    let held = all_remove (λ m. IsSome (get old m)) order i t.held in
    rw e (record {
      tied = record {
        distinct = distinct_remove order i t.distinct;
        held = held_same old new (remove order i) same held;
        counted = omega (arith, length-remove order i l);
      };
      items = map_under old new (remove order i) same
          ∙ map_remove (waiting_under old) order i;
    })

count_kept : (slots : List (Option Waiting)) (n : ℕ) (w : Waiting) → IsSome (get_or slots n None) →
    count_by is_some (set slots n (Some w)) ≡ count_by is_some slots
count_kept [] n w h = refl
count_kept (None ∷ rest) zero w h = absurd (cc)
count_kept (Some v ∷ rest) zero w h =
    let one = λ (o : Option Waiting). cond (is_some o) 1 0 in
    sum_by-cons one (Some w) rest ∙ sym (sum_by-cons one (Some v) rest)
count_kept (slot ∷ rest) (suc n) w h =
    let one = λ (o : Option Waiting). cond (is_some o) 1 0 in
    sum_by-cons one slot (set rest n (Some w)) ∙ ap (λ k. one slot + k) (count_kept rest n w h)
    ∙ sym (sum_by-cons one slot rest)

all_held_with : (old : Slab Waiting) (n : ℕ) (w : Waiting) (ns : List ℕ) → IsSome (get old n) →
    AllByRecursion (λ m. IsSome (get old m)) ns
    → AllByRecursion (λ m. IsSome (get (with_value old n w) m)) ns
all_held_with old n w ns here h =
    let u = Updates-with_value old n w here in
    all_weaker (λ m. IsSome (get old m)) (λ m. IsSome (get (with_value old n w) m)) ns
    (λ m s. elim (cases_eq m n) [
      | inl e ↦ rw (e, u.changed) refl
      | inr o ↦ rw (u.others m o) s
    ]) h

-- an order and a slab after a payload was replaced
pub record SlabReplaces (order : List ℕ) (old new : Slab Waiting) (place : ℕ)
    (waiting : Waiting) : Type 0 where
  pub tied : IsOrderOfSlab order new
  pub items : map (waiting_under new) order ≡ set (map (waiting_under old) order) place waiting

pub is_replaced : (order : List ℕ) (old : Slab Waiting) (i n : ℕ) (w : Waiting) →
    IsOrderOfSlab order old → i < length order → n ≡ get_or order i 0
    → SlabReplaces order old (with_value old n w) i w
is_replaced order old i n w t l e =
    let held : IsSome (get old n) =
    rw e (all_at (λ m. IsSome (get old m)) order i 0 t.held l) in
    let u = Updates-with_value old n w held in
    let new = with_value old n w in
    let here : waiting_under new (get_or order i 0) ≡ w = rw (← e, u.changed) refl in
    let others : (m : ℕ) → m ≢ get_or order i 0 → waiting_under new m ≡ waiting_under old m =
    λ m o. rw (u.others m (λ s. o (s ∙ e))) refl in
    record {
      tied = record {
        distinct = t.distinct;
        held = all_held_with old n w order held t.held;
        counted = count_kept old.slots n w held ∙ t.counted;
      };
      items = map_changed (waiting_under old) (waiting_under new) order i t.distinct l others
          ∙ ap (λ v. set (map (waiting_under old) order) i v) here;
    }
