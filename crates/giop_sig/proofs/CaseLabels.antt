-- The list of a union's labels: what it has, and what is found in it.
use Rattle.std.proofs.Common.{◌≡◌, ℕ, zero, suc, ◌+◌, ◌<◌, ◌≤◌, ◌-◌, Bool, true, false, ◌||◌, not, List, [], ◌∷◌, ◌++◌, length, get_or, map, take, Option, Some, None, refl, sym, ap, subst, ◌∙◌, ◌⊎◌, ⊎_elim, arith}
use Rattle.std.specs.List.{list_any, position, Contains}
use Rattle.std.specs.List.Sorted.{IsPermutation, IsNonDecreasingBy}
use Rattle.std.proofs.lemmas.Bool.{cases_lt}
use Rattle.std.proofs.lemmas.Grind.{common_steps}
use Rattle.std.proofs.lemmas.List.{get_or_default, length-map, length-take-le, map_more}
use Rattle.std.proofs.lemmas.List.Folds.{position_or_len_push}
use Rattle.std.proofs.lemmas.List.Sums.{prefix_len-le-length}
use Rattle.std.proofs.lemmas.List.Elements.{All-append, Contains-append_left, Contains-append_right}
use Rattle.std.proofs.lemmas.List.Sorted.{All-permutation, Contains-permutation}
use Rattle.giop_cdr.specs.declared.number.Number.{Number}
use Rattle.giop_sig.specs.declared.entries.CaseEntry.{CaseEntry}
use Rattle.giop_sig.specs.declared.cases.PlacedLabel.{PlacedLabel}
use Rattle.giop_sig.specs.Table.{Case, same_number, case_with}
use Rattle.giop_sig.specs.UnionCases.{case_view, sort_key_of, KeysRise, placed_label, AreLabels}
use Rattle.giop_sig.proofs.NumberLaws.{number_same, number_self}

-- ---- the first element that passes, in a list with one more element

none_before : {X : Type 0} (p : X → Bool) (xs : List X) (x : X)
    → position p (xs ++ x ∷ []) ≡ None → position p xs ≡ None
none_before p xs x e = search (arith, position_or_len_push, prefix_len-le-length, not, common_steps)

none_last : {X : Type 0} (p : X → Bool) (xs : List X) (x : X)
    → position p (xs ++ x ∷ []) ≡ None → p x ≡ true → ⊥
none_last p xs x e t = search (arith, position_or_len_push, prefix_len-le-length, not, common_steps)

before_or_last : {X : Type 0} (p : X → Bool) (xs : List X) (x : X) (i : ℕ)
    → position p (xs ++ x ∷ []) ≡ Some i
    → (position p xs ≡ Some i) ⊎ ((p x ≡ true) × (i ≡ length xs))
before_or_last p xs x i e = search (
  arith,
  position_or_len_push,
  prefix_len-le-length,
  not,
  common_steps,
)

-- ---- the labels of one case

own_there_by : (n : Number) (i : ℕ) (m : Number) (ns : List Number) (b : Bool) → same_number m n ≡ b
    → (list_any (λ label. same_number label n) ns ≡ true →
    Contains (map (placed_label i) ns) (placed_label i n))
    → list_any (λ label. same_number label n) (m ∷ ns) ≡ true
    → Contains (map (placed_label i) (m ∷ ns)) (placed_label i n)
own_there_by n i m ns true same on e = search (arith, number_same)
own_there_by n i m ns false same on e =
    let c = on (subst (λ b. (b || list_any (λ label. same_number label n) ns) ≡ true) same e) in
    (suc c.0, omega (arith, c.1), c.2)

-- a number that selects the case is among its labels
own_there : (n : Number) (i : ℕ) (ns : List Number)
    → list_any (λ label. same_number label n) ns ≡ true → Contains (map (placed_label i) ns)
    (placed_label i n)
own_there n i [] e = absurd cc
own_there n i (m ∷ ns) e = own_there_by n i m ns (same_number m n) refl (own_there n i ns) e

-- each of the labels of a case selects it
own_selects : (i : ℕ) (ns : List Number) (k : ℕ) (d : PlacedLabel) → k < length
    (map (placed_label i) ns)
    → list_any (λ label. same_number label (get_or (map (placed_label i) ns) k d).number) ns ≡ true
own_selects i [] k d lt = absurd (omega arith)
own_selects i (m ∷ ns) zero d lt = rw (number_self m) refl
own_selects i (m ∷ ns) (suc k) d lt = search (
  arith,
  common_steps,
  own_selects i ns k d (omega
      arith),
)

-- ---- the labels of all cases

pub no_labels : AreLabels [] []
no_labels = search (arith)

pub one_case_more : (cs : List Case) (c : Case) (ls : List PlacedLabel) → AreLabels cs ls
    → AreLabels (cs ++ c ∷ []) (ls ++ map (placed_label (length cs)) c.labels)
one_case_more cs c ls is =
    let own = map (placed_label (length cs)) c.labels in
    let selects : Number → Case → Bool = λ n c. list_any (λ label. same_number label n) c.labels in
    record {
      each = All-append (λ (l : PlacedLabel). case_with l.number (cs ++ c ∷ []) ≡ None → ⊥) ls own
          (λ k d lt none. is.each k d lt (none_before (selects (get_or ls k d).number) cs c none))
          (λ k d lt none. none_last (selects (get_or own k d).number) cs c none
          (own_selects (length cs) c.labels k d lt));
      whole = λ n i e. ⊎_elim
          (λ before. Contains-append_left ls own (placed_label i n) (is.whole n i before))
          (λ last. Contains-append_right ls own (placed_label i n)
          (subst (λ j. Contains own (placed_label j n)) (sym last.1)
          (own_there n (length cs) c.labels last.0)))
          (before_or_last (selects n) cs c i e);
    }

-- after one turn of a loop over the cases
pub labels_step : (es : List CaseEntry) (i : ℕ) (e : CaseEntry) (ls ms : List PlacedLabel) →
    i < length es
    → AreLabels (map case_view (take i es)) ls
    → ms ≡ ls ++ map (placed_label i) (get_or es i e).labels.items →
    AreLabels (map case_view (take (i + 1) es)) ms
labels_step es i e ls ms lt is more =
    let long : length (map case_view (take i es)) ≡ i =
    length-map (take i es) case_view ∙ length-take-le i es (omega arith) in
    let labels : ls ++ map (placed_label (length (map case_view (take i es))))
    (get_or es i e).labels.items ≡ ms =
    ap (λ k. ls ++ map (placed_label k) (get_or es i e).labels.items) long ∙ sym more in
    subst (λ cs. AreLabels cs ms) (sym (map_more case_view es i e lt))
    (subst (AreLabels (map case_view (take i es) ++ case_view (get_or es i e) ∷ [])) labels
    (one_case_more (map case_view (take i es)) (case_view (get_or es i e)) ls is))

-- the order of the labels doesn't matter
pub in_any_order : (cs : List Case) (ls ms : List PlacedLabel) → IsPermutation ls ms
    → AreLabels cs ls → AreLabels cs ms
in_any_order cs ls ms same is = record {
  each = All-permutation (λ (l : PlacedLabel). case_with l.number cs ≡ None → ⊥) ls ms same is.each;
  whole = λ n i e. Contains-permutation ls ms (placed_label i n) same (is.whole n i e);
}

-- ---- labels whose keys ascend

pub rise_weakly : (ls : List PlacedLabel) → KeysRise ls →
    IsNonDecreasingBy (λ (l : PlacedLabel). sort_key_of l.number) ls
rise_weakly ls rise i j d le lt = search (arith, get_or, cases_lt)

-- the first n keys ascend
abbrev pub FirstKeysRise : (ls : List PlacedLabel) (n : ℕ) → Type 0
FirstKeysRise ls n = (i j : ℕ) (d : PlacedLabel) → i < j → j < n → j < length ls
    → sort_key_of (get_or ls i d).number < sort_key_of (get_or ls j d).number

pub rise_further : (ls : List PlacedLabel) (n : ℕ) (e : PlacedLabel) → 0 < n → n < length ls
    → sort_key_of (get_or ls (n - 1) e).number < sort_key_of (get_or ls n e).number
    → FirstKeysRise ls n →
    FirstKeysRise ls (n + 1)
rise_further ls n e some lt above rise i j d less within inside = ⊎_elim
    (λ before. rise i j d less before inside)
    (λ from.
    let last : n ≡ j = omega arith in
    let there : sort_key_of (get_or ls (n - 1) d).number < sort_key_of (get_or ls n d).number =
    rw (get_or_default ls (n - 1) d e (omega arith), get_or_default ls n d e lt) above in
    subst (λ k. sort_key_of (get_or ls i d).number < sort_key_of (get_or ls k d).number) last
    (⊎_elim
    (λ lower. omega (arith, rise i (n - 1) d lower (omega arith) (omega arith), there))
    (λ upper.
    let same : n - 1 ≡ i = omega arith in
    subst (λ k. sort_key_of (get_or ls k d).number < sort_key_of (get_or ls n d).number) same there)
    (cases_lt i (n - 1))))
    (cases_lt j n)

-- ---- what is found

-- labels with the same key are at the same index
one_index : (ls : List PlacedLabel) (i j : ℕ) (d : PlacedLabel) → KeysRise ls → i < length ls →
    j < length ls
    → sort_key_of (get_or ls i d).number ≡ sort_key_of (get_or ls j d).number → i ≡ j
one_index ls i j d rise li lj same = search (arith, cases_lt)

found_by : (cs : List Case) (ls : List PlacedLabel) (at : ℕ) (n : Number) (d : PlacedLabel)
    (o : Option ℕ)
    → AreLabels cs ls → KeysRise ls → at < length ls → (get_or ls at d).number ≡ n
    → case_with n cs ≡ o → Some (get_or ls at d).index ≡ o
found_by cs ls at n d None is rise lt same e = search (arith)
found_by cs ls at n d (Some i) is rise lt same e =
    let c = is.whole n i e in
    let there : get_or ls c.0 d ≡ placed_label i n = get_or_default ls c.0 d (placed_label i n) c.1
    ∙ c.2 in
    let here = one_index ls at c.0 d rise lt c.1
    (ap sort_key_of (same ∙ sym (ap (λ (l : PlacedLabel). l.number) there))) in
    ap Some (ap (λ k. (get_or ls k d).index) here ∙ ap (λ (l : PlacedLabel). l.index) there)

pub found : (cs : List Case) (ls : List PlacedLabel) (at : ℕ) (n : Number) (d : PlacedLabel) →
    AreLabels cs ls
    → KeysRise ls → at < length ls → same_number (get_or ls at d).number n ≡ true
    → Some (get_or ls at d).index ≡ case_with n cs
found cs ls at n d is rise lt same = search (arith, found_by, number_same, get_or)

none_by : (cs : List Case) (ls : List PlacedLabel) (at : ℕ) (n : Number) (o : Option ℕ) →
    AreLabels cs ls
    → KeysRise ls
    → ((i : ℕ) (d : PlacedLabel) → i < at → sort_key_of (get_or ls i d).number < sort_key_of n)
    → ((i : ℕ) (d : PlacedLabel) → at ≤ i → i < length ls →
    sort_key_of n ≤ sort_key_of (get_or ls i d).number)
    → ((d : PlacedLabel) → at < length ls → (get_or ls at d).number ≡ n → ⊥)
    → case_with n cs ≡ o → None ≡ o
none_by cs ls at n None is rise below above other e = refl
none_by cs ls at n (Some i) is rise below above other e =
    let c = is.whole n i e in
    let x = placed_label i n in
    let number : (get_or ls c.0 x).number ≡ n = ap (λ (l : PlacedLabel). l.number) c.2 in
    let key : sort_key_of (get_or ls c.0 x).number ≡ sort_key_of n = ap sort_key_of number in
    absurd (⊎_elim
    (λ lt. omega (arith, below c.0 x lt, key))
    (λ ge. ⊎_elim
    (λ lt. omega (arith, rise at c.0 x lt c.1, above at x (omega arith) (omega (arith, c.1)), key))
    (λ le.
    let same : c.0 ≡ at = omega arith in
    other x (omega (arith, c.1)) (subst (λ k. (get_or ls k x).number ≡ n) same number))
    (cases_lt at c.0))
    (cases_lt c.0 at))

other_by : (ls : List PlacedLabel) (at : ℕ) (n : Number) (e d : PlacedLabel)
    → (at < length ls → same_number (get_or ls at e).number n ≡ false)
    → at < length ls → (get_or ls at d).number ≡ n → ⊥
other_by ls at n e d other lt same = search (arith, get_or, get_or_default, number_self)

pub not_found : (cs : List Case) (ls : List PlacedLabel) (at : ℕ) (n : Number) (e : PlacedLabel) →
    AreLabels cs ls
    → KeysRise ls
    → ((i : ℕ) (d : PlacedLabel) → i < at → sort_key_of (get_or ls i d).number < sort_key_of n)
    → ((i : ℕ) (d : PlacedLabel) → at ≤ i → i < length ls →
    sort_key_of n ≤ sort_key_of (get_or ls i d).number)
    → (at < length ls → same_number (get_or ls at e).number n ≡ false)
    → None ≡ case_with n cs
not_found cs ls at n e is rise below above other =
    none_by cs ls at n (case_with n cs) is rise below above (λ d. other_by ls at n e d other) refl
