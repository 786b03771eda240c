-- Lists that grow at the end.
use Rattle.std.proofs.Common.{arith, ◌≡◌, ℕ, Bool, true, false, cond, List, [], ◌∷◌, ◌++◌, length, map, refl, ap, ◌∙◌, append_assoc, Option, Some, None}
use Rattle.std.proofs.lemmas.List.{append-nil, map_push}
use Rattle.std.specs.List.{filter, list_any, AllByRecursion as Each}
use Rattle.std.specs.Prelude.{◌||◌}
use Rattle.giop_checkpoint.specs.declared.fault.StreamFault.{StreamFault}
use Rattle.giop_stream.specs.HeaderOctets.{fronts, last_octet_fault, wrong_or, first_front_fault, first_wrong_octet}

-- Induction that adds at the end.
grown : {A : Type 0} (P : List A → Type 0) → ((xs : List A) (x : A) → P xs → P (xs ++ x ∷ [])) →
    (done more : List A) → P done → P (done ++ more)
grown P more_of done [] h = rw append-nil h
grown P more_of done (x ∷ xs) h = search (
  arith,
  append_assoc,
  grown P more_of (done ++ x ∷ []) xs
      (more_of done x h),
)

pub by_growth : {A : Type 0} (P : List A → Type 0) → P [] →
    ((xs : List A) (x : A) → P xs → P (xs ++ x ∷ [])) → (xs : List A) → P xs
by_growth P none more_of xs = grown P more_of [] xs none

pub fronts_push : {A : Type 0} (xs : List A) (x : A) → fronts (xs ++ x ∷ []) ≡ fronts xs
    ++ (xs ++ x ∷ []) ∷ []
unfolding fronts
fronts_push [] x = refl
fronts_push {A} (y ∷ ys) x =
    ap (λ (fs : List (List A)). [] ∷ map (λ front. y ∷ front) fs) (fronts_push ys x)
    ∙ ap (λ (fs : List (List A)). [] ∷ fs)
    (map_push (λ front. y ∷ front) (fronts ys) (ys ++ x ∷ []))

-- the fault of the last octet of a header's front
unfoldable pub wrong_last : (front : List ℕ) → Option (ℕ × StreamFault)
wrong_last front = wrong_or (last_octet_fault front) (length front) None

some_goes : (w : Option StreamFault) (n : ℕ) (a b : Option (ℕ × StreamFault))
    (found : ℕ × StreamFault)
    → (a ≡ Some found → b ≡ Some found) → wrong_or w n a ≡ Some found → wrong_or w n b ≡ Some found
some_goes (Some fault) n a b found f e = e
some_goes None n a b found f e = f e

first_some : (fs : List (List ℕ)) (f : List ℕ) (found : ℕ × StreamFault) →
    first_front_fault fs ≡ Some found → first_front_fault (fs ++ f ∷ []) ≡ Some found
unfolding first_front_fault
first_some [] f found e = absurd cc
first_some (g ∷ fs) f found e = some_goes (last_octet_fault g) (length g) (first_front_fault fs)
    (first_front_fault (fs ++ f ∷ [])) found (first_some fs f found) e

none_goes : (w : Option StreamFault) (n : ℕ) (a b c : Option (ℕ × StreamFault)) →
    (a ≡ None → b ≡ c) → wrong_or w n a ≡ None → wrong_or w n b ≡ c
none_goes (Some fault) n a b c f e = absurd cc
none_goes None n a b c f e = f e

first_none : (fs : List (List ℕ)) (f : List ℕ) → first_front_fault fs ≡ None →
    first_front_fault (fs ++ f ∷ []) ≡ wrong_last f
unfolding first_front_fault wrong_last
first_none [] f e = refl
first_none (g ∷ fs) f e = none_goes (last_octet_fault g) (length g) (first_front_fault fs)
    (first_front_fault (fs ++ f ∷ [])) (wrong_last f) (first_none fs f) e

pub offence_stays : (xs : List ℕ) (x : ℕ) (found : ℕ × StreamFault) →
    first_wrong_octet xs ≡ Some found → first_wrong_octet (xs ++ x ∷ []) ≡ Some found
unfolding first_wrong_octet
offence_stays xs x found e = search (arith, fronts_push, first_some)

pub offence_comes : (xs : List ℕ) (x : ℕ) → first_wrong_octet xs ≡ None →
    first_wrong_octet (xs ++ x ∷ []) ≡ wrong_last (xs ++ x ∷ [])
unfolding first_wrong_octet
offence_comes xs x e = search (arith, fronts_push, first_none)

-- A filter that keeps all elements or none, and two filters in either order.
pub filter_keeps : {A : Type 0} (test : A → Bool) (xs : List A) → Each (λ x. test x ≡ true) xs →
    filter test xs ≡ xs
filter_keeps test [] h = refl
filter_keeps {A} test (x ∷ xs) h = rw h.0 (ap (λ (ys : List A). x ∷ ys) (filter_keeps test xs h.1))

pub filter_drops : {A : Type 0} (test : A → Bool) (xs : List A) → Each (λ x. test x ≡ false) xs →
    filter test xs ≡ []
filter_drops test [] h = refl
filter_drops test (x ∷ xs) h = rw h.0 (filter_drops test xs h.1)

swap_by : {A : Type 0} (p q : A → Bool) (x : A) (xs : List A) →
    filter p (filter q xs) ≡ filter q (filter p xs)
    → (a b : Bool) → p x ≡ a → q x ≡ b → filter p (filter q (x ∷ xs)) ≡ filter q (filter p (x ∷ xs))
swap_by {A} p q x xs ih true true e f = search (arith)
swap_by p q x xs ih true false e f = simp (e, f) ih
swap_by p q x xs ih false true e f = simp (e, f) ih
swap_by p q x xs ih false false e f = simp (e, f) ih

pub filter_swap : {A : Type 0} (p q : A → Bool) (xs : List A) →
    filter p (filter q xs) ≡ filter q (filter p xs)
filter_swap p q [] = refl
filter_swap p q (x ∷ xs) = search (arith, swap_by, filter_swap p q xs)

pub each_append : {A : Type 0} (P : A → Type 0) (xs ys : List A) → Each P xs → Each P ys →
    Each P (xs ++ ys)
each_append P [] ys h k = k
each_append P (x ∷ xs) ys h k = (h.0, each_append P xs ys h.1 k)

pub each_weaker : {A : Type 0} (P Q : A → Type 0) → ((x : A) → P x → Q x) → (xs : List A) →
    Each P xs → Each Q xs
each_weaker P Q f [] h = tt
each_weaker P Q f (x ∷ xs) h = (f x h.0, each_weaker P Q f xs h.1)

pub each_map : {A B : Type 0} (P : B → Type 0) (f : A → B) → ((x : A) → P (f x)) → (xs : List A) →
    Each P (map f xs)
each_map P f h [] = tt
each_map P f h (x ∷ xs) = (h x, each_map P f h xs)

filter_by : {A : Type 0} (P : A → Type 0) (b : Bool) (x : A) (ys : List A) → P x → Each P ys →
    Each P (cond b (x ∷ ys) ys)
filter_by P true x ys h k = (h, k)
filter_by P false x ys h k = k

pub each_filter : {A : Type 0} (P : A → Type 0) (test : A → Bool) (xs : List A) → Each P xs →
    Each P (filter test xs)
each_filter P test [] h = tt
each_filter P test (x ∷ xs) h = search (arith, filter_by, each_filter P test xs h.1)

pub map_agree : {A B : Type 0} (f g : A → B) (xs : List A) → Each (λ x. f x ≡ g x) xs →
    map f xs ≡ map g xs
map_agree f g [] h = refl
map_agree {A} {B} f g (x ∷ xs) h = rw h.0 (ap (λ (ys : List B). g x ∷ ys) (map_agree f g xs h.1))

any_by : (b c d e : Bool) → c ≡ (d || e) → (b || c) ≡ ((b || d) || e)
any_by true c d e h = refl
any_by false c d e h = h

pub any_append : {A : Type 0} (test : A → Bool) (xs ys : List A) →
    list_any test (xs ++ ys) ≡ (list_any test xs || list_any test ys)
any_append test [] ys = refl
any_append test (x ∷ xs) ys = search (arith, any_by, any_append test xs ys)

pub all_by : {A : Type 0} (P : A → Type 0) → ((x : A) → P x) → (xs : List A) → Each P xs
all_by P h [] = tt
all_by P h (x ∷ xs) = (h x, all_by P h xs)
