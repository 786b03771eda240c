-- Tags put in front of lines, octets added to a text, and tags taken away again.
use Rattle.std.proofs.Common.{◌≡◌, ℕ, zero, suc, ◌-◌, ◌≤◌, ◌<◌, ◌==◌, Bool, true, false, List, [], ◌∷◌, ◌++◌, length, take, slice_index, refl, sym, ap, ◌∙◌, arith, append-nil, append_assoc, if◌then◌else◌}
use Rattle.std.proofs.lemmas.Bool.{false_from_ne_true}
use Rattle.giop_conversation.specs.Tags.{tag_if_first, tagged, with_tags, untagged, without_tags}
use Rattle.giop_conversation.specs.TaggedText.{next_begins_line, is_tag_due, first_line_size}

pub tagged_append : (first : Bool) (tag a b : List ℕ) →
    tagged first tag (a ++ b) ≡ tagged first tag a ++ tagged (next_begins_line first a) tag b
unfolding tagged next_begins_line
tagged_append first tag [] b = refl
tagged_append first tag (x ∷ xs) b =
    rw (tagged_append (x == 10) tag xs b) (sym (append_assoc (tag_if_first first tag) (x
    ∷ tagged (x == 10) tag xs) _))

pub ends_append : (first : Bool) (a b : List ℕ) →
    next_begins_line first (a ++ b) ≡ next_begins_line (next_begins_line first a) b
unfolding next_begins_line
ends_append first [] b = refl
ends_append first (x ∷ xs) b = ends_append (x == 10) xs b

pub joined : (tag a b : List ℕ) → is_tag_due a ≡ true →
    with_tags tag (a ++ b) ≡ with_tags tag a ++ with_tags tag b
joined tag a b due = search (arith, tagged_append)

-- the octets of one line, at most up to its end
pub tagged_line : (first : Bool) (tag xs : List ℕ) (n : ℕ) → 0 < n → n ≤ first_line_size xs →
    tagged first tag (take n xs) ≡ tag_if_first first tag ++ take n xs
unfolding tagged first_line_size
tagged_line first tag [] n some within = search (arith)
tagged_line first tag (x ∷ xs) zero some within = absurd (omega (arith, some))
tagged_line first tag (x ∷ xs) (suc n) some within =
    by (x == 10) refl n within (λ m any fits. tagged_line false tag xs m any fits)
  where
    by : (b : Bool) → (x == 10) ≡ b → (n : ℕ) →
        suc n ≤ (if x == 10 then 1 else suc (first_line_size xs)) →
        ((m : ℕ) → 0 < m → m ≤ first_line_size xs → tagged false tag (take m xs) ≡ take m xs) →
        tag_if_first first tag ++ x ∷ tagged (x == 10) tag (take n xs) ≡ tag_if_first first tag ++ x
        ∷ take n xs
    by b is zero within rest = refl
    by true is (suc n) within rest = search (arith)
    by false is (suc n) within rest =
        ap (λ more. tag_if_first first tag ++ x ∷ more) (rw is (rest (suc n) (omega arith)
        (omega (arith, rw is at within))))

pub ends_take : (first : Bool) (xs : List ℕ) (n : ℕ) → 0 < n → n ≤ length xs →
    next_begins_line first (take n xs) ≡ (slice_index xs (n - 1) == 10)
unfolding next_begins_line
ends_take first [] n some within = search (arith)
ends_take first (x ∷ xs) zero some within = absurd (omega (arith, some))
ends_take first (x ∷ xs) (suc zero) some within = refl
ends_take first (x ∷ xs) (suc (suc n)) some within =
    let here : suc (suc n) - 1 ≡ suc n = omega arith in
    let next : suc n - 1 ≡ n = omega arith in
    rw here (rw next at (ends_take (x == 10) xs (suc n) (omega arith) (omega (arith, within))))

-- ---- tags taken away

-- how many octets of a tag are passed over: all if the next octet begins a line, else none
abbrev pub skip_if_first : (first : Bool) (size : ℕ) → ℕ
skip_if_first first size = if first then size else 0

untagged_tag : (size : ℕ) (tag rest : List ℕ) →
    untagged (length tag) size (tag ++ rest) ≡ untagged 0 size rest
unfolding untagged
untagged_tag size [] rest = refl
untagged_tag size (x ∷ xs) rest = untagged_tag size xs rest

pub untagged_few : (tag_left tag_size : ℕ) (text : List ℕ) → length text ≤ tag_left →
    untagged tag_left tag_size text ≡ []
unfolding untagged
untagged_few skip size [] few = refl
untagged_few zero size (x ∷ xs) few = absurd (omega (arith, few))
untagged_few (suc skip) size (x ∷ xs) few = untagged_few skip size xs (omega (arith, few))

untagged_lead : (first : Bool) (tag rest : List ℕ) →
    untagged (skip_if_first first (length tag)) (length tag) (tag_if_first first tag
    ++ rest) ≡ untagged 0 (length tag) rest
untagged_lead true tag rest = search (arith, untagged_tag)
untagged_lead false tag rest = refl

pub untagged_tagged : (first : Bool) (tag text rest : List ℕ) →
    untagged (skip_if_first first (length tag)) (length tag) (tagged first tag text ++ rest)
    ≡ text ++ untagged (skip_if_first (next_begins_line first text) (length tag)) (length tag) rest
unfolding tagged next_begins_line untagged
untagged_tagged first tag [] rest = refl
untagged_tagged first tag (x ∷ xs) rest =
    rw (
      append_assoc (tag_if_first first tag) (x
          ∷ tagged (x == 10) tag xs) rest,
      untagged_lead first tag (x ∷ tagged (x == 10) tag xs
          ++ rest),
    )
    (ap (λ more. x ∷ more) (untagged_tagged (x == 10) tag xs rest))

pub taken : (tag text : List ℕ) → without_tags (length tag) (with_tags tag text) ≡ text
unfolding untagged
taken tag text =
    ap (untagged (length tag) (length tag)) (sym (append-nil (with_tags tag text)))
    ∙ (untagged_tagged true tag text []
    ∙ (ap (λ rest. text ++ rest) (untagged_few (skip_if_first (next_begins_line true text)
    (length tag))
    (length tag) [] (omega arith)) ∙ append-nil text))

-- ---- the first line

pub line_none : (xs : List ℕ) → ((k : ℕ) → k < length xs → (slice_index xs k == 10) ≡ true → ⊥) →
    first_line_size xs ≡ length xs
unfolding first_line_size
line_none [] never = refl
line_none (x ∷ xs) never =
    let no : (x == 10) ≡ false = false_from_ne_true (x == 10) (never 0 (omega arith)) in
    rw no (ap suc (line_none xs (λ k low. never (suc k) (omega (arith, low)))))

pub line_some : (xs : List ℕ) (k : ℕ) → k < length xs →
    ((j : ℕ) → j < k → (slice_index xs j == 10) ≡ true → ⊥) → (slice_index xs k == 10) ≡ true →
    first_line_size xs ≡ suc k
unfolding first_line_size
line_some [] k low before is = absurd (omega (arith, low))
line_some (x ∷ xs) zero low before is = rw is refl
line_some (x ∷ xs) (suc k) low before is =
    let no : (x == 10) ≡ false = false_from_ne_true (x == 10) (before 0 (omega arith)) in
    rw no (ap suc (line_some xs k (omega (arith, low)) (λ j less. before (suc j)
    (omega (arith, less))) is))

pub line_is_within : (xs : List ℕ) → first_line_size xs ≤ length xs
unfolding first_line_size
line_is_within [] = omega arith
line_is_within (x ∷ xs) = search (arith, line_is_within xs)

pub line_has_some : (xs : List ℕ) → 0 < length xs → 0 < first_line_size xs
unfolding first_line_size
line_has_some [] some = some
line_has_some (x ∷ xs) some = search (arith)
