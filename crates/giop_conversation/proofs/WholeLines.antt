-- A line that is put with its whole tag in front, as one text.
use Rattle.std.proofs.Common.{◌≡◌, ℕ, zero, suc, ◌+◌, ◌-◌, ◌*◌, ◌%◌, ◌^◌, ◌≤◌, ◌<◌, ◌==◌, Bool, true, false, cond, List, [], ◌∷◌, ◌++◌, length, map, take, drop, slice_index, Option, Some, None, refl, sym, ap, subst, ◌∙◌, arith, append-nil, append_assoc, length-append, length-drop, pow-suc, inl, inr}
use borrow.Rule.Simd.Lanes.{act2}
use borrow.Table.Row.{s_int}
use lib.Lanes.{mask_l, top, zip2}
use lib.ListN.{replicate}
use mir.Syntax.{w8, bit_or, mask, eq}
use mir.Val.{bits, hbits}
use Rattle.std.specs.List.{AllByRecursion as Each}
use Rattle.std.proofs.lemmas.Simd.{bitmask_splat, length-chunk, length-zip2, length-replicate, mask_l-mod}
use Rattle.std.proofs.Math.Seq.{take-append-add}
use Rattle.std.proofs.lemmas.List.{take_all, take-append-le, take-append-drop, drop-drop, length-map, get_or-drop, get_or_push, get_or_append_left}
use Rattle.std.proofs.lemmas.List.Folds.{list_any_at}
use Rattle.std.proofs.lemmas.Bool.{eqb-true, false_from_ne_true, false≢true, cases_lt}
use Rattle.std.specs.List.{list_any}
use Rattle.std.specs.Io.KnownBytes.{Appends}
use Rattle.giop_print.specs.Output.{saturating_next, Wrote, WroteFront}
use Rattle.giop_conversation.specs.TaggedText.{first_line_size, IsOneLine, StandsTaggedIn}
use Rattle.giop_conversation.specs.TaggedState.{tagging_log}
use Rattle.giop_conversation.proofs.TagLemmas.{line_some}
use Rattle.giop_conversation.proofs.TaggedLemmas.{due_after_first, tag_step_in, line_step_in}
use Rattle.giop_conversation.proofs.TaggedPuts.{grows, clean_line, clean_failed}

pub is_line : (xs front : List ℕ) (last : ℕ) → xs ≡ front ++ (last ∷ []) → (last == 10) ≡ true →
    list_any (λ y. y == 10) front ≡ false → IsOneLine xs
is_line xs front last is ends none = search (
  arith,
  length-append,
  slice_index,
  get_or_push,
  get_or_append_left,
  false_from_ne_true,
  list_any_at,
)

-- the octets that are LF, as bits of a number
one_bit : (b : Bool) → cond b 1 0 + 2 * 0 ≡ 1 → b ≡ true
one_bit true is = refl
one_bit false is = absurd (omega (arith, is))

no_bit : (b : Bool) (m n : ℕ) → cond b 1 0 + 2 * m ≡ n * 2 → (b ≡ false) × (m ≡ n)
no_bit true m n is = absurd (omega (arith, is))
no_bit false m n is = (refl, omega (arith, is))

-- a line stays a line if an octet that isn't LF comes before it
longer : (x : ℕ) (ys : List ℕ) → (x == 10) ≡ false → IsOneLine ys → IsOneLine (x ∷ ys)
longer x [] first rest = search (arith)
longer x (y ∷ ys) first rest = search (arith, slice_index)

-- if only the last octet is LF, the octets are a line
only_last : (xs : List ℕ) (k : ℕ) → length xs ≡ k + 1 →
    mask_l (map (λ x. x == 10) xs) ≡ 2 ^ k → IsOneLine xs
only_last [] k size bits = absurd (omega (arith, size))
only_last (x ∷ []) zero size bits = search (arith, one_bit)
only_last (x ∷ []) (suc k) size bits = absurd (omega (arith, size))
only_last (x ∷ y ∷ ys) zero size bits = absurd (omega (arith, size))
only_last (x ∷ y ∷ ys) (suc k) size bits =
    let parts = no_bit (x == 10) (mask_l (map (λ x. x == 10) (y ∷ ys))) (2 ^ k)
    (rw pow-suc at bits) in
    longer x (y ∷ ys) parts.0 (only_last (y ∷ ys) k (omega (arith, size)) parts.1)

-- octets without LF
abbrev HasNoLf : List ℕ → Type 0
HasNoLf = Each (λ x. (x == 10) ≡ false)

before_line : (front xs : List ℕ) → HasNoLf front → IsOneLine xs → IsOneLine (front ++ xs)
before_line [] xs none line = line
before_line (x ∷ front) xs none line = search (arith, longer, before_line front xs none.1 line)

block_before : (octets : List ℕ) (a : ℕ) → HasNoLf (take 16 (drop a octets)) →
    IsOneLine (drop (a + 16) octets) → IsOneLine (drop a octets)
block_before octets a none line =
    let rest = drop a octets in
    subst IsOneLine (take-append-drop 16 rest)
    (before_line (take 16 rest) (drop 16 rest) none
    (subst IsOneLine (sym (drop-drop 16 a octets)) line))

-- ---- three blocks that are compared at once

abbrev bit_or_octets : ℕ → ℕ → ℕ
bit_or_octets = act2 bit_or (s_int w8) (s_int w8) (s_int w8)

abbrev lf_masks : (xs : List ℕ) (n : ℕ) → List ℕ
lf_masks xs n = zip2 (act2 (mask eq) (s_int w8) (s_int w8) (s_int w8)) xs (replicate n 10)

abbrev lf_marks_of_three : (xs ys zs : List ℕ) (n : ℕ) → List Bool
lf_marks_of_three xs ys zs n =
    map (top 7) (zip2 bit_or_octets (zip2 bit_or_octets (lf_masks xs n) (lf_masks ys n))
    (lf_masks zs n))

none_of : (s t u : Bool) →
    top 7 (bit_or_octets (bit_or_octets (cond s 255 0) (cond t 255 0)) (cond u 255 0)) ≡ false →
    (s ≡ false) × ((t ≡ false) × (u ≡ false))
none_of false false false is = (refl, (refl, refl))
none_of false false true is = absurd (false≢true (sym is))
none_of false true false is = absurd (false≢true (sym is))
none_of false true true is = absurd (false≢true (sym is))
none_of true false false is = absurd (false≢true (sym is))
none_of true false true is = absurd (false≢true (sym is))
none_of true true false is = absurd (false≢true (sym is))
none_of true true true is = absurd (false≢true (sym is))

none_in : (n : ℕ) (xs ys zs : List ℕ) → length xs ≡ n → length ys ≡ n → length zs ≡ n →
    mask_l (lf_marks_of_three xs ys zs n) ≡ 0 → HasNoLf xs × (HasNoLf ys × HasNoLf zs)
none_in zero [] [] [] a b c none = (tt, (tt, tt))
none_in zero [] [] (z ∷ zs) a b c none = absurd (omega (arith, c))
none_in zero [] (y ∷ ys) zs a b c none = absurd (omega (arith, b))
none_in zero (x ∷ xs) ys zs a b c none = absurd (omega (arith, a))
none_in (suc n) [] ys zs a b c none = absurd (omega (arith, a))
none_in (suc n) (x ∷ xs) [] zs a b c none = absurd (omega (arith, b))
none_in (suc n) (x ∷ xs) (y ∷ ys) [] a b c none = absurd (omega (arith, c))
none_in (suc n) (x ∷ xs) (y ∷ ys) (z ∷ zs) a b c none =
    let first = no_bit
    (top 7 (bit_or_octets (bit_or_octets (cond (x == 10) 255 0) (cond (y == 10) 255 0))
    (cond (z == 10) 255 0)))
    (mask_l (lf_marks_of_three xs ys zs n)) 0 none in
    let here = none_of (x == 10) (y == 10) (z == 10) first.0 in
    let more = none_in n xs ys zs (omega (arith, a)) (omega (arith, b)) (omega (arith, c)) first.1
    in
    ((here.0, more.0), ((here.1.0, more.1.0), (here.1.1, more.1.1)))

marks_long : (xs : List ℕ) (n : ℕ) → length xs ≡ n → length (lf_masks xs n) ≡ n
marks_long xs n size = search (arith, length-zip2, length-replicate)

-- the last octets of a line are a line too
pub line_behind : (xs : List ℕ) (k : ℕ) → IsOneLine xs → k < length xs → IsOneLine (drop k xs)
line_behind xs k l some = search (arith, length-drop, drop, get_or-drop)

-- 16 octets after the first ones
abbrev block_of_16 : (octets : List ℕ) (a : ℕ) → List ℕ
block_of_16 octets a = take 16 (drop a octets)

-- if none of the first 48 octets is LF, and those after k of them are a line, all are
pub line_from : (octets : List ℕ) → 64 ≤ length octets →
    mask_l (lf_marks_of_three (block_of_16 octets 0) (block_of_16 octets 16) (block_of_16 octets 32)
    16) % 2 ^ 64 ≡ 0 →
    (k : ℕ) → k ≤ 48 → IsOneLine (drop k octets) → IsOneLine octets
line_from octets size none k within line =
    let block_long : (a : ℕ) → a ≤ 48 → length (block_of_16 octets a) ≡ 16 =
    λ a few. search (arith, length-chunk) in
    let first = block_long 0 (omega arith) in
    let second = block_long 16 (omega arith) in
    let third = block_long 32 (omega arith) in
    let both = zip2 bit_or_octets (lf_masks (block_of_16 octets 0) 16)
    (lf_masks (block_of_16 octets 16) 16) in
    let two : length both ≡ 16 = length-zip2 bit_or_octets _ _
    (marks_long (block_of_16 octets 0) 16 first ∙ sym (marks_long (block_of_16 octets 16) 16
    second))
    ∙ marks_long (block_of_16 octets 0) 16 first in
    let all = lf_marks_of_three (block_of_16 octets 0) (block_of_16 octets 16)
    (block_of_16 octets 32) 16 in
    let long : length all ≡ 16 =
    length-map _ (top 7) ∙ (length-zip2 bit_or_octets both _
    (two ∙ sym (marks_long (block_of_16 octets 32) 16 third)) ∙ two) in
    let bits = sym (mask_l-mod all 64 (omega (arith, long))) ∙ none in
    let clear = none_in 16 (block_of_16 octets 0) (block_of_16 octets 16) (block_of_16 octets 32)
    first second third
    bits in
    let sum : k + (48 - k) ≡ 48 = omega (arith, within) in
    let rest : IsOneLine (drop 48 octets) = rw sum at (rw (drop-drop (48 - k) k octets) at
    (line_behind (drop k octets) (48 - k) line (omega (arith, length-drop k octets, within))))
    in
    block_before octets 0 clear.0 (block_before octets 16 clear.1.0
    (block_before octets 32 clear.1.1 rest))

-- if only the last of 16 octets is LF, they are a line
pub line_bits : (octets : List ℕ) → length octets ≡ 16 →
    (mask_l (map (top (hbits w8)) (zip2 (λ a b. cond (a == b) (2 ^ bits w8 - 1) 0)
    octets (replicate 16 10))) % 2 ^ 64 == 32768) ≡ true → IsOneLine octets
line_bits octets size is = only_last octets 15 size
    (sym (bitmask_splat w8 (λ a b. a == b) octets 16 10 size (omega arith)) ∙ eqb-true _ _ is)

line_is_whole : (line : List ℕ) → IsOneLine line → first_line_size line ≡ length line
line_is_whole line l = search (arith, line_some)

-- the tag was put, and then octets of the line
past_tag : (a b : Option (List ℕ)) (before tag : List ℕ) (since : ℕ) (text line : List ℕ) (k : ℕ) →
    IsOneLine line → 0 < length tag → 0 < k → k ≤ length line →
    StandsTaggedIn a before tag since text (length tag) → Appends a b (tag ++ take k line) →
    StandsTaggedIn b before tag (since + (length tag + k)) (text ++ take k line)
    (due_after_first tag line k)
past_tag None b before tag since text line k is some first fits stands appends = absurd stands
past_tag (Some w) None before tag since text line k is some first fits stands appends =
    absurd appends
past_tag (Some w) (Some w') before tag since text line k is some first fits stands appends =
    let none : length tag - length tag ≡ 0 = omega arith in
    let whole : w ++ tag ≡ w ++ take (length tag) (drop (length tag - length tag) tag) =
    rw none (ap (λ t. w ++ t) (sym (take_all (length tag) tag (omega arith)))) in
    let behind = rw none at (tag_step_in (Some w) (Some (w ++ tag)) before tag since text
    (length tag)
    (length tag) stands some (omega arith) whole) in
    let sum : since + (length tag + k) ≡ since + length tag + k = omega arith in
    rw sum (line_step_in (Some (w ++ tag)) (Some w') before tag (since + length tag) text line k
    behind
    first (rw (line_is_whole line is) fits) fits
    (appends ∙ sym (append_assoc w tag (take k line))))

-- the whole line was put with its tag
whole_stands : (a b : Option (List ℕ)) (before tag : List ℕ) (since : ℕ) (text line : List ℕ) →
    IsOneLine line → 0 < length tag →
    StandsTaggedIn a before tag since text (length tag) → Appends a b (tag ++ line) →
    StandsTaggedIn b before tag (since + (length tag + length line)) (text ++ line) (length tag)
whole_stands a b before tag since text line is some stands appends =
    let all = take_all (length line) line (omega arith) in
    let due : due_after_first tag line (length line) ≡ length tag = rw is.ended refl in
    rw (all, due) at (past_tag a b before tag since text line (length line) is some is.some
    (omega arith)
    stands (rw all appends))

-- only a front of the tag and the line was put
front_stands : (a b : Option (List ℕ)) (before tag : List ℕ) (since : ℕ) (text line : List ℕ)
    (n : ℕ) →
    IsOneLine line → 0 < length tag → n < length tag + length line →
    StandsTaggedIn a before tag since text (length tag) → Appends a b (take n (tag ++ line)) →
    StandsTaggedIn b before tag (since + n) (text ++ take (n - length tag) line) (length tag - n)
front_stands a b before tag since text line n is some few stands appends =
    elim (cases_lt (length tag) n) [
      | inl past ↦
          let k = n - length tag in
          let split : n ≡ length tag + k = omega (arith, past) in
          let due : due_after_first tag line k ≡ length tag - n =
          rw (is.only (k - 1) (omega (arith, past, few))) (omega (arith, past)) in
          let parts : take n (tag ++ line) ≡ tag ++ take k line =
          ap (λ m. take m (tag ++ line)) split ∙ take-append-add tag line k in
          rw (← split, due) at (past_tag a b before tag since text line k is some
          (omega (arith, past))
          (omega (arith, past, few)) stands (rw parts at appends))
      | inr within ↦
          let none : n - length tag ≡ 0 = omega (arith, within) in
          let start : length tag - length tag ≡ 0 = omega arith in
          rw (none, append-nil text) (tag_step_in a b before tag since text (length tag) n stands
          some within
          (rw start (rw (take-append-le n tag line within) at appends)))
    ]

pub wrote_line : (a b : Option (List ℕ)) (tag line : List ℕ)
    (f f' since since' due puts failures : ℕ) → IsOneLine line → 0 < length tag → due ≡ length tag →
    Appends a b (tag ++ line) → since' ≡ since + length (tag ++ line) →
    Wrote (tagging_log (record {
      whole = a;
      below = f;
      tag = tag;
      due = due;
      since = since;
      refused = false;
      puts = puts;
      failures = failures;
    }))
    (tagging_log (record {
      whole = b;
      below = f';
      tag = tag;
      due = due;
      since = since';
      refused = false;
      puts = puts;
      failures = failures;
    })) line
wrote_line a b tag line f f' since since' due puts failures is some all appends more = search
    (arith, length-append, grows, whole_stands, clean_line)

pub wrote_front : (a b : Option (List ℕ)) (tag line : List ℕ)
    (f f' since since' due due' n puts failures failures' : ℕ) → IsOneLine line → 0 < length tag →
    due ≡ length tag → due' ≡ length tag - n → n < length (tag ++ line) →
    Appends a b (take n (tag ++ line)) → since' ≡ since + n → failures' ≡ saturating_next failures →
    WroteFront (tagging_log (record {
      whole = a;
      below = f;
      tag = tag;
      due = due;
      since = since;
      refused = false;
      puts = puts;
      failures = failures;
    }))
    (tagging_log (record {
      whole = b;
      below = f';
      tag = tag;
      due = due';
      since = since';
      refused = false;
      puts = puts;
      failures = failures';
    })) line
wrote_front a b tag line f f' since since' due due' n puts failures failures' is some all left few
    appends more failed =
    let less : n < length tag + length line = omega (arith, few, length-append tag line) in
    let rest = take (n - length tag) line in
    record {
      size = n - length tag;
      written = rw failed (grows a b tag rest since since' due due' failures
          (saturating_next failures)
          (λ before text stands. rw (left, more) (front_stands a b before tag since text line n is
          some less (rw all at stands) appends))
          (λ text. clean_failed tag (text ++ rest) due' failures));
      puts = omega arith;
      failures = failed;
    }
