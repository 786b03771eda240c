-- If tokens are written in a text by the rules of layout, the text has exactly these tokens.
use Rattle.std.proofs.Common.{◌≡◌, ℕ, ◌<◌, ◌^◌, Bool, true, false, eqb, List, [], ◌∷◌, ◌++◌, inl, inr, length, map, Option, Some, None, Result, Ok, append_assoc, refl, arith}
use Rattle.std.specs.Prelude.{decimal, slice_index}
use Rattle.std.specs.List.{AllByRecursion, prefix_len}
use Rattle.std.proofs.lemmas.Bool.{eqb-true, le-leb, ne_eqb, true≢false}
use Rattle.std.proofs.lemmas.List.{take_at, drop_at}
use Rattle.giop_tokens.specs.declared.fault.TokenError.{TokenError}
use Rattle.giop_tokens.specs.declared.marks.Mark.{Mark}
use Rattle.giop_tokens.specs.declared.marks.Mark.TheVariants as marks
use Rattle.giop_tokens.specs.Marks.{octet_of, mark_of}
use Rattle.giop_tokens.specs.Tokens.{Token, word, number, negative, repository, mark, is_white_octet, is_digit, is_word_octet, after_gap, front_run, after_run, number_of, word_token, negative_token, first, next, AreTokens}
use Rattle.giop_tokens.proofs.Digits.{decimal_is_number, digits_are_word, digit_at, number_of_decimal}
use Rattle.giop_tokens.specs.Layout.{IsId, IsToken, token_octets, ends_in_word_octet, Space, white, comment, HasNoLineFeed, IsSpace, space_octets, octets_of_spaces, IsUnendedComment, LaidToken, laid_octets, AreLaidTokens, IsFirstToken, IsLayout}

-- ---- White space and comments are skipped.

not_slash : (b : ℕ) (v : Bool) → eqb b 47 ≡ v → is_white_octet b ≡ true → eqb b 47 ≡ false
not_slash b false e w = e
not_slash b true e w = search (arith, true≢false, eqb-true)

gap_white : (b : ℕ) (bs : List ℕ) → is_white_octet b ≡ true → after_gap false (b ∷ bs)
    ≡ after_gap false bs
unfolding after_gap
gap_white b bs w = search (arith, not_slash, eqb)

gap_line : (c bs : List ℕ) → HasNoLineFeed c → after_gap true (c ++ 10 ∷ bs) ≡ after_gap false bs
unfolding after_gap
gap_line [] bs l = refl
gap_line (b ∷ c) bs l = search (arith, eqb, ne_eqb, gap_line c bs l.1)

gap_open : (c : List ℕ) → HasNoLineFeed c → after_gap true c ≡ []
unfolding after_gap
gap_open [] l = refl
gap_open (b ∷ c) l = search (arith, eqb, ne_eqb, gap_open c l.1)

gap_slashes : (c : List ℕ) → after_gap false (47 ∷ 47 ∷ c) ≡ after_gap true c
unfolding after_gap
gap_slashes c = refl

gap_comment : (c bs : List ℕ) → HasNoLineFeed c →
    after_gap false ((47 ∷ 47 ∷ (c ++ 10 ∷ [])) ++ bs) ≡ after_gap false bs
gap_comment c bs l = search (arith, gap_slashes, append_assoc, gap_line)

gap_space : (s : Space) (bs : List ℕ) → IsSpace s → after_gap false (space_octets s ++ bs)
    ≡ after_gap false bs
gap_space (white b) bs h = gap_white b bs h
gap_space (comment c) bs h = gap_comment c bs h

gap_spaces : (ss : List Space) (bs : List ℕ) → AllByRecursion IsSpace ss →
    after_gap false (octets_of_spaces ss ++ bs) ≡ after_gap false bs
gap_spaces [] bs h = refl
gap_spaces (s ∷ ss) bs h = search (arith, append_assoc, gap_space, gap_spaces ss bs h.1)

gap_tail : (tail : List ℕ) → IsUnendedComment tail → after_gap false tail ≡ []
unfolding after_gap
gap_tail tail (inl e) = rw e refl
gap_tail tail (inr h) = search (arith, gap_slashes, gap_open)

-- ---- A token is no space.

gap_stop : (b : ℕ) (bs : List ℕ) → is_white_octet b ≡ false → eqb b 47 ≡ false →
    after_gap false (b ∷ bs) ≡ b ∷ bs
unfolding after_gap
gap_stop b bs w s = rw (s, w) refl

-- ---- Longest runs.

run_len : (is : ℕ → Bool) (w bs : List ℕ) → AllByRecursion (λ b. is b ≡ true) w →
    is (slice_index bs 0) ≡ false → prefix_len is (w ++ bs) ≡ length w
run_len is [] [] h e = refl
run_len is [] (b ∷ bs) h e = rw e refl
run_len is (c ∷ w) bs h e = search (arith, run_len is w bs h.1 e)

run_is : (is : ℕ → Bool) (w bs : List ℕ) → AllByRecursion (λ b. is b ≡ true) w →
    is (slice_index bs 0) ≡ false → front_run is (w ++ bs) ≡ w
run_is is w bs h e = search (arith, take_at, run_len)

past_is : (is : ℕ → Bool) (w bs : List ℕ) → AllByRecursion (λ b. is b ≡ true) w →
    is (slice_index bs 0) ≡ false → after_run is (w ++ bs) ≡ bs
past_is is w bs h e = search (arith, drop_at, run_len)

-- ---- A token is read as it is written.

abbrev Lexed : Type 0
Lexed = Result (Option Token × List ℕ) TokenError

abbrev lexed : (token : Token) (bs : List ℕ) → Lexed
lexed t bs = Ok (Some t, bs)

-- the token of a text that begins with a word octet
first_word : (b : ℕ) (w after : List ℕ) (t : Token) →
    AllByRecursion (λ b. is_word_octet b ≡ true) (b ∷ w) → is_word_octet (slice_index after 0)
    ≡ false →
    word_token (b ∷ w) ≡ Some t → first (b ∷ (w ++ after)) ≡ lexed t after
unfolding first
first_word b w after t h e told = rw (
  run_is is_word_octet (b ∷ w) after h e,
  past_is is_word_octet (b ∷ w) after h e,
  h.0,
  told,
) refl

word_told : (w : List ℕ) → is_digit (slice_index w 0) ≡ false → word_token w ≡ Some (word w)
word_told w e = rw e refl

number_told : (w : List ℕ) (n : ℕ) → is_digit (slice_index w 0) ≡ true → number_of w ≡ Some n →
    word_token w ≡ Some (number n)
number_told w n e k = rw (e, k) refl

first_negative : (w after : List ℕ) (t : Token) → AllByRecursion (λ b. is_word_octet b ≡ true) w →
    is_word_octet (slice_index after 0) ≡ false → negative_token (number_of w) ≡ Some t →
    first (45 ∷ (w ++ after)) ≡ lexed t after
unfolding first
first_negative w after t h e told = search (arith, run_is, past_is)

negative_told : (w : List ℕ) (n : ℕ) → 0 < n → number_of w ≡ Some n →
    negative_token (number_of w) ≡ Some (negative n)
negative_told w n pos e = search (arith, eqb, ne_eqb)

first_repository : (r after : List ℕ) → IsId r →
    first (34 ∷ (r ++ 34 ∷ after)) ≡ lexed (repository r) after
unfolding first
first_repository r after h = search (arith, le-leb, run_is, past_is)

first_mark : (m : Mark) (after : List ℕ) → first (octet_of m ∷ after) ≡ lexed (mark m) after
unfolding first mark_of
first_mark marks.OpenBrace after = refl
first_mark _ after = refl

-- the token of a text that begins with a run of word octets
first_run : (w after : List ℕ) (t : Token) → 0 < length w →
    AllByRecursion (λ b. is_word_octet b ≡ true) w → is_word_octet (slice_index after 0) ≡ false →
    word_token w ≡ Some t → first (w ++ after) ≡ lexed t after
first_run [] after t some h e told = absurd (omega arith)
first_run (b ∷ w) after t some h e told = search (arith, first_word)

first_number : (n : ℕ) (after : List ℕ) → n < 2 ^ 64 → is_word_octet (slice_index after 0) ≡ false →
    first (decimal n ++ after) ≡ lexed (number n) after
first_number n after lt e =
    let k = decimal_is_number n lt in
    first_run (decimal n) after (number n) k.some (digits_are_word (decimal n) k.digits) e
    (number_told (decimal n) n (digit_at (decimal n) 0 k.digits k.some)
    (number_of_decimal n lt))

pub first_written : (t : Token) (after : List ℕ) → IsToken t →
    (ends_in_word_octet t ≡ true → is_word_octet (slice_index after 0) ≡ false) →
    first (token_octets t ++ after) ≡ lexed t after
first_written (word w) after h e = search (arith, first_run, word_told)
first_written (number n) after h e = search (arith, first_number)
first_written (negative n) after h e =
    let k = decimal_is_number n h.1 in
    first_negative (decimal n) after (negative n) (digits_are_word (decimal n) k.digits) (e refl)
    (negative_told (decimal n) n h.0 (number_of_decimal n h.1))
first_written (repository r) after h e = search (arith, append_assoc, first_repository)
first_written (mark m) after h e = first_mark m after

-- ---- No token begins like a space or a comment.

abbrev BeginsToken : (b : ℕ) → Type 0
BeginsToken b = (is_white_octet b ≡ false) × (eqb b 47 ≡ false)

word_white : (b : ℕ) (v : Bool) → is_white_octet b ≡ v → is_word_octet b ≡ true → is_white_octet b
    ≡ false
word_white b false e w = e
word_white b true e w = search (arith, eqb, true≢false, eqb-true)

word_slash : (b : ℕ) (v : Bool) → eqb b 47 ≡ v → is_word_octet b ≡ true → eqb b 47 ≡ false
word_slash b false e w = e
word_slash b true e w = search (arith, true≢false, eqb-true)

word_stop : (b : ℕ) → is_word_octet b ≡ true → BeginsToken b
word_stop b w = search (arith, word_white, word_slash, eqb)

mark_stop : (m : Mark) → BeginsToken (octet_of m)
mark_stop marks.OpenBrace = (refl, refl)
mark_stop _ = (refl, refl)

gap_run : (w after : List ℕ) → 0 < length w → AllByRecursion (λ b. is_word_octet b ≡ true) w →
    after_gap false (w ++ after) ≡ w ++ after
gap_run [] after some h = absurd (omega arith)
gap_run (b ∷ w) after some h = search (arith, word_stop, gap_stop)

pub gap_written : (t : Token) (after : List ℕ) → IsToken t →
    after_gap false (token_octets t ++ after) ≡ token_octets t ++ after
gap_written (word w) after h = search (arith, gap_run)
gap_written (number n) after h = search (arith, decimal_is_number, gap_run, digits_are_word)
gap_written (negative n) after h = search (arith, gap_stop)
gap_written (repository r) after h = search (arith, gap_stop)
gap_written (mark m) after h = search (arith, mark_stop, gap_stop)

-- ---- A layout is its tokens.

next_laid : (front : List Space) (t : Token) (after : List ℕ) → AllByRecursion IsSpace front →
    IsToken t → (ends_in_word_octet t ≡ true → is_word_octet (slice_index after 0) ≡ false) →
    next (octets_of_spaces front ++ (token_octets t ++ after)) ≡ lexed t after
unfolding next
next_laid front t after f h e = search (arith, gap_spaces, gap_written, first_written)

-- the token that is written first is read first
pub first_next : (text : List ℕ) (t : Token) (rest : List ℕ) → IsFirstToken text t rest →
    next text ≡ Ok (Some t, rest)
first_next text t rest k = search (arith, next_laid)

next_tail : (front : List Space) (tail : List ℕ) → AllByRecursion IsSpace front
    → IsUnendedComment tail →
    next (octets_of_spaces front ++ tail) ≡ Ok (None, [])
unfolding next first
next_tail front tail f h = search (arith, gap_spaces, gap_tail)

are_laid : (front : List Space) (ls : List LaidToken) (tail : List ℕ) → AllByRecursion IsSpace front
    →
    AreLaidTokens ls tail → AreTokens (octets_of_spaces front ++ laid_octets ls tail)
    (map (λ l. l.token) ls)
are_laid front [] tail f h = next_tail front tail f h
are_laid front (l ∷ ls) tail f h = (
  octets_of_spaces l.after ++ laid_octets ls tail,
  next_laid front l.token (octets_of_spaces l.after ++ laid_octets ls tail) f h.0 h.2,
  are_laid l.after ls tail h.1 h.3,
)

pub layout_tokens : (text : List ℕ) (ts : List Token) → IsLayout text ts → AreTokens text ts
layout_tokens text ts k = search (arith, are_laid)
