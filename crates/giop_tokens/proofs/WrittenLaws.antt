-- The tokens that are read of a text are written in it, with white space and comments between them.
use Rattle.std.proofs.Common.{◌≡◌, ℕ, ◌<◌, ◌^◌, Bool, true, false, cond, eqb, List, [], ◌∷◌, ◌++◌, ◌⊎◌, inl, inr, length, drop, Option, Some, None, Result, Ok, append_assoc, refl, sym, ap, subst, ◌∙◌, arith}
use Rattle.std.specs.Prelude.{nat_le, decimal, option_map, slice_index}
use Rattle.std.specs.List.{AllByRecursion}
use Rattle.std.proofs.lemmas.Bool.{eqb-true, eqb-false, leb-true}
use Rattle.std.proofs.lemmas.List.{take-append-drop}
use Rattle.giop_tokens.specs.declared.fault.TokenError.{TokenError}
use Rattle.giop_tokens.specs.declared.marks.Mark.{Mark}
use Rattle.giop_tokens.specs.declared.marks.Mark.TheVariants as marks
use Rattle.giop_tokens.specs.Marks.{octet_of, mark_of}
use Rattle.giop_tokens.specs.Tokens.{Token, number, negative, repository, mark, is_white_octet, is_digit, is_word_octet, is_id_octet, after_gap, front_run, after_run, number_of, word_token, negative_token, repository_token, token_or_refusal, first, next, AreTokens}
use Rattle.giop_tokens.proofs.Digits.{IsNumber, number_of_is}
use Rattle.giop_tokens.specs.Layout.{IsId, IsToken, token_octets, ends_in_word_octet, Space, white, comment, HasNoLineFeed, IsSpace, octets_of_spaces, IsUnendedComment, IsFirstToken, IsLayout}

-- ---- White space and comments before the first token.

-- white space and comments, and then the first token or the last comment
pub record IsSplitAtToken (text : List ℕ) : Type 0 where
  pub front : List Space
  pub tail : List ℕ
  pub fronts : AllByRecursion IsSpace front
  pub parts : text ≡ octets_of_spaces front ++ tail
  pub gaps : (after_gap false text ≡ tail) ⊎ ((after_gap false text ≡ []) × IsUnendedComment tail)

-- the end of a comment and what follows it, or a comment that goes on to the end of the text
pub record CommentEnds (text c rest : List ℕ) : Type 0 where
  pub parts : text ≡ c ++ 10 ∷ rest
  pub gaps : after_gap true text ≡ after_gap false rest
  pub split : IsSplitAtToken rest

abbrev SplitFrom : (flag : Bool) (text : List ℕ) → Type 0
SplitFrom true text = (c : List ℕ) × HasNoLineFeed c
    × (((rest : List ℕ) × CommentEnds text c rest) ⊎ ((text ≡ c) × (after_gap true text ≡ [])))
SplitFrom false text = IsSplitAtToken text

line_on : (b : ℕ) (bs : List ℕ) → eqb b 10 ≡ false → SplitFrom true bs → SplitFrom true (b ∷ bs)
unfolding after_gap
line_on b bs e (c, l, inl (rest, k)) = (
  b ∷ c,
  (λ z. eqb-false b 10 e z, l),
  inl (
    rest,
    record {
      parts = ap (λ (x : List ℕ). b ∷ x) k.parts;
      gaps = rw e k.gaps;
      split =
          k.split;
    },
  ),
)
line_on b bs e (c, l, inr k) = (
  b ∷ c,
  (λ z. eqb-false b 10 e z, l),
  inr (ap (λ (x : List ℕ). b ∷ x) k.0, rw e k.1),
)

line_end : (b : ℕ) (bs : List ℕ) → eqb b 10 ≡ true → IsSplitAtToken bs → SplitFrom true (b ∷ bs)
unfolding after_gap
line_end b bs e s = search (arith, eqb-true)

white_on : (b : ℕ) (bs : List ℕ) → after_gap false (b ∷ bs) ≡ after_gap false bs → is_white_octet b
    ≡ true →
    IsSplitAtToken bs → IsSplitAtToken (b ∷ bs)
white_on b bs g w s = record {
  front = white b ∷ s.front;
  tail = s.tail;
  fronts = (w, s.fronts);
  parts = ap (λ (x : List ℕ). b ∷ x) s.parts;
  gaps = white_by s.gaps;
} where
  white_by : (after_gap false bs ≡ s.tail) ⊎ ((after_gap false bs ≡ []) × IsUnendedComment s.tail) →
      (after_gap false (b ∷ bs) ≡ s.tail) ⊎ ((after_gap false (b ∷ bs) ≡ [])
      × IsUnendedComment s.tail)
  white_by (inl e) = inl (g ∙ e)
  white_by (inr k) = inr (g ∙ k.0, k.1)

stop_here : (b : ℕ) (bs : List ℕ) → after_gap false (b ∷ bs) ≡ b ∷ bs → IsSplitAtToken (b ∷ bs)
stop_here b bs g = search (arith)

-- a comment begins after two slashes
slashes_by : (b : ℕ) (bs c : List ℕ) → eqb b 47 ≡ true → eqb (slice_index bs 0) 47 ≡ true →
    after_gap false (b ∷ bs) ≡ after_gap true bs → HasNoLineFeed c
    → (((rest : List ℕ) × CommentEnds bs c rest) ⊎ ((bs ≡ c) × (after_gap true bs ≡ [])))
    → IsSplitAtToken (b ∷ bs)
slashes_by b bs [] e f g l (inl (rest, k)) = search (arith, eqb-false, eqb-true)
slashes_by b bs [] e f g l (inr k) = search (arith, eqb-false, eqb-true)
slashes_by b bs (d ∷ c) e f g l (inl (rest, k)) =
    let s : d ≡ 47 = sym (ap (λ (x : List ℕ). slice_index x 0) k.parts)
    ∙ eqb-true (slice_index bs 0) 47 f in
    let t : bs ≡ 47 ∷ (c ++ 10 ∷ rest) = k.parts ∙ ap (λ (x : ℕ). x ∷ (c ++ 10 ∷ rest)) s in
    let u : c ++ 10 ∷ rest ≡ (c ++ 10 ∷ []) ++ rest = sym (append_assoc c (10 ∷ []) rest) in
    let v : (c ++ 10 ∷ []) ++ rest ≡ (c ++ 10 ∷ [])
    ++ (octets_of_spaces k.split.front ++ k.split.tail) =
    ap (λ (x : List ℕ). (c ++ 10 ∷ []) ++ x) k.split.parts in
    let w : (c ++ 10 ∷ []) ++ (octets_of_spaces k.split.front ++ k.split.tail)
    ≡ ((c ++ 10 ∷ []) ++ octets_of_spaces k.split.front) ++ k.split.tail =
    sym (append_assoc (c ++ 10 ∷ []) (octets_of_spaces k.split.front) k.split.tail) in
    record {
      front = comment c ∷ k.split.front;
      tail = k.split.tail;
      fronts = (l.1, k.split.fronts);
      parts = ap (λ (x : ℕ). x ∷ bs) (eqb-true b 47 e)
          ∙ ap (λ (x : List ℕ). 47 ∷ x) (t ∙ ap (λ (x : List ℕ). 47 ∷ x) (u ∙ v ∙ w));
      gaps = subst (λ (x : List ℕ). (x ≡ k.split.tail) ⊎ ((x ≡ []) × IsUnendedComment k.split.tail))
          (sym (g ∙ k.gaps)) k.split.gaps;
    }
slashes_by b bs (d ∷ c) e f g l (inr k) = search (arith, eqb-true)

slashes_on : (b : ℕ) (bs : List ℕ) → eqb b 47 ≡ true → eqb (slice_index bs 0) 47 ≡ true →
    SplitFrom true bs → IsSplitAtToken (b ∷ bs)
unfolding after_gap
slashes_on b bs e f (c, l, k) = search (arith, slashes_by)

split_step : (b : ℕ) (bs : List ℕ) (u v w : Bool) → eqb b 47 ≡ u → eqb (slice_index bs 0) 47 ≡ v →
    is_white_octet b ≡ w → IsSplitAtToken bs → SplitFrom true bs → IsSplitAtToken (b ∷ bs)
unfolding after_gap
split_step b bs true true w e f g s c = slashes_on b bs e f c
split_step b bs true false true e f g s c = search (arith, white_on)
split_step b bs true false false e f g s c = search (arith, stop_here)
split_step b bs false v true e f g s c = search (arith, white_on)
split_step b bs false v false e f g s c = search (arith, stop_here)

line_step : (b : ℕ) (bs : List ℕ) (v : Bool) → eqb b 10 ≡ v → IsSplitAtToken bs → SplitFrom true bs
    →
    SplitFrom true (b ∷ bs)
line_step b bs true e s c = line_end b bs e s
line_step b bs false e s c = line_on b bs e c

split_from : (text : List ℕ) → IsSplitAtToken text × SplitFrom true text
unfolding after_gap
split_from [] = search (arith)
split_from (b ∷ bs) =
    let k = split_from bs in (
      split_step b bs (eqb b 47) (eqb (slice_index bs 0) 47)
          (is_white_octet b) refl refl refl k.0 k.1,
      line_step b bs (eqb b 10) refl k.0 k.1,
    )

pub split : (text : List ℕ) → IsSplitAtToken text
split text = (split_from text).0

-- ---- A token that was read is written there.

-- the text is the token's octets, and then what follows it
pub record BeginsWithToken (text : List ℕ) (t : Token) (rest : List ℕ) : Type 0 where
  pub token : IsToken t
  pub parts : text ≡ token_octets t ++ rest
  pub apart : ends_in_word_octet t ≡ true → is_word_octet (slice_index rest 0) ≡ false

run_past : (is : ℕ → Bool) (text : List ℕ) → front_run is text ++ after_run is text ≡ text
run_past is text = search (arith, take-append-drop)

run_step : (is : ℕ → Bool) (b : ℕ) (bs : List ℕ) → is b ≡ true → front_run is (b ∷ bs) ≡ b
    ∷ front_run is bs
run_step is b bs e = search (arith)

past_step : (is : ℕ → Bool) (b : ℕ) (bs : List ℕ) → is b ≡ true → after_run is (b ∷ bs)
    ≡ after_run is bs
past_step is b bs e = search (arith)

run_all_by : (is : ℕ → Bool) (b : ℕ) (bs : List ℕ) (v : Bool) → is b ≡ v →
    AllByRecursion (λ b. is b ≡ true) (front_run is bs) →
    AllByRecursion (λ b. is b ≡ true) (front_run is (b ∷ bs))
run_all_by is b bs true e h = search (arith, run_step)
run_all_by is b bs false e h = rw e tt

run_all : (is : ℕ → Bool) (text : List ℕ) → AllByRecursion (λ b. is b ≡ true) (front_run is text)
run_all is [] = tt
run_all is (b ∷ bs) = search (arith, run_all_by, run_all is bs)

past_ends_by : (is : ℕ → Bool) (b : ℕ) (bs : List ℕ) (v : Bool) → is b ≡ v →
    is (slice_index (after_run is bs) 0) ≡ false → is (slice_index (after_run is (b ∷ bs)) 0)
    ≡ false
past_ends_by is b bs true e h = rw (past_step is b bs e) h
past_ends_by is b bs false e h = rw e e

past_ends : (is : ℕ → Bool) (text : List ℕ) → is 0 ≡ false →
    is (slice_index (after_run is text) 0) ≡ false
past_ends is [] z = z
past_ends is (b ∷ bs) z = search (arith, past_ends_by, past_ends is bs z)

-- ---- Token by token.

abbrev Lexed : Type 0
Lexed = Result (Option Token × List ℕ) TokenError

abbrev lexed : (token : Token) (bs : List ℕ) → Lexed
lexed t bs = Ok (Some t, bs)

some_same : {A : Type 0} (x y : A) → Some x ≡ Some y → x ≡ y
some_same x y e = cc

abbrev done : (x : Option Token × List ℕ) → Lexed
done x = Ok x

ok_same : (x y : Option Token × List ℕ) → done x ≡ done y → x ≡ y
ok_same x y e = cc

lexed_same : (s t : Token) (front bs : List ℕ) → lexed s front ≡ lexed t bs → (s ≡ t) × (front ≡ bs)
lexed_same s t front bs e = search (arith, ok_same, some_same)

-- the end of a text isn't read as a token
no_end : (t : Token) (rest : List ℕ) → Ok (None, []) ≡ lexed t rest → ⊥
no_end t rest e = search (arith, ok_same)

as_token_is : (text : List ℕ) (o : Option Token) (t : Token) (bs rest : List ℕ) →
    token_or_refusal text o bs ≡ lexed t rest → (o ≡ Some t) × (bs ≡ rest)
as_token_is text None t bs rest e = absurd cc
as_token_is text (Some s) t bs rest e = search (arith, lexed_same)

-- the token that a run of word octets is
run_token : (w : List ℕ) (t : Token) (v : Bool) → 0 < length w →
    AllByRecursion (λ b. is_word_octet b ≡ true) w → is_digit (slice_index w 0) ≡ v →
    word_token w ≡ Some t → IsToken t × (w ≡ token_octets t)
run_token w t false some h d e = search (arith, some_same)
run_token w t true some h d e = number_by w t (number_of w) refl (rw d at e) where
  number_by : (w : List ℕ) (t : Token) (o : Option ℕ) → number_of w ≡ o →
      option_map number o ≡ Some t → IsToken t × (w ≡ token_octets t)
  number_by w t None n e = absurd cc
  number_by w t (Some n) o e =
      let k = number_of_is w n o in
      subst (λ (t : Token). IsToken t × (w ≡ token_octets t)) (some_same (number n) t e) (k.2, k.1)

negative_token_begins : (w : List ℕ) (t : Token) (o : Option ℕ) → number_of w ≡ o → negative_token o
    ≡ Some t →
    IsToken t × (45 ∷ w ≡ token_octets t)
negative_token_begins w t None n e = absurd cc
negative_token_begins w t (Some n) o e = signed_by w t n (eqb n 0) refl (number_of_is w n o) e where
  signed_by : (w : List ℕ) (t : Token) (n : ℕ) (v : Bool) → eqb n 0 ≡ v → IsNumber w
      × (w ≡ decimal n) × (n < 2 ^ 64) → cond v None (Some (negative n)) ≡ Some t → IsToken t
      × (45 ∷ w ≡ token_octets t)
  signed_by w t n true z k e = absurd cc
  signed_by w t n false z k e = search (arith, eqb-false, some_same)

begins_by : (text octets bs rest : List ℕ) (t : Token) → IsToken t × (octets ≡ token_octets t) →
    text ≡ octets ++ bs → bs ≡ rest → (ends_in_word_octet t ≡ true → is_word_octet
    (slice_index bs 0) ≡ false) →
    BeginsWithToken text t rest
begins_by text octets bs rest t h p r e = search (arith)

begins_run : (b : ℕ) (bs rest : List ℕ) (t : Token) → is_word_octet b ≡ true →
    token_or_refusal (b ∷ bs) (word_token (front_run is_word_octet (b ∷ bs)))
    (after_run is_word_octet (b ∷ bs)) ≡ lexed t rest →
    BeginsWithToken (b ∷ bs) t rest
begins_run b bs rest t w e =
    let k = as_token_is (b ∷ bs) (word_token (front_run is_word_octet (b ∷ bs))) t
    (after_run is_word_octet (b ∷ bs)) rest
    e in
    let some : 0 < length (front_run is_word_octet (b ∷ bs)) =
    omega (arith, ap length (run_step is_word_octet b bs w)) in
    let h = run_token (front_run is_word_octet (b ∷ bs)) t
    (is_digit (slice_index (front_run is_word_octet (b ∷ bs)) 0))
    some (run_all is_word_octet (b ∷ bs)) refl k.0 in
    begins_by (b ∷ bs) (front_run is_word_octet (b ∷ bs))
    (after_run is_word_octet (b ∷ bs)) rest t h
    (sym (run_past is_word_octet (b ∷ bs))) k.1 (λ u. past_ends is_word_octet (b ∷ bs) refl)

begins_negative : (b : ℕ) (bs rest : List ℕ) (t : Token) → b ≡ 45 →
    token_or_refusal (b ∷ bs) (negative_token (number_of (front_run is_word_octet bs)))
    (after_run is_word_octet bs) ≡ lexed t rest →
    BeginsWithToken (b ∷ bs) t rest
begins_negative b bs rest t m e =
    let k = as_token_is (b ∷ bs) (negative_token (number_of (front_run is_word_octet bs))) t
    (after_run is_word_octet bs) rest
    e in
    let h = negative_token_begins (front_run is_word_octet bs) t
    (number_of (front_run is_word_octet bs)) refl k.0 in
    let p : b ∷ bs ≡ (45 ∷ front_run is_word_octet bs) ++ after_run is_word_octet bs =
    ap (λ (x : ℕ). x ∷ bs) m ∙ ap (λ (x : List ℕ). 45 ∷ x) (sym (run_past is_word_octet bs)) in
    begins_by (b ∷ bs) (45 ∷ front_run is_word_octet bs) (after_run is_word_octet bs) rest t h p k.1
    (λ u. past_ends is_word_octet bs refl)

-- a list whose first octet is a quotation mark is that mark and the rest
head_is : (after : List ℕ) → slice_index after 0 ≡ 34 → after ≡ 34 ∷ drop 1 after
head_is [] e = absurd (omega (arith, e))
head_is (b ∷ bs) e = ap (λ (x : ℕ). x ∷ bs) e

repository_by : (id after : List ℕ) (t : Token) (u v w : Bool) → nat_le 1 (length id) ≡ u →
    nat_le (length id) 128 ≡ v → eqb (slice_index after 0) 34 ≡ w →
    AllByRecursion (λ b. is_id_octet b ≡ true) id → repository_token id after ≡ Some t
    → IsId id × (repository id ≡ t) × (after ≡ 34 ∷ drop 1 after)
repository_by id after t false v w e f g h r = search (arith)
repository_by id after t true false w e f g h r = search (arith)
repository_by id after t true true false e f g h r = search (arith)
repository_by id after t true true true e f g h r = search (
  arith,
  leb-true,
  some_same,
  head_is,
  eqb-true,
)

begins_repository : (b : ℕ) (bs rest : List ℕ) (t : Token) → b ≡ 34 →
    token_or_refusal (b ∷ bs) (repository_token (front_run is_id_octet bs)
    (after_run is_id_octet bs)) (drop 1 (after_run is_id_octet bs))
    ≡ lexed t rest → BeginsWithToken (b ∷ bs) t rest
begins_repository b bs rest t m e = search (
  arith,
  as_token_is,
  drop,
  repository_by,
  eqb,
  run_all,
  run_past,
  append_assoc,
  begins_by,
)

-- ---- Marks.

mark_step : (b k : ℕ) (n m : Mark) (o : Option Mark) → octet_of n ≡ k →
    (o ≡ Some m → octet_of m ≡ b) → (v : Bool) → eqb b k ≡ v → cond v (Some n) o ≡ Some m →
    octet_of m ≡ b
mark_step b k n m o e on true f h = search (arith, some_same, eqb-true)
mark_step b k n m o e on false f h = on h

mark_of_is : (b : ℕ) (m : Mark) → mark_of b ≡ Some m → octet_of m ≡ b
unfolding mark_of
mark_of_is b m h =
    mark_step b 123 marks.OpenBrace m _ refl (λ h.
    mark_step b 125 marks.CloseBrace m _ refl (λ h.
    mark_step b 40 marks.OpenParenthesis m _ refl (λ h.
    mark_step b 41 marks.CloseParenthesis m _ refl (λ h.
    mark_step b 60 marks.OpenAngle m _ refl (λ h.
    mark_step b 62 marks.CloseAngle m _ refl (λ h.
    mark_step b 91 marks.OpenBracket m _ refl (λ h.
    mark_step b 93 marks.CloseBracket m _ refl (λ h.
    mark_step b 44 marks.Comma m _ refl (λ h.
    mark_step b 59 marks.Semicolon m _ refl (λ h.
    mark_step b 58 marks.Colon m None refl (λ h. absurd cc) (eqb b 58) refl h) (eqb b 59) refl h)
    (eqb b 44) refl h) (eqb b 93) refl h) (eqb b 91) refl h) (eqb b 62) refl h) (eqb b 60) refl
    h) (eqb b 41) refl h) (eqb b 40) refl h) (eqb b 125) refl h) (eqb b 123) refl h

begins_mark : (b : ℕ) (bs rest : List ℕ) (t : Token) (o : Option Mark) → mark_of b ≡ o →
    token_or_refusal (b ∷ bs) (option_map mark o) bs ≡ lexed t rest → BeginsWithToken
    (b ∷ bs) t rest
begins_mark b bs rest t None m e = absurd cc
begins_mark b bs rest t (Some n) m e = search (arith, lexed_same, mark_of_is, begins_by)

-- ---- The first token.

begins_with : (b : ℕ) (bs rest : List ℕ) (t : Token) (u v w : Bool) → is_word_octet b ≡ u → eqb b 45
    ≡ v →
    eqb b 34 ≡ w
    → cond u (token_or_refusal (b ∷ bs) (word_token (front_run is_word_octet (b ∷ bs)))
    (after_run is_word_octet (b ∷ bs)))
    (cond v (token_or_refusal (b ∷ bs) (negative_token (number_of (front_run is_word_octet bs)))
    (after_run is_word_octet bs))
    (cond w (token_or_refusal (b ∷ bs) (repository_token (front_run is_id_octet bs)
    (after_run is_id_octet bs))
    (drop 1 (after_run is_id_octet bs)))
    (token_or_refusal (b ∷ bs) (option_map mark (mark_of b)) bs))) ≡ lexed t rest → BeginsWithToken
    (b ∷ bs) t rest
begins_with b bs rest t true v w e f g h = begins_run b bs rest t e h
begins_with b bs rest t false true w e f g h = search (arith, begins_negative, eqb-true)
begins_with b bs rest t false false true e f g h = search (arith, begins_repository, eqb-true)
begins_with b bs rest t false false false e f g h = search (arith, begins_mark)

pub first_begins : (text rest : List ℕ) (t : Token) → first text ≡ lexed t rest
    → BeginsWithToken text t rest
unfolding first
first_begins [] rest t e = absurd (no_end t rest e)
first_begins (b ∷ bs) rest t e = search (arith, begins_with, eqb)

-- ---- All of a text.

ended_by : (text bs : List ℕ) (o : Option Token) → token_or_refusal text o bs ≡ Ok (None, []) → ⊥
ended_by text bs None e = cc
ended_by text bs (Some t) e = no_end t bs (sym e)

first_ended : (text : List ℕ) → first text ≡ Ok (None, []) → text ≡ []
unfolding first
first_ended [] e = refl
first_ended (b ∷ bs) e = search (arith, eqb, cond, drop, ended_by)

tail_of : (text : List ℕ) (s : IsSplitAtToken text) → after_gap false text ≡ [] →
    (after_gap false text ≡ s.tail)
    ⊎ ((after_gap false text ≡ []) × IsUnendedComment s.tail) → IsUnendedComment s.tail
tail_of text s e (inl k) = inl (sym k ∙ e)
tail_of text s e (inr k) = k.1

layout_end : (text : List ℕ) → next text ≡ Ok (None, []) → IsLayout text []
unfolding next
layout_end text e =
    let s = split text in
    record {
      front = s.front;
      laid = [];
      tail = s.tail;
      fronts = s.fronts;
      each =
          tail_of text s (first_ended (after_gap false text) e) s.gaps;
      tokens = refl;
      octets = s.parts;
    }

layout_on : (text rest : List ℕ) (t : Token) (ts : List Token) (s : IsSplitAtToken text) →
    after_gap false text ≡ s.tail → BeginsWithToken (after_gap false text) t rest → IsLayout rest ts
    →
    IsLayout text (t ∷ ts)
layout_on text rest t ts s g b k = record {
  front = s.front;
  laid = (record { token = t; after = k.front }) ∷ k.laid;
  tail = k.tail;
  fronts = s.fronts;
  each = (
    b.token,
    k.fronts,
    (λ u. subst (λ (x : List ℕ). is_word_octet (slice_index x 0) ≡ false)
        k.octets (b.apart u)),
    k.each,
  );
  tokens = ap (λ (us : List Token). t ∷ us) k.tokens;
  octets = s.parts ∙ ap (λ (x : List ℕ). octets_of_spaces s.front ++ x)
      (sym g ∙ b.parts ∙ ap (λ (x : List ℕ). token_octets t ++ x) k.octets);
}

layout_step : (text rest : List ℕ) (t : Token) (ts : List Token) (s : IsSplitAtToken text) →
    first (after_gap false text) ≡ lexed t rest → IsLayout rest ts → (after_gap false text ≡ s.tail)
    ⊎ ((after_gap false text ≡ []) × IsUnendedComment s.tail) → IsLayout text (t ∷ ts)
unfolding first
layout_step text rest t ts s e k (inl g) = search (arith, layout_on, first_begins)
layout_step text rest t ts s e k (inr g) = search (arith, no_end)

first_by : (text rest : List ℕ) (t : Token) (s : IsSplitAtToken text) →
    first (after_gap false text) ≡ lexed t rest → (after_gap false text ≡ s.tail)
    ⊎ ((after_gap false text ≡ []) × IsUnendedComment s.tail) → IsFirstToken text t rest
unfolding first
first_by text rest t s e (inl g) =
    let b = first_begins (after_gap false text) rest t e in
    record {
      front = s.front;
      fronts = s.fronts;
      token = b.token;
      apart = b.apart;
      octets =
          s.parts ∙ ap (λ (x : List ℕ). octets_of_spaces s.front ++ x) (sym g ∙ b.parts);
    }
first_by text rest t s e (inr g) = search (arith, no_end)

-- the token that is read first is written first
pub next_first : (text : List ℕ) (t : Token) (rest : List ℕ) → next text ≡ Ok (Some t, rest) →
    IsFirstToken text t rest
unfolding next
next_first text t rest e = first_by text rest t (split text) e (split text).gaps

pub tokens_layout : (text : List ℕ) (ts : List Token) → AreTokens text ts → IsLayout text ts
unfolding next
tokens_layout text [] h = layout_end text h
tokens_layout text (t ∷ ts) h = let s = split text in
    layout_step text h.0 t ts s h.1 (tokens_layout h.0 ts h.2) s.gaps

-- ---- One list.

next_same : (text : List ℕ) (s t : Token) (bs cs : List ℕ) → next text ≡ lexed s bs →
    next text ≡ lexed t cs → (s ≡ t) × (bs ≡ cs)
next_same text s t bs cs e f = search (arith, lexed_same)

pub one_list : (text : List ℕ) (ts us : List Token) → AreTokens text ts → AreTokens text us →
    ts ≡ us
one_list text [] [] h k = refl
one_list text [] (u ∷ us) h k = search (arith, no_end)
one_list text (t ∷ ts) [] h k = search (arith, no_end)
one_list text (t ∷ ts) (u ∷ us) h k =
    let e = next_same text t u h.0 k.0 h.1 k.1 in
    ap (λ (x : Token). x ∷ ts) e.0 ∙ ap (λ (x : List Token). u ∷ x)
    (one_list k.0 ts us (subst (λ (x : List ℕ). AreTokens x ts) e.1 h.2) k.2)
