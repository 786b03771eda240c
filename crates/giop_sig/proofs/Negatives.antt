-- A token that is a negative number isn't 0.
use Rattle.std.proofs.Common.{◌≡◌, ℕ, ◌<◌, Bool, true, false, cond, eqb, leb, List, [], ◌∷◌, drop, Option, Some, None, Ok, slice_index, option_map, refl, arith}
use Rattle.std.proofs.lemmas.Bool.{eqb-false}
use Rattle.giop_tokens.specs.declared.marks.Mark.{Mark}
use Rattle.giop_tokens.proofs.ReaderLaws.{ok_is}
use Rattle.giop_tokens.specs.Marks.{mark_of}
use Rattle.giop_tokens.specs.Tokens.{Token, word, number, negative, repository, mark, is_word_octet, is_id_octet, front_run, after_run, number_of, word_token, negative_token, repository_token, token_or_refusal, first, next}

as_token_is : (text : List ℕ) (o : Option Token) (rest after : List ℕ) (t : Token)
    → token_or_refusal text o rest ≡ Ok (Some t, after) → o ≡ Some t
as_token_is text None rest after t e = absurd cc
as_token_is text (Some s) rest after t e = search (arith, ok_is)

number_no : (o : Option ℕ) (n : ℕ) → option_map number o ≡ Some (negative n) → ⊥
number_no None n e = absurd cc
number_no (Some k) n e = absurd cc

word_by : (w : List ℕ) (n : ℕ) (v : Bool)
    → cond v (option_map number (number_of w)) (Some (word w)) ≡ Some (negative n) → ⊥
word_by w n true e = number_no (number_of w) n e
word_by w n false e = absurd cc

above_by : (k n : ℕ) (v : Bool) → eqb k 0 ≡ v
    → cond v None (Some (negative k)) ≡ Some (negative n) → 0 < n
above_by k n true p e = absurd cc
above_by k n false p e = search (arith, eqb-false)

above_zero : (o : Option ℕ) (n : ℕ) → negative_token o ≡ Some (negative n) → 0 < n
above_zero None n e = absurd cc
above_zero (Some k) n e = above_by k n (eqb k 0) refl e

repository_by : (id : List ℕ) (n : ℕ) (v : Bool)
    → cond v (Some (repository id)) None ≡ Some (negative n) → ⊥
repository_by id n true e = absurd cc
repository_by id n false e = absurd cc

mark_by : (o : Option Mark) (n : ℕ) → option_map mark o ≡ Some (negative n) → ⊥
mark_by None n e = absurd cc
mark_by (Some m) n e = absurd cc

octet_by : (b : ℕ) (bs rest : List ℕ) (n : ℕ) (x y z : Bool)
    → cond x (token_or_refusal (b ∷ bs) (word_token (front_run is_word_octet (b ∷ bs)))
    (after_run is_word_octet (b ∷ bs)))
    (cond y (token_or_refusal (b ∷ bs) (negative_token (number_of (front_run is_word_octet bs)))
    (after_run is_word_octet bs))
    (cond z (token_or_refusal (b ∷ bs) (repository_token (front_run is_id_octet bs)
    (after_run is_id_octet bs))
    (drop 1 (after_run is_id_octet bs))) (token_or_refusal (b ∷ bs)
    (option_map mark (mark_of b)) bs)))
    ≡ Ok (Some (negative n), rest) → 0 < n
octet_by b bs rest n true y z e = search (arith, word_by, slice_index, as_token_is)
octet_by b bs rest n false true z e = search (arith, above_zero, as_token_is)
octet_by b bs rest n false false true e = search (
  arith,
  repository_by,
  leb,
  eqb,
  slice_index,
  as_token_is,
  drop,
)
octet_by b bs rest n false false false e = search (arith, mark_by, as_token_is, option_map)

no_token : (n : ℕ) → None ≡ Some (negative n) → ⊥
no_token n e = absurd cc

first_by : (text rest : List ℕ) (n : ℕ) → first text ≡ Ok (Some (negative n), rest) → 0 < n
unfolding first
first_by [] rest n e = search (arith, no_token, ok_is)
first_by (b ∷ bs) rest n e = search (arith, octet_by, eqb)

pub negative_some : (text rest : List ℕ) (n : ℕ) → next text ≡ Ok (Some (negative n), rest) → 0 < n
unfolding next
negative_some text rest n e = search (arith, first_by)
