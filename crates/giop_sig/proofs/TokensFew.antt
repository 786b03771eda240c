-- A text has no more tokens than octets.
use Rattle.std.proofs.Common.{◌≡◌, ℕ, ◌<◌, ◌≤◌, Bool, true, false, cond, eqb, List, [], ◌∷◌, length, drop, Option, Some, None, Ok, ap, arith}
use Rattle.std.specs.Prelude.{slice_index, option_map}
use Rattle.std.proofs.lemmas.List.{length-drop}
use Rattle.giop_tokens.specs.Marks.{mark_of}
use Rattle.giop_tokens.specs.Tokens.{Token, mark, is_word_octet, is_id_octet, gap_step, here_or_on, after_gap, front_run, after_run, number_of, word_token, negative_token, repository_token, token_or_refusal, first, next, AreTokens}
use Rattle.giop_tokens.proofs.ReaderLaws.{ok_is}

stop_shorter : (o : Option Bool) (b : ℕ) (bs : List ℕ)
    → ((c : Bool) → length (after_gap c bs) ≤ length bs)
    → length (here_or_on o (b ∷ bs) (λ more. after_gap more bs)) ≤ length (b ∷ bs)
stop_shorter None b bs on = omega arith
stop_shorter (Some c) b bs on = omega (arith, on c)

gap_shorter : (text : List ℕ) (c : Bool) → length (after_gap c text) ≤ length text
unfolding after_gap
gap_shorter [] c = omega arith
gap_shorter (b ∷ bs) c = stop_shorter (gap_step c b (slice_index bs 0)) b bs (gap_shorter bs)

token_rest : (text : List ℕ) (o : Option Token) (after : List ℕ) (t : Token) (rest : List ℕ)
    → token_or_refusal text o after ≡ Ok (Some t, rest) → after ≡ rest
token_rest text None after t rest e = absurd cc
token_rest text (Some s) after t rest e = search (arith, ok_is)

past_by : (is : ℕ → Bool) (b : ℕ) (bs : List ℕ) → is b ≡ true
    → length (after_run is (b ∷ bs)) < length (b ∷ bs)
past_by is b bs e = search (arith, length-drop)

past_shorter : (is : ℕ → Bool) (bs : List ℕ) → length (after_run is bs) ≤ length bs
past_shorter is bs = search (arith, length-drop)

first_by : (b : ℕ) (bs : List ℕ) (t : Token) (rest : List ℕ) (p q r : Bool) → is_word_octet b ≡ p
    → cond p (token_or_refusal (b ∷ bs) (word_token (front_run is_word_octet (b ∷ bs)))
    (after_run is_word_octet (b ∷ bs)))
    (cond q (token_or_refusal (b ∷ bs) (negative_token (number_of (front_run is_word_octet bs)))
    (after_run is_word_octet bs))
    (cond r (token_or_refusal (b ∷ bs) (repository_token (front_run is_id_octet bs)
    (after_run is_id_octet bs))
    (drop 1 (after_run is_id_octet bs))) (token_or_refusal (b ∷ bs) (option_map mark (mark_of b))
    bs))) ≡ Ok (Some t, rest)
    → length rest < length (b ∷ bs)
first_by b bs t rest true q r word e =
    omega (
      arith,
      past_by is_word_octet b bs word,
      ap length (token_rest (b ∷ bs) (word_token (front_run is_word_octet (b ∷ bs)))
          (after_run is_word_octet (b ∷ bs)) t
          rest e),
    )
first_by b bs t rest false true r word e = search (arith, past_shorter, token_rest)
first_by b bs t rest false false true word e =
    omega (
      arith,
      past_shorter is_id_octet bs,
      length-drop 1 (after_run is_id_octet bs),
      ap length (token_rest (b ∷ bs) (repository_token (front_run is_id_octet bs)
          (after_run is_id_octet bs))
          (drop 1 (after_run is_id_octet bs)) t rest e),
    )
first_by b bs t rest false false false word e = search (arith, token_rest)

first_shorter : (text : List ℕ) (t : Token) (rest : List ℕ) → first text ≡ Ok (Some t, rest)
    → length rest < length text
unfolding first
first_shorter [] t rest e = search (arith, ok_is)
first_shorter (b ∷ bs) t rest e = search (arith, first_by, eqb)

next_shorter : (text : List ℕ) (t : Token) (rest : List ℕ) → next text ≡ Ok (Some t, rest)
    → length rest < length text
unfolding next
next_shorter text t rest e = search (arith, gap_shorter, first_shorter)

pub tokens_few : (ts : List Token) (text : List ℕ) → AreTokens text ts → length ts ≤ length text
tokens_few [] text h = omega arith
tokens_few (t ∷ ts) text h = search (arith, next_shorter, tokens_few ts h.0 h.2)

none_rest : (text : List ℕ) (o : Option Token) (after rest : List ℕ)
    → token_or_refusal text o after ≡ Ok (None, rest) → ⊥
none_rest text None after rest e = absurd cc
none_rest text (Some s) after rest e = search (arith, ok_is)

none_by : (b : ℕ) (bs rest : List ℕ) (p q r : Bool)
    → cond p (token_or_refusal (b ∷ bs) (word_token (front_run is_word_octet (b ∷ bs)))
    (after_run is_word_octet (b ∷ bs)))
    (cond q (token_or_refusal (b ∷ bs) (negative_token (number_of (front_run is_word_octet bs)))
    (after_run is_word_octet bs))
    (cond r (token_or_refusal (b ∷ bs) (repository_token (front_run is_id_octet bs)
    (after_run is_id_octet bs))
    (drop 1 (after_run is_id_octet bs))) (token_or_refusal (b ∷ bs) (option_map mark (mark_of b))
    bs))) ≡ Ok (None, rest) → ⊥
none_by b bs rest true q r e = search (arith, none_rest)
none_by b bs rest false true r e = search (arith, none_rest)
none_by b bs rest false false true e = search (arith, none_rest, drop)
none_by b bs rest false false false e = search (arith, none_rest)

first_none : (text rest : List ℕ) → first text ≡ Ok (None, rest) → rest ≡ []
unfolding first
first_none [] rest e = search (arith, ok_is)
first_none (b ∷ bs) rest e = search (arith, none_by, eqb)

-- nothing is left at the end of a text
pub next_none : (text rest : List ℕ) → next text ≡ Ok (None, rest) → rest ≡ []
unfolding next
next_none text rest e = search (arith, first_none)
