-- The place at which a text goes on with something that is no token. Such a text has no list of
-- tokens.
use Rattle.std.proofs.Common.{arith, ◌≡◌, ℕ, Bool, true, false, cond, eqb, List, [], ◌∷◌, length, drop, Option, Some, None, Result, Ok, Err}
use Rattle.std.specs.Prelude.{option_map}
use Rattle.giop_tokens.specs.declared.fault.TokenError.{TokenError}
use Rattle.giop_tokens.specs.declared.fault.SigFaultKind.TheVariants as kinds
use Rattle.giop_tokens.specs.Marks.{mark_of}
use Rattle.giop_tokens.specs.Tokens.{Token, mark, is_word_octet, is_id_octet, front_run, after_run, number_of, word_token, negative_token, repository_token, token_or_refusal, first, next, AreTokens}
use Rattle.giop_tokens.specs.Readers.{no_token}

abbrev failed : {A : Type 0} (refusal : TokenError) → Result A TokenError
failed e = Err e

err_is : {A : Type 0} (d e : TokenError) → failed {A = A} d ≡ failed e → d ≡ e
err_is d e h = cc

-- reading doesn't both give something and refuse
not_both : {A : Type 0} (x : A) (e : TokenError) → Ok x ≡ failed e → ⊥
not_both x e h = cc

as_token_refused : (text rest : List ℕ) (o : Option Token) (r : TokenError) →
    token_or_refusal text o rest ≡ Err r → r ≡ record { kind = kinds.Token; left = length text }
as_token_refused text rest None r e = search (arith, err_is)
as_token_refused text rest (Some t) r e = search (arith, not_both)

first_refused_by : (b : ℕ) (bs : List ℕ) (r : TokenError) (u v w : Bool)
    → cond u (token_or_refusal (b ∷ bs) (word_token (front_run is_word_octet (b ∷ bs)))
    (after_run is_word_octet (b ∷ bs)))
    (cond v (token_or_refusal (b ∷ bs) (negative_token (number_of (front_run is_word_octet bs)))
    (after_run is_word_octet bs))
    (cond w (token_or_refusal (b ∷ bs) (repository_token (front_run is_id_octet bs)
    (after_run is_id_octet bs))
    (drop 1 (after_run is_id_octet bs)))
    (token_or_refusal (b ∷ bs) (option_map mark (mark_of b)) bs))) ≡ Err r →
    r ≡ record { kind = kinds.Token; left = length (b ∷ bs) }
first_refused_by b bs r true v w h = search (arith, as_token_refused)
first_refused_by b bs r false true w h = search (arith, as_token_refused)
first_refused_by b bs r false false true h = search (arith, as_token_refused, drop)
first_refused_by b bs r false false false h = search (arith, as_token_refused)

first_refused : (text : List ℕ) (r : TokenError) → first text ≡ Err r →
    r ≡ record { kind = kinds.Token; left = length text }
unfolding first
first_refused [] r e = search (arith, not_both)
first_refused (b ∷ bs) r e = search (arith, first_refused_by, eqb)

-- if no token is found, the refusal is Token at that place
pub next_refused : (text : List ℕ) (r : TokenError) → next text ≡ Err r → r ≡ no_token text
unfolding next
next_refused text r e = search (arith, first_refused)

-- if a text goes on with something that is no token, it has no list of tokens
pub no_tokens : (text : List ℕ) (r : TokenError) → next text ≡ Err r → (ts : List Token) →
    AreTokens text ts → ⊥
no_tokens text r e [] h = search (arith, not_both)
no_tokens text r e (t ∷ ts) h = search (arith, not_both)
