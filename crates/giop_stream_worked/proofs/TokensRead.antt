-- The tokens of a text, by computation, if there are fewer than a given number.
use Rattle.std.proofs.Common.{◌≡◌, ℕ, zero, suc, List, [], ◌∷◌, Option, Some, None, Result, Ok, Err, refl, subst}
use Rattle.giop_tokens.specs.declared.fault.TokenError.{TokenError}
use Rattle.giop_tokens.specs.Tokens.{Token, next, AreTokens}

abbrev with_token : (t : Token) (ts : Option (List Token)) → Option (List Token)
with_token t None = None
with_token t (Some ts) = Some (t ∷ ts)

abbrev then : (read : List ℕ → Option (List Token)) → Result (Option Token × List ℕ) TokenError →
    Option (List Token)
then read (Err why) = None
then read (Ok (None, [])) = Some []
then read (Ok (None, x ∷ xs)) = None
then read (Ok (Some t, rest)) = with_token t (read rest)

unfoldable pub tokens_in : (n : ℕ) (text : List ℕ) → Option (List Token)
tokens_in zero text = None
tokens_in (suc n) text = then (tokens_in n) (next text)

abbrev AreRead : (read : List ℕ → Option (List Token)) → Type 0
AreRead read = (text : List ℕ) (ts : List Token) → read text ≡ Some ts → AreTokens text ts

token_first : (read : List ℕ → Option (List Token)) → AreRead read →
    (text rest : List ℕ) (t : Token) (ts : List Token)
    → next text ≡ Ok (Some t, rest) → (o : Option (List Token)) → read rest ≡ o →
    with_token t o ≡ Some ts
    → AreTokens text ts
token_first read are text rest t ts e None o h = absurd cc
token_first read are text rest t ts e (Some us) o h =
    let same : t ∷ us ≡ ts = cc in
    subst (AreTokens text) same (rest, e, are rest us o)

one_more : (read : List ℕ → Option (List Token)) → AreRead read → (text : List ℕ) (ts : List Token)
    (r : Result (Option Token × List ℕ) TokenError) → next text ≡ r → then read r ≡ Some ts →
    AreTokens text ts
one_more read are text ts (Err why) e h = absurd cc
one_more read are text ts (Ok (None, [])) e h =
    let none : [] ≡ ts = cc in
    subst (AreTokens text) none e
one_more read are text ts (Ok (None, x ∷ xs)) e h = absurd cc
one_more read are text ts (Ok (Some t, rest)) e h =
    token_first read are text rest t ts e (read rest) refl h

pub are_tokens : (n : ℕ) → AreRead (tokens_in n)
unfolding tokens_in
are_tokens zero text ts h = absurd cc
are_tokens (suc n) text ts h = one_more (tokens_in n) (are_tokens n) text ts (next text) refl h
