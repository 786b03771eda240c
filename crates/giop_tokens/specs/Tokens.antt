-- The tokens of a text (docs/FORMATS.md, Signature file): the first token and what follows it, and
-- the tokens that a text is (meaning). A place in a text is the number of octets that are left from
-- there on.
use Rattle.std.specs.Prelude.{◌≡◌, ℕ, ◌^◌, Bool, true, false, not, ◌||◌, ◌&&◌, List, [], ◌∷◌, length, take, drop, Option, Some, None, Result, Ok, Err, nat_le, nat_lt, ◌==◌, if◌then◌else◌, slice_index, option_map}
use Rattle.std.specs.List.{prefix_len, list_all}
use Rattle.std.specs.Str.Parse.{digits_value}
use Rattle.giop_tokens.specs.declared.fault.TokenError.{TokenError}
use Rattle.giop_tokens.specs.declared.fault.SigFaultKind.TheVariants as kinds
use Rattle.giop_tokens.specs.declared.marks.Mark.{Mark}
use Rattle.giop_tokens.specs.declared.lexer.Token.TheVariants as seen
use Rattle.giop_tokens.specs.declared.lexer.Token as code
use Rattle.giop_tokens.specs.Marks.{mark_of}

pub data Token : Type 0 where
  word : List ℕ → Token
  number : ℕ → Token
  negative : ℕ → Token
  repository : List ℕ → Token
  mark : Mark → Token

-- ---- Octets.

-- space, tab, CR, LF
abbrev pub is_white_octet : (octet : ℕ) → Bool
is_white_octet octet = octet == 32 || octet == 9 || octet == 13 || octet == 10

abbrev pub is_digit : (octet : ℕ) → Bool
is_digit octet = nat_le 48 octet && nat_le octet 57

-- a letter, a digit or _
abbrev pub is_word_octet : (octet : ℕ) → Bool
is_word_octet octet =
    (nat_le 97 octet && nat_le octet 122) || (nat_le 65 octet && nat_le octet 90) || is_digit octet
    || octet == 95

-- an octet that may stand in a repository id: 21 to 7e, but not "
abbrev pub is_id_octet : (octet_of_repository_id : ℕ) → Bool
is_id_octet octet = nat_le 33 octet && nat_le octet 126 && not (octet == 34)

-- ---- White space and comments.

-- Whether a comment goes on after an octet, by the octet that follows it. There is no answer if a
-- token begins at the octet. A comment goes on to the end of its line.
abbrev pub gap_step : (in_comment : Bool) (octet next_octet : ℕ) → Option Bool
gap_step true octet after = Some (not (octet == 10))
gap_step false octet after = if octet == 47 && after == 47 then Some true else
    (if is_white_octet octet then Some false else None)

abbrev pub here_or_on : (in_comment_after : Option Bool) (text_here : List ℕ)
    (text_going_on : Bool → List ℕ) → List ℕ
here_or_on None here going_on = here
here_or_on (Some comment) here going_on = going_on comment

-- what follows after white space and comments; the flag tells whether a comment has begun
unfoldable pub after_gap : (in_comment : Bool) (text : List ℕ) → List ℕ
after_gap comment [] = []
after_gap comment (b ∷ bs) = here_or_on (gap_step comment b (slice_index bs 0)) (b ∷ bs)
    (λ more. after_gap more bs)

-- the place of the first token; 0 at the end of the text
abbrev pub octets_left_at_token : (text : List ℕ) → ℕ
octets_left_at_token text = length (after_gap false text)

-- ---- The first token.

-- the longest run of octets of a kind at the front of a text, and what follows it
abbrev pub front_run : (test : ℕ → Bool) (text : List ℕ) → List ℕ
front_run is text = take (prefix_len is text) text

abbrev pub after_run : (test : ℕ → Bool) (text : List ℕ) → List ℕ
after_run is text = drop (prefix_len is text) text

-- one to 20 digits and nothing else, without a leading zero, of a number of at most 2^64 - 1
unfoldable pub is_number : (digits : List ℕ) → Bool
is_number digits = nat_le 1 (length digits) && nat_le (length digits) 20
    && list_all is_digit digits && (length digits == 1 || not (slice_index digits 0 == 48))
    && nat_lt (digits_value 10 digits) (2 ^ 64)

abbrev pub number_of : (digits : List ℕ) → Option ℕ
number_of digits = if is_number digits then Some (digits_value 10 digits) else None

-- the token that a run of word octets is: a number if it begins with a digit, else a word
abbrev pub word_token : (word_or_number_octets : List ℕ) → Option Token
word_token name =
    if is_digit (slice_index name 0) then option_map number (number_of name) else Some (word name)

abbrev pub negative_token : (absolute_value : Option ℕ) → Option Token
negative_token None = None
negative_token (Some size) = if size == 0 then None else Some (negative size)

-- the repository id of these octets, 1 to 128 of them, if a quotation mark follows
abbrev pub repository_token : (id_octets text_after : List ℕ) → Option Token
repository_token id after = if nat_le 1 (length id) && nat_le (length id) 128
    && slice_index after 0 == 34 then Some (repository id) else None

-- a token and what follows it, or the refusal at this place if there is no token
abbrev pub token_or_refusal : (text_from_token : List ℕ) (token : Option Token)
    (text_behind : List ℕ) → Result (Option Token × List ℕ) TokenError
token_or_refusal text None rest = Err (record { kind = kinds.Token; left = length text })
token_or_refusal text (Some t) rest = Ok (Some t, rest)

-- the token that a text begins with, and what follows it; none if the text is empty
unfoldable pub first : (text_without_gap : List ℕ) → Result (Option Token × List ℕ) TokenError
first [] = Ok (None, [])
first (b ∷ bs) =
    if is_word_octet b then token_or_refusal (b ∷ bs)
    (word_token (front_run is_word_octet (b ∷ bs))) (after_run is_word_octet (b ∷ bs))
    else
    (if b == 45 then token_or_refusal (b ∷ bs)
    (negative_token (number_of (front_run is_word_octet bs))) (after_run is_word_octet bs)
    else
    (if b == 34 then token_or_refusal (b ∷ bs)
    (repository_token (front_run is_id_octet bs) (after_run is_id_octet bs))
    (drop 1 (after_run is_id_octet bs)) else
    token_or_refusal (b ∷ bs) (option_map mark (mark_of b)) bs))

-- The first token of a text, after white space and comments, and what follows it; none at the end
-- of the text.
unfoldable pub next : (text_with_gap : List ℕ) → Result (Option Token × List ℕ) TokenError
next text = first (after_gap false text)

-- ---- The text.

-- the text is these tokens, with white space and comments before, between and after them
abbrev pub AreTokens : (text : List ℕ) (tokens : List Token) → Type 0
AreTokens text [] = next text ≡ Ok (None, [])
AreTokens text (t ∷ ts) = (rest : List ℕ) × (next text ≡ Ok (Some t, rest)) × AreTokens rest ts

-- a token of the code, as one of the definitions
abbrev pub token_view : (token : code.Token) → Token
token_view (seen.Word w) = word w.now
token_view (seen.Number n) = number n
token_view (seen.Negative n) = negative n
token_view (seen.Repository r) = repository r.now
token_view (seen.Mark m) = mark m
