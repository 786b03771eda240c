-- Readers of one token: its value, and what follows it (meaning). Each refuses with Token if there
-- is no token, and with Syntax, at the token, if that is another one or the text ends
-- (docs/FORMATS.md, Signature file).
use Rattle.std.specs.Prelude.{ℕ, Bool, true, false, List, Option, Some, None, Result, Ok, Err, ◌==◌, if◌then◌else◌, option_and_then}
use Rattle.std.specs.Str.{bytes_eq}
use Rattle.giop_tokens.specs.declared.fault.TokenError.{TokenError}
use Rattle.giop_tokens.specs.declared.fault.SigFaultKind.TheVariants as kinds
use Rattle.giop_tokens.specs.declared.marks.Mark.{Mark}
use Rattle.giop_tokens.specs.Marks.{octet_of}
use Rattle.giop_tokens.specs.Tokens.{Token, word, number, negative, repository, mark, octets_left_at_token, next}
use Rattle.giop_tokens.specs.Reading.{◌>>=◌}

-- the refusal of the first token of a text that can't stand there, or of the end of the text
abbrev pub misplaced : (text_with_wrong_token_next : List ℕ) → TokenError
misplaced text = record { kind = kinds.Syntax; left = octets_left_at_token text }

-- the refusal if a text goes on with something that is no token
abbrev pub no_token : (text_with_no_token_next : List ℕ) → TokenError
no_token text = record { kind = kinds.Token; left = octets_left_at_token text }

-- ---- The value of a token.

abbrev pub as_word : (token : Token) → Option (List ℕ)
as_word (word w) = Some w
as_word (number n) = None
as_word (negative n) = None
as_word (repository r) = None
as_word (mark m) = None

abbrev pub as_number : (token : Token) → Option ℕ
as_number (number n) = Some n
as_number (word w) = None
as_number (negative n) = None
as_number (repository r) = None
as_number (mark m) = None

abbrev pub as_repository : (token : Token) → Option (List ℕ)
as_repository (repository r) = Some r
as_repository (word w) = None
as_repository (number n) = None
as_repository (negative n) = None
as_repository (mark m) = None

abbrev pub is_the_mark : (wanted : Mark) (token : Token) → Bool
is_the_mark m (mark n) = octet_of n == octet_of m
is_the_mark m (word w) = false
is_the_mark m (number n) = false
is_the_mark m (negative n) = false
is_the_mark m (repository r) = false

abbrev pub is_the_word : (wanted_word : List ℕ) (token : Token) → Bool
is_the_word name (word v) = bytes_eq v name
is_the_word name (number n) = false
is_the_word name (negative n) = false
is_the_word name (repository r) = false
is_the_word name (mark m) = false

-- ---- The next token.

abbrev pub found_or : {X : Type 0} (refusal : TokenError) (found : Option X)
    (text_behind : List ℕ) → Result (X × List ℕ) TokenError
found_or refusal None rest = Err refusal
found_or refusal (Some x) rest = Ok (x, rest)

abbrev pub token_passes : (test : Token → Bool) (token : Option Token) → Bool
token_passes is None = false
token_passes is (Some t) = is t

-- the value of the next token, and what follows it
unfoldable pub next_as : {X : Type 0} (value_of_token : Token → Option X) (text : List ℕ) →
    Result (X × List ℕ) TokenError
next_as tells text = do
  t ← next text
  found_or (misplaced text) (option_and_then tells t.0) t.1

-- what follows the next token, which must pass the test
unfoldable pub next_is : (test : Token → Bool) (text : List ℕ) → Result (List ℕ) TokenError
next_is is text = do
  t ← next text
  if token_passes is t.0 then Ok t.1 else Err (misplaced text)

-- what follows the next token, if that passes the test; nothing if it is another token, or the text
-- ends
unfoldable pub next_if : (test : Token → Bool) (text : List ℕ) → Result (Option (List ℕ)) TokenError
next_if is text = do
  t ← next text
  Ok (if token_passes is t.0 then Some t.1 else None)

-- ---- The readers.

-- any word that doesn't begin with a digit
abbrev pub word_at : (text : List ℕ) → Result (List ℕ × List ℕ) TokenError
word_at text = next_as as_word text

abbrev pub number_at : (text : List ℕ) → Result (ℕ × List ℕ) TokenError
number_at text = next_as as_number text

abbrev pub repository_at : (text : List ℕ) → Result (List ℕ × List ℕ) TokenError
repository_at text = next_as as_repository text

abbrev pub mark_at : (wanted_mark : Mark) (text : List ℕ) → Result (List ℕ) TokenError
mark_at m text = next_is (is_the_mark m) text

abbrev pub keyword_at : (wanted_word text : List ℕ) → Result (List ℕ) TokenError
keyword_at name text = next_is (is_the_word name) text

abbrev pub mark_if : (wanted_mark : Mark) (text : List ℕ) → Result (Option (List ℕ)) TokenError
mark_if m text = next_if (is_the_mark m) text

abbrev pub keyword_if : (wanted_word text : List ℕ) → Result (Option (List ℕ)) TokenError
keyword_if name text = next_if (is_the_word name) text

abbrev pub is_end : (token : Option Token) → Bool
is_end None = true
is_end (Some t) = false

-- whether the text ends: only white space and comments are left
unfoldable pub end_at : (text : List ℕ) → Result Bool TokenError
end_at text = do
  t ← next text
  Ok (is_end t.0)
