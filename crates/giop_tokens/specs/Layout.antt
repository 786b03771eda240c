-- How tokens are written: each as itself, with white space and comments before, between and after
-- them (docs/FORMATS.md, Signature file; meaning).
use Rattle.std.specs.Prelude.{◌≡◌, ℕ, ◌^◌, ◌<◌, ◌≤◌, ◌≢◌, Bool, true, false, ◌⊎◌, List, [], ◌∷◌, ◌++◌, length, map, decimal, slice_index, ⊤}
use Rattle.std.specs.List.{AllByRecursion}
use Rattle.giop_tokens.specs.Marks.{octet_of}
use Rattle.giop_tokens.specs.Tokens.{Token, word, number, negative, repository, mark, is_white_octet, is_digit, is_word_octet, is_id_octet}

-- ---- A token.

-- a word doesn't begin with a digit
pub record IsWord (word_octets : List ℕ) : Type 0 where
  pub some : 0 < length word_octets
  pub octets : AllByRecursion (λ b. is_word_octet b ≡ true) word_octets
  pub begins : is_digit (slice_index word_octets 0) ≡ false

pub record IsId (repository_id : List ℕ) : Type 0 where
  pub some : 0 < length repository_id
  pub few : length repository_id ≤ 128
  pub octets : AllByRecursion (λ b. is_id_octet b ≡ true) repository_id

abbrev pub IsToken : (token : Token) → Type 0
IsToken (word w) = IsWord w
IsToken (number n) = n < 2 ^ 64
IsToken (negative n) = (0 < n) × (n < 2 ^ 64)
IsToken (repository r) = IsId r
IsToken (mark m) = ⊤

-- the octets of a token; a number is written as its decimal digits
abbrev pub token_octets : (token : Token) → List ℕ
token_octets (word w) = w
token_octets (number n) = decimal n
token_octets (negative n) = 45 ∷ decimal n
token_octets (repository r) = 34 ∷ (r ++ 34 ∷ [])
token_octets (mark m) = octet_of m ∷ []

-- whether a token ends in a run of word octets
abbrev pub ends_in_word_octet : (token : Token) → Bool
ends_in_word_octet (word w) = true
ends_in_word_octet (number n) = true
ends_in_word_octet (negative n) = true
ends_in_word_octet (repository r) = false
ends_in_word_octet (mark m) = false

-- ---- Between tokens.

pub data Space : Type 0 where
  white : ℕ → Space
  comment : List ℕ → Space

-- octets of one line: none of them is a line feed
abbrev pub HasNoLineFeed : (octets : List ℕ) → Type 0
HasNoLineFeed octets = AllByRecursion (λ b. b ≢ 10) octets

abbrev pub IsSpace : (space : Space) → Type 0
IsSpace (white b) = is_white_octet b ≡ true
IsSpace (comment c) = HasNoLineFeed c

-- the octets of white space or a comment; a comment goes on to the end of its line
abbrev pub space_octets : (space : Space) → List ℕ
space_octets (white b) = b ∷ []
space_octets (comment c) = 47 ∷ 47 ∷ (c ++ 10 ∷ [])

abbrev pub octets_of_spaces : (spaces : List Space) → List ℕ
octets_of_spaces [] = []
octets_of_spaces (s ∷ ss) = space_octets s ++ octets_of_spaces ss

-- the last comment of a text may be without the end of its line
abbrev pub IsUnendedComment : (comment_or_empty : List ℕ) → Type 0
IsUnendedComment tail = (tail ≡ []) ⊎ ((c : List ℕ) × HasNoLineFeed c × (tail ≡ 47 ∷ 47 ∷ c))

-- ---- A text.

-- a token, and the white space and comments between it and the next one
pub record LaidToken : Type 0 where
  pub token : Token
  pub after : List Space

abbrev pub laid_octets : (laid_tokens : List LaidToken) (text_tail : List ℕ) → List ℕ
laid_octets [] tail = tail
laid_octets (l ∷ ls) tail = token_octets l.token
    ++ (octets_of_spaces l.after ++ laid_octets ls tail)

-- No word octet follows a word or a number. So there is something between two of them; other tokens
-- may touch.
abbrev pub AreLaidTokens : (laid_tokens : List LaidToken) (text_tail : List ℕ) → Type 0
AreLaidTokens [] tail = IsUnendedComment tail
AreLaidTokens (l ∷ ls) tail = IsToken l.token × AllByRecursion IsSpace l.after
    × (ends_in_word_octet l.token ≡ true → is_word_octet
    (slice_index (octets_of_spaces l.after ++ laid_octets ls tail) 0) ≡ false)
    × AreLaidTokens ls tail

-- this token is the first one of the text, after white space and comments, and this text follows it
pub record IsFirstToken (text : List ℕ) (first_token : Token) (rest : List ℕ) : Type 0 where
  pub front : List Space
  pub fronts : AllByRecursion IsSpace front
  pub token : IsToken first_token
  pub apart : ends_in_word_octet first_token ≡ true → is_word_octet (slice_index rest 0) ≡ false
  pub octets : text ≡ octets_of_spaces front ++ (token_octets first_token ++ rest)

-- the text is these tokens, written as they may be written
pub record IsLayout (text : List ℕ) (text_tokens : List Token) : Type 0 where
  pub front : List Space
  pub laid : List LaidToken
  pub tail : List ℕ
  pub fronts : AllByRecursion IsSpace front
  pub each : AreLaidTokens laid tail
  pub tokens : map (λ l. l.token) laid ≡ text_tokens
  pub octets : text ≡ octets_of_spaces front ++ laid_octets laid tail
