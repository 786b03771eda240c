-- Names: the words that are reserved, and how long a name may be (docs/FORMATS.md, Signature file;
-- meaning).
use Rattle.std.specs.Prelude.{ℕ, Bool, ◌&&◌, ◌||◌, List, [], ◌∷◌, length, Result, Ok, Err, nat_lt, if◌then◌else◌, codes}
use Rattle.std.specs.List.{list_any}
use Rattle.std.specs.Str.{bytes_eq}
use Rattle.giop_tokens.specs.declared.fault.TokenError.{TokenError}
use Rattle.giop_tokens.specs.declared.fault.SigFaultKind.TheVariants as kinds
use Rattle.giop_tokens.specs.Tokens.{octets_left_at_token}
use Rattle.giop_tokens.specs.Reading.{◌>>=◌}
use Rattle.giop_tokens.specs.Readers.{misplaced, word_at}

-- the words that are reserved in every file
abbrev pub reserved_words : List (List ℕ)
reserved_words =
    codes "signatures" ∷ codes "enum" ∷ codes "struct" ∷ codes "union" ∷ codes "switch" ∷ codes
    "case" ∷ codes "default"
    ∷ codes "exception" ∷ codes "operation" ∷ codes "void" ∷ codes "in" ∷ codes "out" ∷ codes
    "inout"
    ∷ codes "true" ∷ codes "false" ∷ codes "string" ∷ codes "Object" ∷ codes "sequence"
    ∷ codes "octet" ∷ codes "char" ∷ codes "boolean" ∷ codes "short" ∷ codes "ushort" ∷ codes "long"
    ∷ codes "ulong"
    ∷ codes "longlong" ∷ codes "ulonglong" ∷ codes "float" ∷ codes "double"
    ∷ codes "return" ∷ codes "encapsulation" ∷ []

-- the words that are reserved only in files of version 3
abbrev pub later_reserved_words : List (List ℕ)
later_reserved_words =
    codes "any" ∷ codes "TypeCode" ∷ codes "wchar" ∷ codes "wstring" ∷ codes "fixed"
    ∷ codes "longdouble" ∷ []

-- whether a word is reserved; the flag tells whether the file has version 3
unfoldable pub is_reserved : (is_version_3 : Bool) (word : List ℕ) → Bool
is_reserved third word =
    list_any (bytes_eq word) reserved_words
    || (third && list_any (bytes_eq word) later_reserved_words)

-- the refusal of the first token of a text, because it is too long
abbrev pub too_long : (text_with_long_token_next : List ℕ) → TokenError
too_long text = record { kind = kinds.Limit; left = octets_left_at_token text }

-- a name: a word that isn't reserved, of at most 64 octets
unfoldable pub identifier_at : (is_version_3 : Bool) (text : List ℕ) → Result
    (List ℕ × List ℕ) TokenError
identifier_at third text = do
  w ← word_at text
  if is_reserved third w.0 then Err (misplaced text) else
      (if nat_lt 64 (length w.0) then Err (too_long text) else Ok (w.0, w.1))

-- an operation's name: any word, of at most 128 octets
unfoldable pub operation_name_at : (text : List ℕ) → Result (List ℕ × List ℕ) TokenError
operation_name_at text = do
  w ← word_at text
  if nat_lt 128 (length w.0) then Err (too_long text) else Ok (w.0, w.1)
