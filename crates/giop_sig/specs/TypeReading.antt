-- Reading a type from left to right, and what it adds to the scope (steps).
use Rattle.std.specs.Prelude.{ℕ, zero, suc, ◌-◌, slice_get, Bool, true, false, ◌&&◌, ◌==◌, if◌then◌else◌, nat_lt, List, [], ◌∷◌, ◌++◌, length, Option, Some, None, Result, Ok, Err, codes}
use Rattle.std.specs.Str.{bytes_eq}
use Rattle.giop_tokens.specs.declared.fault.TokenError.{TokenError}
use Rattle.giop_tokens.specs.declared.fault.SigFaultKind.TheVariants as kinds
use Rattle.giop_tokens.specs.declared.marks.Mark.{Mark}
use Rattle.giop_tokens.specs.declared.marks.Mark.TheVariants as marks
use Rattle.giop_tokens.specs.Reading.{◌>>=◌}
use Rattle.giop_tokens.specs.Readers.{misplaced, word_at, number_at, mark_at, mark_if}
use Rattle.giop_tokens.specs.Names.{is_reserved}
use Rattle.giop_sig.specs.declared.numbers.TheConstants.{TYPE_CODE, ANY, WIDE_CHAR, WIDE_STRING}
use Rattle.giop_sig.specs.declared.read_types.Opener.{Opener}
use Rattle.giop_sig.specs.declared.read_types.Opener.TheVariants as openers
use Rattle.giop_sig.specs.Scopes.{has_encapsulations, is_version_3, Scope, AddedType, type_named, add_text_type, add_sequence_type, add_encapsulation_type, reference_number}
use Rattle.giop_sig.specs.Outcomes.{refused}

-- ---- sizes

-- a length or bound
unfoldable pub size_at : (text : List ℕ) → Result (ℕ × List ℕ) TokenError
size_at text = do
  n ← number_at text
  if n.0 == 0 then Err (refused kinds.Empty text)
      else (if nat_lt 4294967295 n.0 then Err (refused kinds.Limit text) else Ok (n.0, n.1))

-- what was found by looking at the next token
abbrev pub size_if_opened : (close_mark : Mark) (text : List ℕ)
    (text_after_open_mark : Option (List ℕ)) → Result (Option ℕ × List ℕ) TokenError
size_if_opened close text None = Ok (None, text)
size_if_opened close text (Some inner) = do
  n ← size_at inner
  r ← mark_at close n.1
  Ok (Some n.0, r)

-- a size between two marks, if the first mark comes next
unfoldable pub enclosed_size_at : (open_mark close_mark : Mark) (text : List ℕ) →
    Result (Option ℕ × List ℕ) TokenError
enclosed_size_at open_mark close text = do
  inner ← mark_if open_mark text
  size_if_opened close text inner

abbrev pub size_if_comma : (text : List ℕ) (text_after_comma : Option (List ℕ)) →
    Result (Option ℕ × List ℕ) TokenError
size_if_comma text None = Ok (None, text)
size_if_comma text (Some inner) = do
  n ← size_at inner
  Ok (Some n.0, n.1)

-- a size after a comma, if a comma comes next
unfoldable pub comma_size_at : (text : List ℕ) → Result (Option ℕ × List ℕ) TokenError
comma_size_at text = do
  inner ← mark_if marks.Comma text
  size_if_comma text inner

-- ---- types

-- what reading a type gives: a scope, the number of the type, and the rest of the text
abbrev pub TypeRead : Type 0
TypeRead = Scope × ℕ × List ℕ

abbrev pub primitive_of_word : (word : List ℕ) → Option ℕ
primitive_of_word word =
    if bytes_eq word (codes "octet") then Some 0 else
    (if bytes_eq word (codes "char") then Some 1 else
    (if bytes_eq word (codes "boolean") then Some 2 else
    (if bytes_eq word (codes "short") then Some 3 else
    (if bytes_eq word (codes "ushort") then Some 4 else
    (if bytes_eq word (codes "long") then Some 5 else
    (if bytes_eq word (codes "ulong") then Some 6 else
    (if bytes_eq word (codes "longlong") then Some 7 else
    (if bytes_eq word (codes "ulonglong") then Some 8 else
    (if bytes_eq word (codes "float") then Some 9 else
    (if bytes_eq word (codes "double") then Some 10 else None))))))))))

-- what reading a type gives that was added
abbrev pub read_as : (added_type : AddedType) (rest : List ℕ) → TypeRead
read_as p rest = (p.0, p.1, rest)

-- a string, after its word
unfoldable pub text_at : (scope : Scope) (text_after_string_word : List ℕ) →
    Result TypeRead TokenError
text_at s rest = do
  b ← enclosed_size_at marks.OpenAngle marks.CloseAngle rest
  Ok (read_as (add_text_type s b.0) b.1)

-- a wide string, after its word
unfoldable pub wide_text_at : (scope : Scope) (text_after_string_word : List ℕ) →
    Result TypeRead TokenError
wide_text_at s rest = do
  b ← enclosed_size_at marks.OpenAngle marks.CloseAngle rest
  Ok (s, WIDE_STRING, b.1)

-- what comes after the element type of a sequence: perhaps a bound, and the closing mark
abbrev pub sequence_end : (element_read : TypeRead) → Result TypeRead TokenError
sequence_end e = do
  b ← comma_size_at e.2
  r ← mark_at marks.CloseAngle b.1
  Ok (read_as (add_sequence_type b.0 (e.0, e.1)) r)

-- what comes after the type in an encapsulation: the closing mark
abbrev pub encapsulation_end : (content_read : TypeRead) → Result TypeRead TokenError
encapsulation_end h = do
  r ← mark_at marks.CloseAngle h.2
  Ok (read_as (add_encapsulation_type (h.0, h.1)) r)

-- what closes a type with another one in it, after that one
unfoldable pub opener_closed : (opener : Opener) (inner_read : TypeRead) →
    Result TypeRead TokenError
opener_closed openers.Sequence t = sequence_end t
opener_closed openers.Encapsulation t = encapsulation_end t

abbrev pub type_if_found : (scope : Scope) (text_from_word rest_after_word : List ℕ)
    (type_number : Option ℕ) → Result TypeRead TokenError
type_if_found s text rest None = Err (refused kinds.UnknownType text)
type_if_found s text rest (Some number) = Ok (s, number, rest)

-- the type of a name, which is the first word of the text, perhaps as that of a sequence's elements
unfoldable pub named_type : (is_sequence_element : Bool) (scope : Scope)
    (text_from_word word rest_after_word : List ℕ) → Result TypeRead TokenError
named_type element s text word rest =
    if is_reserved (is_version_3 s.names) word then Err (misplaced text) else
    (if nat_lt 64 (length word) then Err (refused kinds.Limit text)
    else type_if_found s text rest (type_named element s.names word))

-- whether a word is this one, which is a type in version 3
abbrev pub is_version_3_word : (scope : Scope) (word version_3_word : List ℕ) → Bool
is_version_3_word s word later = is_version_3 s.names && bytes_eq word later

abbrev pub leaf_after : (is_sequence_element : Bool) (scope : Scope)
    (text_from_word word rest_after_word : List ℕ) (primitive_type : Option ℕ) →
    Result TypeRead TokenError
leaf_after element s text word rest (Some base) = Ok (s, base, rest)
leaf_after element s text word rest None =
    if bytes_eq word (codes "string") then text_at s rest else
    (if bytes_eq word (codes "Object") then Ok (s, reference_number s.names, rest) else
    (if is_version_3_word s word (codes "any") then Ok (s, ANY, rest) else
    (if is_version_3_word s word (codes "TypeCode") then Ok (s, TYPE_CODE, rest) else
    (if is_version_3_word s word (codes "wchar") then Ok (s, WIDE_CHAR, rest) else
    (if is_version_3_word s word (codes "wstring") then wide_text_at s rest
    else named_type element s text word rest)))))

-- a type without another one in angle brackets, perhaps that of a sequence's elements
unfoldable pub leaf_at : (is_sequence_element : Bool) (scope : Scope) (text : List ℕ)
    → Result TypeRead TokenError
leaf_at element s text = do
  w ← word_at text
  leaf_after element s text w.0 w.1 (primitive_of_word w.0)

-- a word that begins a type with another one in it, and the rest after its opening mark
abbrev pub Opened : Type 0
Opened = Opener × List ℕ

abbrev pub opened_by : (opener : Opener) (rest_after_word : List ℕ) →
    Result (Option Opened) TokenError
opened_by o rest = do
  inner ← mark_at marks.OpenAngle rest
  Ok (Some (o, inner))

-- the first word of a text, if it begins a type with another one in it; an encapsulation is a type
-- since version 2
abbrev pub opener_after : (scope : Scope) (text_from_word word rest_after_word : List ℕ) → Result
    (Option Opened) TokenError
opener_after s text word rest =
    if bytes_eq word (codes "sequence") then opened_by openers.Sequence rest else
    (if bytes_eq word (codes "encapsulation")
    then (if has_encapsulations s.names then opened_by openers.Encapsulation rest
    else Err (misplaced text)) else Ok None)

-- a word that begins a type with another one in it, if one comes first
unfoldable pub opener_at : (scope : Scope) (text : List ℕ) → Result (Option Opened) TokenError
opener_at s text = do
  w ← word_at text
  opener_after s text w.0 w.1

-- whether a word begins a sequence, so that an element type comes next
abbrev pub opens_element : (opener : Opener) → Bool
opens_element openers.Sequence = true
opens_element openers.Encapsulation = false

abbrev pub type_after : (read_inner : Bool → List ℕ → Result TypeRead TokenError)
    (is_sequence_element : Bool) (scope : Scope) (text : List ℕ) (opened : Option Opened) →
    Result TypeRead TokenError
type_after inner element s text None = leaf_at element s text
type_after inner element s text (Some o) = inner (opens_element o.0) o.1 >>= opener_closed o.0

-- a type with fewer than n words that begin types with others in them, perhaps that of a sequence's
-- elements
unfoldable pub type_nested_at : (fewer_openers_than : ℕ) (is_sequence_element : Bool)
    (scope : Scope) (text : List ℕ) → Result TypeRead TokenError
type_nested_at zero element s text = Err (misplaced text)
type_nested_at (suc left) element s text = do
  o ← opener_at s text
  type_after (λ inner. type_nested_at left inner s) element s text o

-- a type; there are fewer words than octets in the text
abbrev pub type_at : (scope : Scope) (text : List ℕ) → Result TypeRead TokenError
type_at s text = type_nested_at (length text) false s text

-- ---- a type as the code reads it: all openers, a leaf, and what closes them

-- the openers that were read, the outermost first, and the rest of the text
abbrev pub Openers : Type 0
Openers = List Opener × List ℕ

abbrev pub opener_or_leaf : (openers_before : Openers) (opened : Option Opened) → Bool × Openers
opener_or_leaf os None = (true, os)
opener_or_leaf os (Some o) = (false, (os.0 ++ o.0 ∷ [], o.1))

-- one more opener, if one comes
unfoldable pub openers_step : (scope : Scope) (openers : Openers) →
    Result (Bool × Openers) TokenError
openers_step s os = do
  o ← opener_at s os.1
  Ok (opener_or_leaf os o)

abbrev pub too_many_openers : (openers : Openers) → TokenError
too_many_openers os = misplaced os.1

abbrev pub opens_elements : (innermost_opener : Option Opener) → Bool
opens_elements None = false
opens_elements (Some o) = opens_element o

-- whether the type after these openers is that of a sequence's elements
abbrev pub element_after : (openers_outermost_first : List Opener) → Bool
element_after openers = opens_elements (slice_get openers (length openers - 1))

-- what closes these openers, the outermost first, around a type
unfoldable pub all_openers_closed : (openers_outermost_first : List Opener) (inner_read : TypeRead)
    → Result TypeRead TokenError
all_openers_closed [] t = Ok t
all_openers_closed (o ∷ os) t = all_openers_closed os t >>= opener_closed o
