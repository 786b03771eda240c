-- Reading a signature file from left to right (steps), and which of its refusals is the first
-- (meaning).
use Rattle.std.specs.Prelude.{◌≡◌, ◌⊎◌, ℕ, ◌&&◌, nat_lt, Bool, true, false, if◌then◌else◌, List, [], ◌∷◌, ◌++◌, length, slice_index_or, Option, None, Some, Result, Ok, Err, codes}
use Rattle.std.specs.Str.{bytes_eq}
use Rattle.giop_tokens.specs.declared.fault.TokenError.{TokenError}
use Rattle.giop_tokens.specs.declared.fault.SigFault.{SigFault}
use Rattle.giop_tokens.specs.declared.fault.SigFaultKind.TheVariants as kinds
use Rattle.giop_tokens.specs.declared.marks.Mark.TheVariants as marks
use Rattle.giop_tokens.specs.Reading.{◌>>=◌}
use Rattle.giop_tokens.specs.Faults.{no_memory}
use Rattle.giop_tokens.specs.Lines.{fault_of}
use Rattle.giop_tokens.specs.Readers.{misplaced, word_at, number_at, mark_at, keyword_at, end_at}
use Rattle.giop_sig.specs.Grammar.{is_version}
use Rattle.giop_tokens.specs.Tokens.{octets_left_at_token}
use Rattle.giop_sig.specs.Scopes.{is_version_3, Scope, first_scope, settled}
use Rattle.giop_sig.specs.Validity.{first_undeclared}
use Rattle.giop_sig.specs.ItemReading.{DeclarationRead, structure_at, exception_at}
use Rattle.giop_sig.specs.CallReading.{operation_at, key_at}
use Rattle.giop_sig.specs.EnumReading.{enumeration_at}
use Rattle.giop_sig.specs.UnionReading.{union_at}
use Rattle.giop_sig.specs.Repeats.{in_steps}

abbrev pub declaration_after : (scope : Scope) (text_from_word word rest_after_word : List ℕ) →
    Result DeclarationRead TokenError
declaration_after s text word rest =
    if bytes_eq word (codes "enum") then enumeration_at s rest else
    (if bytes_eq word (codes "struct") then structure_at s rest else
    (if bytes_eq word (codes "union") then union_at s rest else
    (if bytes_eq word (codes "exception") then exception_at s rest else
    (if bytes_eq word (codes "operation") then operation_at s rest else
    (if is_version_3 s.names && bytes_eq word (codes "key") then key_at s rest
    else Err (misplaced text))))))

unfoldable pub declaration_at : (scope : Scope) (text : List ℕ) → Result DeclarationRead TokenError
declaration_at s text = do
  w ← word_at text
  declaration_after s text w.0 w.1

-- the scope after declarations, how many octets are left from each announced name on, and the rest
-- of the text
abbrev pub DeclarationsRead : Type 0
DeclarationsRead = Scope × List ℕ × List ℕ

-- how many names are announced
abbrev pub announcement_count : (scope : Scope) → ℕ
announcement_count s = length s.names.announced

-- What is left from each announced name on, after the declaration that a text begins with: it
-- announced its name if more names are announced after it than before it.
unfoldable pub with_announced_left : (announced_before announced_after : ℕ)
    (octets_left_from_names text_from_declaration : List ℕ) → Result (List ℕ) TokenError
with_announced_left before after lefts text = do
  w ← word_at text
  Ok (if nat_lt before after then lefts ++ octets_left_at_token w.1 ∷ [] else lefts)

abbrev pub declaration_or_end : (declarations_so_far : DeclarationsRead) (text_is_over : Bool) →
    Result (Bool × DeclarationsRead) TokenError
declaration_or_end d true = Ok (true, d)
declaration_or_end d false = do
  next ← declaration_at d.0 d.2
  lefts ← with_announced_left (announcement_count d.0) (announcement_count next.0) d.1 d.2
  Ok (false, (next.0, lefts, next.1))

-- the end of the text, or one more declaration
unfoldable pub declarations_step : (declarations_so_far : DeclarationsRead) →
    Result (Bool × DeclarationsRead) TokenError
declarations_step d = do
  over ← end_at d.2
  declaration_or_end d over

abbrev pub misplaced_after : (declarations : DeclarationsRead) → TokenError
misplaced_after d = misplaced d.2

-- a refusal for a name that isn't declared, where it is announced
abbrev pub undeclared_refusal : (octets_left_from_names : List ℕ) (announcement_index : ℕ) →
    TokenError
undeclared_refusal lefts index = record {
  kind = kinds.UnknownType;
  left = slice_index_or lefts
      index 0;
}

abbrev pub resolved_unless_undeclared : (scope : Scope) (octets_left_from_names : List ℕ)
    (first_undeclared_index : Option ℕ) → Result Scope TokenError
resolved_unless_undeclared s lefts None = Ok (settled s)
resolved_unless_undeclared s lefts (Some index) = Err (undeclared_refusal lefts index)

-- the end of the text: each name that is announced is declared
unfoldable pub resolved_if_declared : (scope : Scope) (octets_left_from_names : List ℕ) →
    Result Scope TokenError
resolved_if_declared s lefts = resolved_unless_undeclared s lefts (first_undeclared s.names)

-- the version of the format, which is at most `latest`
unfoldable pub version_at : (latest_version : ℕ) (text : List ℕ) → Result (ℕ × List ℕ) TokenError
version_at latest text = do
  n ← number_at text
  if is_version latest n.0 then Ok (n.0, n.1) else Err (misplaced text)

-- what comes before the declarations
unfoldable pub version_line_at : (latest_version : ℕ) (text : List ℕ) →
    Result (ℕ × List ℕ) TokenError
version_line_at latest text = do
  k ← keyword_at (codes "signatures") text
  v ← version_at latest k
  r ← mark_at marks.Semicolon v.1
  Ok (v.0, r)

-- what a file declares whose version is at most `latest`
unfoldable pub file_at : (latest_version : ℕ) (text : List ℕ) → Result Scope TokenError
file_at latest text = do
  h ← version_line_at latest text
  d ← in_steps declarations_step misplaced_after (length text) (first_scope h.0, [], h.1)
  resolved_if_declared d.0 d.1

-- the refusal of a text that is too long
abbrev pub text_too_long : SigFault
text_too_long = record { line = 1; kind = kinds.Limit }

-- the refusal at the first wrong token of a file whose version is at most `latest`, and its line;
-- memory may be refused at any time
abbrev pub IsFirstRefusalUpTo : (latest_version : ℕ) (text : List ℕ) (fault : SigFault) → Type 0
IsFirstRefusalUpTo latest text f =
    (f ≡ no_memory) ⊎ ((r : TokenError) × (file_at latest text ≡ Err r) × (f ≡ fault_of text r))

-- the same for a file of version 1 or 2
abbrev pub IsFirstRefusal : (text : List ℕ) (fault : SigFault) → Type 0
IsFirstRefusal text f = IsFirstRefusalUpTo 2 text f
