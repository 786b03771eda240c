-- Reading items, structs and exceptions from left to right (steps).
use Rattle.std.specs.Prelude.{ℕ, zero, suc, Bool, true, false, if◌then◌else◌, nat_le, List, [], ◌∷◌, ◌++◌, length, Option, Some, None, Result, Ok, Err, option_and_then}
use Rattle.std.specs.Option.{is_some}
use Rattle.giop_tokens.specs.declared.fault.TokenError.{TokenError}
use Rattle.giop_tokens.specs.declared.fault.SigFaultKind.TheVariants as kinds
use Rattle.giop_tokens.specs.declared.marks.Mark.TheVariants as marks
use Rattle.giop_tokens.specs.Tokens.{octets_left_at_token, next}
use Rattle.giop_tokens.specs.Reading.{◌>>=◌}
use Rattle.giop_tokens.specs.Readers.{as_repository, mark_at, mark_if, repository_at}
use Rattle.giop_tokens.specs.Names.{identifier_at}
use Rattle.giop_sig.specs.Table.{Node, Part, exception_in, identified_in}
use Rattle.giop_sig.specs.Table as nodes
use Rattle.giop_sig.specs.Trees.{depth_of}
use Rattle.giop_sig.specs.declared.announced.TypeWord.{TypeWord}
use Rattle.giop_sig.specs.declared.announced.TypeWord.TheVariants as type_words
use Rattle.giop_sig.specs.Scopes.{is_version_3, Scope, AddedType, add_announced_type, add_arrays, announced_as, part, with_announced, with_node, with_named, with_raised}
use Rattle.giop_sig.specs.Validity.{is_among, is_name_taken}
use Rattle.giop_sig.specs.Outcomes.{refused}
use Rattle.giop_sig.specs.TypeReading.{enclosed_size_at, type_at}
use Rattle.giop_sig.specs.Repeats.{in_steps}

-- ---- names

-- a name that isn't in `seen`, which may have `most` names
unfoldable pub new_name_at : (version_3 : Bool) (most_names : ℕ) (seen_names : List (List ℕ))
    (text : List ℕ) → Result (List ℕ × List ℕ) TokenError
new_name_at third most seen text = do
  n ← identifier_at third text
  if is_among seen n.0 then Err (refused kinds.Duplicate text)
      else (if nat_le most (length seen) then Err (refused kinds.Limit text) else Ok (n.0, n.1))

-- the new name of an enum, struct, union or exception; the scope has `count` of these, and `word`
-- is the first word of a struct or union
unfoldable pub declared_name_at : (scope : Scope) (struct_or_union : Option TypeWord)
    (declared_count : ℕ) (text : List ℕ) → Result (List ℕ × List ℕ) TokenError
declared_name_at s word count text = do
  n ← identifier_at (is_version_3 s.names) text
  if is_name_taken s.names word n.0 then Err (refused kinds.Duplicate text)
      else (if nat_le 4096 count then Err (refused kinds.Limit text) else Ok (n.0, n.1))

-- ---- items

abbrev pub ItemRead : Type 0
ItemRead = Scope × Part × List ℕ

-- the lengths of arrays, the outermost first, and the rest of the text
abbrev pub LengthsRead : Type 0
LengthsRead = List ℕ × List ℕ

abbrev pub with_outer_length : (outer_length : ℕ) (inner_lengths : LengthsRead) → LengthsRead
with_outer_length size ls = (size ∷ ls.0, ls.1)

-- a length, if there is one, and the others
abbrev pub lengths_after : (other_lengths_at : List ℕ → Result LengthsRead TokenError)
    (first_length_and_rest : Option ℕ × List ℕ) → Result LengthsRead TokenError
lengths_after others (None, rest) = Ok ([], rest)
lengths_after others (Some n, rest) = do
  ls ← others rest
  Ok (with_outer_length n ls)

-- the lengths that come next, at most `most`
unfoldable pub lengths_at : (most_array_lengths : ℕ) (text : List ℕ) → Result LengthsRead TokenError
lengths_at zero text = Ok ([], text)
lengths_at (suc most) text = do
  l ← enclosed_size_at marks.OpenBracket marks.CloseBracket text
  lengths_after (lengths_at most) l

-- How many lengths an item may have: in a file of version 3 any number, which is less than the
-- octets of the text; in an older one a single length.
abbrev pub most_lengths : (version_3 : Bool) (text : List ℕ) → ℕ
most_lengths third text = if third then length text else 1

-- an item with a type that was read and this name
abbrev pub item_read : (scope_and_type : AddedType) (item_name rest : List ℕ) → ItemRead
item_read p name rest = (p.0, part name p.1, rest)

unfoldable pub item_at : (most_names : ℕ) (seen_names : List (List ℕ)) (scope : Scope)
    (text : List ℕ) → Result ItemRead TokenError
item_at most seen s text = do
  t ← type_at s text
  n ← new_name_at (is_version_3 s.names) most seen t.2
  l ← lengths_at (most_lengths (is_version_3 s.names) n.1) n.1
  Ok (item_read (add_arrays l.0 (t.0, t.1)) n.0 l.1)

-- ---- members

-- the names of the members that were read, the members, and the rest of the text
abbrev pub MembersSoFar : Type 0
MembersSoFar = Scope × List (List ℕ) × List Part × List ℕ

unfoldable pub member_at : (members_so_far : MembersSoFar) → Result (Bool × MembersSoFar) TokenError
member_at m = do
  i ← item_at 256 m.1 m.0 m.3
  r ← mark_at marks.Semicolon i.2
  Ok (false, (i.0, m.1 ++ (i.1).name ∷ [], m.2 ++ i.1 ∷ [], r))

abbrev pub member_after : (members_so_far : MembersSoFar) (rest_after_brace : Option (List ℕ)) →
    Result (Bool × MembersSoFar) TokenError
member_after m (Some rest) = Ok (true, (m.0, m.1, m.2, rest))
member_after m None = member_at m

-- the closing mark, or one more member
unfoldable pub member_step : (members_so_far : MembersSoFar) →
    Result (Bool × MembersSoFar) TokenError
member_step m = do
  c ← mark_if marks.CloseBrace m.3
  member_after m c

abbrev pub too_many_members : (members : MembersSoFar) → TokenError
too_many_members m = refused kinds.Limit m.3

abbrev pub MembersRead : Type 0
MembersRead = Scope × List Part × List ℕ

abbrev pub members_read : (members_so_far : MembersSoFar) → Result MembersRead TokenError
members_read m = Ok (m.0, m.2, m.3)

-- members up to the closing mark, in at most `count` steps
abbrev pub members_run : (most_steps : ℕ) (members_so_far : MembersSoFar) →
    Result MembersRead TokenError
members_run count m = in_steps member_step too_many_members count m >>= members_read

abbrev pub members_at : (scope : Scope) (text_after_brace : List ℕ) → Result MembersRead TokenError
members_at s text = members_run 257 (s, [], [], text)

abbrev pub unless_closed : (text : List ℕ) (rest_after_brace : Option (List ℕ)) →
    Result (List ℕ) TokenError
unless_closed text None = Ok text
unless_closed text (Some rest) = Err (refused kinds.Empty text)

-- a list that doesn't end at once
unfoldable pub non_empty_list_at : (text_after_brace : List ℕ) → Result (List ℕ) TokenError
non_empty_list_at text = do
  c ← mark_if marks.CloseBrace text
  unless_closed text c

-- ---- the repository id of a type

-- the repository id of a type, if it has one, and the rest of the text
abbrev pub IdentityRead : Type 0
IdentityRead = Option (List ℕ) × List ℕ

-- a new repository id, which is the first token of the text; nothing if that is another token
abbrev pub identity_after : (scope : Scope) (text_from_token : List ℕ)
    (repository_id : Option (List ℕ)) (rest_after_token : List ℕ) → Result IdentityRead TokenError
identity_after s text None rest = Ok (None, text)
identity_after s text (Some id) rest =
    if is_some (identified_in s.table id) then Err (refused kinds.Duplicate text)
    else Ok (Some id, rest)

abbrev pub identity_by : (scope : Scope) (text : List ℕ) → Result IdentityRead TokenError
identity_by s text = do
  t ← next text
  identity_after s text (option_and_then as_repository t.0) t.1

-- the repository id of a type, if one comes; it may come in a file of version 3 only
unfoldable pub identity_at : (scope : Scope) (text : List ℕ) → Result IdentityRead TokenError
identity_at s text = if is_version_3 s.names then identity_by s text else Ok (None, text)

-- ---- the end of a declaration

-- the scope after a declaration, and the rest of the text
abbrev pub DeclarationRead : Type 0
DeclarationRead = Scope × List ℕ

-- a type is too deep in the declaration from whose name on this many octets are left
abbrev pub too_deep : (octets_left_from_name : ℕ) → TokenError
too_deep at = record { kind = kinds.Depth; left = at }

-- the end of a declaration from whose name on this many octets are left, with the scope that it
-- makes: a semicolon, and no type is too deep
unfoldable pub declaration_end_at : (octets_left_from_name : ℕ) (scope : Scope) (text : List ℕ) →
    Result DeclarationRead TokenError
declaration_end_at at s text = do
  r ← mark_at marks.Semicolon text
  if nat_le (depth_of s.table.types) 24 then Ok (s, r) else Err (too_deep at)

-- the end of an enum, struct or union, whose type has this node, and a repository id if it has one
abbrev pub type_end_at : (octets_left_from_name : ℕ) (name : List ℕ)
    (repository_id : Option (List ℕ)) (scope : Scope) (node : Node) (text : List ℕ) →
    Result DeclarationRead TokenError
type_end_at at name id s node text = declaration_end_at at
    (with_named name id (with_node s node)) text

-- ---- announcements

abbrev pub announces_by : (text_after_name : List ℕ) → Result Bool TokenError
announces_by text = do
  rest ← mark_if marks.Semicolon text
  Ok (is_some rest)

-- whether a declaration ends after its name, and so announces it; it may do so in a file of version
-- 3 only
unfoldable pub announces_at : (scope : Scope) (text_after_name : List ℕ) → Result Bool TokenError
announces_at s text = if is_version_3 s.names then announces_by text else Ok false

-- the end of an announcement, whose name is at the front of `text` and must not be announced yet
unfoldable pub announcement_at : (scope : Scope) (struct_or_union : TypeWord)
    (text_from_name name rest_after_name : List ℕ) → Result DeclarationRead TokenError
announcement_at s word text name rest =
    if is_some (announced_as s.names name) then Err (refused kinds.Duplicate text)
    else declaration_end_at (octets_left_at_token text)
    (with_announced word name (add_announced_type s)) rest

-- ---- declarations of members, each after its first word

-- a struct, after its name, which is at the front of `text`
unfoldable pub structure_after : (scope : Scope) (text_from_name name rest_after_name : List ℕ) →
    Result DeclarationRead TokenError
structure_after s text name rest = do
  i ← identity_at s rest
  o ← mark_at marks.OpenBrace i.1
  f ← non_empty_list_at o
  m ← members_at s f
  type_end_at (octets_left_at_token text) name i.0 m.0 (nodes.members m.1) m.2

-- a struct, or its announcement
unfoldable pub structure_at : (scope : Scope) (text_after_keyword : List ℕ) →
    Result DeclarationRead TokenError
structure_at s text = do
  n ← declared_name_at s (Some type_words.Struct) s.table.declared text
  a ← announces_at s n.1
  if a then announcement_at s type_words.Struct text n.0 n.1
      else structure_after s text n.0 n.1

-- a new repository id of an exception
unfoldable pub new_repository_at : (scope : Scope) (text : List ℕ) → Result
    (List ℕ × List ℕ) TokenError
new_repository_at s text = do
  i ← repository_at text
  if is_some (exception_in s.table i.0) then Err (refused kinds.Duplicate text) else Ok (i.0, i.1)

unfoldable pub exception_at : (scope : Scope) (text_after_keyword : List ℕ) →
    Result DeclarationRead TokenError
exception_at s text = do
  n ← declared_name_at s None (length s.table.exceptions) text
  i ← new_repository_at s n.1
  o ← mark_at marks.OpenBrace i.1
  m ← members_at s o
  declaration_end_at (octets_left_at_token text)
      (with_raised n.0 i.0 (with_node m.0 (nodes.members m.1))) m.2
