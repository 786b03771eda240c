-- Reading an enum from left to right, and what it adds to the scope (steps).
use Rattle.std.specs.Prelude.{ℕ, Bool, true, false, List, [], ◌∷◌, ◌++◌, Option, Some, None, Result, Ok}
use Rattle.giop_tokens.specs.declared.fault.TokenError.{TokenError}
use Rattle.giop_tokens.specs.declared.fault.SigFaultKind.TheVariants as kinds
use Rattle.giop_tokens.specs.declared.marks.Mark.TheVariants as marks
use Rattle.giop_tokens.specs.Tokens.{octets_left_at_token}
use Rattle.giop_tokens.specs.Reading.{◌>>=◌}
use Rattle.giop_tokens.specs.Readers.{mark_at, mark_if}
use Rattle.giop_sig.specs.Table as nodes
use Rattle.giop_sig.specs.Scopes.{is_version_3, Scope}
use Rattle.giop_sig.specs.Outcomes.{refused}
use Rattle.giop_sig.specs.ItemReading.{new_name_at, declared_name_at, non_empty_list_at, identity_at, DeclarationRead, type_end_at}
use Rattle.giop_sig.specs.Repeats.{in_steps}

-- the enumerators that were read, and the rest of the text
abbrev pub NamesAndRest : Type 0
NamesAndRest = List (List ℕ) × List ℕ

-- one more enumerator
unfoldable pub enumerator_at : (version_3 : Bool) (names_before : List (List ℕ)) (text : List ℕ) →
    Result NamesAndRest TokenError
enumerator_at third seen text = do
  w ← new_name_at third 1024 seen text
  Ok (seen ++ w.0 ∷ [], w.1)

-- a comma, after which another enumerator comes, or the closing mark
abbrev pub names_end : (names_so_far : NamesAndRest) (rest_after_comma : Option (List ℕ)) →
    Result (Bool × NamesAndRest) TokenError
names_end names (Some rest) = Ok (false, (names.0, rest))
names_end names None = do
  rest ← mark_at marks.CloseBrace names.1
  Ok (true, (names.0, rest))

-- an enumerator, and the mark after it
unfoldable pub names_step : (version_3 : Bool) (names_so_far : NamesAndRest) →
    Result (Bool × NamesAndRest) TokenError
names_step third seen = do
  names ← enumerator_at third seen.0 seen.1
  comma ← mark_if marks.Comma names.1
  names_end names comma

abbrev pub too_many_names : (names : NamesAndRest) → TokenError
too_many_names names = refused kinds.Limit names.1

-- the enumerators of an enum, after its opening mark
unfoldable pub names_at : (version_3 : Bool) (text_after_brace : List ℕ) →
    Result NamesAndRest TokenError
names_at third text = do
  some ← non_empty_list_at text
  in_steps (names_step third) too_many_names 1025 ([], some)

-- an enum, after its first word
unfoldable pub enumeration_at : (scope : Scope) (text_after_keyword : List ℕ) →
    Result DeclarationRead TokenError
enumeration_at s text = do
  n ← declared_name_at s None s.table.declared text
  i ← identity_at s n.1
  o ← mark_at marks.OpenBrace i.1
  names ← names_at (is_version_3 s.names) o
  type_end_at (octets_left_at_token text) n.0 i.0 s (nodes.enumeration names.0) names.1
