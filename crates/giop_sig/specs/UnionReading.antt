-- Reading a union from left to right, and what it adds to the scope (steps).
use Rattle.std.specs.Prelude.{ℕ, Bool, true, false, ◌||◌, if◌then◌else◌, nat_le, nat_lt, List, [], ◌∷◌, ◌++◌, length, Option, Some, None, is_some, Result, Ok, Err, codes}
use Rattle.std.specs.List.{list_any}
use Rattle.std.specs.Str.{bytes_eq}
use Rattle.giop_cdr.specs.declared.number.Number.{Number}
use Rattle.giop_cdr.specs.declared.prim.Primitive.TheVariants as prims
use Rattle.giop_tokens.specs.declared.fault.TokenError.{TokenError}
use Rattle.giop_tokens.specs.declared.fault.SigFaultKind.TheVariants as kinds
use Rattle.giop_tokens.specs.declared.marks.Mark.TheVariants as marks
use Rattle.giop_tokens.specs.Tokens.{Token, word, number, negative, repository, mark, octets_left_at_token, next}
use Rattle.giop_tokens.specs.Reading.{◌>>=◌}
use Rattle.giop_tokens.specs.Readers.{misplaced, mark_at, keyword_at, mark_if, keyword_if}
use Rattle.giop_tokens.specs.Names.{is_reserved}
use Rattle.giop_sig.specs.declared.types.Selected.{Selected}
use Rattle.giop_sig.specs.declared.types.Selected.TheVariants as selecteds
use Rattle.giop_sig.specs.declared.announced.TypeWord.TheVariants as type_words
use Rattle.giop_sig.specs.Table.{Part, Case, Node, node_at, same_number}
use Rattle.giop_sig.specs.Table as nodes
use Rattle.giop_sig.specs.Grammar.{Value, Plain, Below, Truth, Enumerator}
use Rattle.giop_sig.specs.Scopes.{is_version_3, Scope, label_number}
use Rattle.giop_sig.specs.Outcomes.{refused}
use Rattle.giop_sig.specs.TypeReading.{TypeRead, type_at}
use Rattle.giop_sig.specs.ItemReading.{announcement_at, announces_at, declared_name_at, item_at, non_empty_list_at, identity_at, DeclarationRead, type_end_at}
use Rattle.giop_sig.specs.Repeats.{in_steps}

-- ---- a label

-- the value of a word
abbrev pub word_value : (version_3 : Bool) (text_from_word label_word rest_after_word : List ℕ) →
    Result (Value × List ℕ) TokenError
word_value third text name rest =
    if bytes_eq name (codes "true") then Ok (Truth true, rest) else
    (if bytes_eq name (codes "false") then Ok (Truth false, rest) else
    (if is_reserved third name then Err (misplaced text) else
    (if nat_lt 64 (length name) then Err (refused kinds.Limit text) else Ok
    (Enumerator name, rest))))

abbrev pub token_value : (version_3 : Bool) (text_from_token : List ℕ) (token : Option Token)
    (rest_after_token : List ℕ) → Result (Value × List ℕ) TokenError
token_value third text None rest = Err (misplaced text)
token_value third text (Some (word w)) rest = word_value third text w rest
token_value third text (Some (number n)) rest = Ok (Plain n, rest)
token_value third text (Some (negative n)) rest = Ok (Below n, rest)
token_value third text (Some (repository r)) rest = Err (misplaced text)
token_value third text (Some (mark m)) rest = Err (misplaced text)

-- the value of a label
unfoldable pub value_at : (version_3 : Bool) (text : List ℕ) → Result (Value × List ℕ) TokenError
value_at third text = do
  t ← next text
  token_value third text t.0 t.1

-- a label that was read: the number that it names; None for the default
abbrev pub LabelMark : Type 0
LabelMark = Option Number

abbrev pub same_mark : (one other : LabelMark) → Bool
same_mark None None = true
same_mark (Some m) (Some n) = same_number m n
same_mark _ _ = false

abbrev pub LabelRead : Type 0
LabelRead = LabelMark × List ℕ

abbrev pub label_fitting : (text_from_label rest_after_label : List ℕ)
    (discriminator_value : Option Number) → Result LabelRead TokenError
label_fitting text rest None = Err (refused kinds.Label text)
label_fitting text rest (Some n) = Ok (Some n, rest)

-- the value of the discriminator's type that the next value names
unfoldable pub number_of_value : (version_3 : Bool) (discriminator_node : Node) (text : List ℕ) →
    Result LabelRead TokenError
number_of_value third node text = do
  v ← value_at third text
  label_fitting text v.1 (label_number node v.0)

-- a label that was read, unless the union has it already or has no room for more labels; the
-- refusal is at this text
unfoldable pub unseen_label : (seen_labels : List LabelMark) (label : LabelMark)
    (text_from_label : List ℕ) → Result LabelMark TokenError
unseen_label seen m text =
    if list_any (λ s. same_mark s m) seen then Err (refused kinds.Duplicate text)
    else (if nat_le 1024 (length seen) then Err (refused kinds.Limit text) else Ok m)

abbrev pub label_after_case : (version_3 : Bool) (discriminator_node : Node)
    (seen_labels : List LabelMark) (text : List ℕ) (text_after_case_word : Option (List ℕ)) →
    Result LabelRead TokenError
label_after_case third node seen text (Some inner) = do
  v ← number_of_value third node inner
  m ← unseen_label seen v.0 inner
  rest ← mark_at marks.Colon v.1
  Ok (m, rest)
label_after_case third node seen text None = do
  inner ← keyword_at (codes "default") text
  m ← unseen_label seen None text
  rest ← mark_at marks.Colon inner
  Ok (m, rest)

-- a label with its colon
unfoldable pub label_at : (version_3 : Bool) (discriminator_node : Node)
    (seen_labels : List LabelMark) (text : List ℕ) → Result LabelRead TokenError
label_at third node seen text = do
  value ← keyword_if (codes "case") text
  label_after_case third node seen text value

-- ---- the labels of a case

-- all labels of the union so far; the numbers of the case's labels; whether the case has the
-- default; and the rest of the text
abbrev pub LabelsRead : Type 0
LabelsRead = List LabelMark × List Number × Bool × List ℕ

abbrev pub with_label : (labels : LabelsRead) (label : LabelRead) → LabelsRead
with_label ls (None, rest) = (ls.0 ++ None ∷ [], ls.1, true, rest)
with_label ls (Some n, rest) = (ls.0 ++ Some n ∷ [], ls.1 ++ n ∷ [], ls.2, rest)

-- whether a label comes next
unfoldable pub begins_label : (text : List ℕ) → Result Bool TokenError
begins_label text = do
  value ← keyword_if (codes "case") text
  default ← keyword_if (codes "default") text
  Ok (is_some value || is_some default)

-- If another label comes, it is read; else the labels of the case are over. The Bool says whether
-- they are over.
abbrev pub label_or_end : (version_3 : Bool) (discriminator_node : Node) (labels : LabelsRead)
    (label_comes : Bool) → Result (Bool × LabelsRead) TokenError
label_or_end third node ls false = Ok (true, ls)
label_or_end third node ls true = do
  l ← label_at third node ls.0 ls.3
  Ok (false, with_label ls l)

-- one more label, if one comes
unfoldable pub labels_step : (version_3 : Bool) (discriminator_node : Node) (labels : LabelsRead) →
    Result (Bool × LabelsRead) TokenError
labels_step third node ls = do
  more ← begins_label ls.3
  label_or_end third node ls more

abbrev pub too_many_labels : (labels : LabelsRead) → TokenError
too_many_labels ls = refused kinds.Limit ls.3

-- the labels of a case after `seen`, which must begin with one
abbrev pub labels_by : (version_3 : Bool) (discriminator_node : Node) (seen_labels : List LabelMark)
    (text : List ℕ) (label_comes : Bool) → Result LabelsRead TokenError
labels_by third node seen text false = Err (misplaced text)
labels_by third node seen text true =
    in_steps (labels_step third node) too_many_labels 1025 (seen, [], false, text)

-- the labels of a case, at least one
unfoldable pub labels_at : (version_3 : Bool) (discriminator_node : Node)
    (seen_labels : List LabelMark) (text : List ℕ) → Result LabelsRead TokenError
labels_at third node seen text = do
  some ← begins_label text
  labels_by third node seen text some

-- ---- cases

-- the labels and names of the cases so far, the cases, and the one with the default
pub record Cases : Type 0 where
  pub labels : List LabelMark
  pub names : List (List ℕ)
  pub cases : List Case
  pub otherwise : Selected

abbrev pub no_cases : Cases
no_cases = record { labels = []; names = []; cases = []; otherwise = selecteds.Nothing }

-- the first case with the default
abbrev pub first_default_case : (selected_before : Selected) (has_default : Bool) (case_index : ℕ) →
    Selected
first_default_case selecteds.Nothing true index = selecteds.Case index
first_default_case selecteds.Nothing false index = selecteds.Nothing
first_default_case (selecteds.Case j) default index = selecteds.Case j
first_default_case selecteds.Refused default index = selecteds.Refused

abbrev pub with_case : (cases_before : Cases) (labels : LabelsRead) (part : Part) → Cases
with_case cs ls p = record {
  labels = ls.0;
  names = cs.names ++ p.name ∷ [];
  cases = cs.cases ++ (record { labels = ls.1; part = p }) ∷ [];
  otherwise = first_default_case cs.otherwise ls.2 (length cs.names);
}

abbrev pub CasesRead : Type 0
CasesRead = Scope × Cases × List ℕ

-- a case of a union whose discriminator has the type with this number
unfoldable pub case_at : (switch_type : ℕ) (cases_before : CasesRead) → Result CasesRead TokenError
case_at switch x = do
  ls ← labels_at (is_version_3 (x.0).names) (node_at (x.0).table switch) (x.1).labels x.2
  i ← item_at 256 (x.1).names x.0 ls.3
  rest ← mark_at marks.Semicolon i.2
  Ok (i.0, with_case x.1 ls i.1, rest)

-- After the closing mark of a union the cases are over, and what follows the mark is left. Without
-- it one more case is read. The Bool says whether they are over.
abbrev pub case_or_end : (switch_type : ℕ) (cases_before : CasesRead)
    (text_after_close_mark : Option (List ℕ)) → Result (Bool × CasesRead) TokenError
case_or_end switch cases (Some after_mark) = Ok (true, (cases.0, cases.1, after_mark))
case_or_end switch cases None = do
  c ← case_at switch cases
  Ok (false, c)

-- the closing mark, or one more case
unfoldable pub cases_step : (switch_type : ℕ) (cases_before : CasesRead) →
    Result (Bool × CasesRead) TokenError
cases_step switch x = do
  closed ← mark_if marks.CloseBrace x.2
  case_or_end switch x closed

abbrev pub too_many_cases : (cases : CasesRead) → TokenError
too_many_cases x = refused kinds.Limit x.2

-- cases up to the closing mark, at least one
unfoldable pub cases_at : (switch_type : ℕ) (scope : Scope) (text : List ℕ) →
    Result CasesRead TokenError
cases_at switch s text = do
  some ← non_empty_list_at text
  in_steps (cases_step switch) too_many_cases 257 (s, no_cases, some)

-- ---- the declaration

-- whether a type can be that of a discriminator
abbrev pub can_switch : (node : Node) → Bool
can_switch (nodes.prim prims.Octet) = false
can_switch (nodes.prim prims.Float) = false
can_switch (nodes.prim prims.Double) = false
can_switch (nodes.prim p) = true
can_switch (nodes.enumeration names) = true
can_switch node = false

-- the node of a union whose cases were read
abbrev pub union_node : (switch_type : ℕ) (cases : CasesRead) → Node
union_node switch x = nodes.union switch (x.1).cases (x.1).otherwise

-- the type of a discriminator
unfoldable pub switch_at : (scope : Scope) (text : List ℕ) → Result TypeRead TokenError
switch_at s text = do
  t ← type_at s text
  if can_switch (node_at (t.0).table t.1) then Ok t else Err (refused kinds.Label text)

-- a union, after its name, which is at the front of `text`
unfoldable pub union_after : (scope : Scope) (text_from_name name rest_after_name : List ℕ)
    → Result DeclarationRead TokenError
union_after s text name rest = do
  i ← identity_at s rest
  k ← keyword_at (codes "switch") i.1
  p ← mark_at marks.OpenParenthesis k
  t ← switch_at s p
  q ← mark_at marks.CloseParenthesis t.2
  o ← mark_at marks.OpenBrace q
  cs ← cases_at t.1 t.0 o
  type_end_at (octets_left_at_token text) name i.0 cs.0 (union_node t.1 cs) cs.2

-- a union, or its announcement, after its first word
unfoldable pub union_at : (scope : Scope) (text_after_union_word : List ℕ) →
    Result DeclarationRead TokenError
union_at s text = do
  n ← declared_name_at s (Some type_words.Union) s.table.declared text
  a ← announces_at s n.1
  if a then announcement_at s type_words.Union text n.0 n.1
      else union_after s text n.0 n.1
