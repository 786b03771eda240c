-- Reading operations from left to right (steps).
use Rattle.std.specs.Prelude.{ℕ, ◌+◌, ◌&&◌, not, Bool, true, false, if◌then◌else◌, nat_le, List, [], ◌∷◌, ◌++◌, length, Option, Some, None, Result, Ok, Err, codes}
use Rattle.std.specs.Option.{is_some}
use Rattle.std.specs.Str.{bytes_eq}
use Rattle.giop_tokens.specs.declared.fault.TokenError.{TokenError}
use Rattle.giop_tokens.specs.declared.fault.SigFaultKind.TheVariants as kinds
use Rattle.giop_tokens.specs.declared.marks.Mark.TheVariants as marks
use Rattle.giop_tokens.specs.Tokens.{octets_left_at_token}
use Rattle.giop_tokens.specs.Reading.{◌>>=◌}
use Rattle.giop_tokens.specs.Readers.{misplaced, word_at, mark_at, mark_if, keyword_at, keyword_if, repository_at}
use Rattle.giop_tokens.specs.Names.{operation_name_at}
use Rattle.giop_sig.specs.declared.read_calls.Direction.{Direction}
use Rattle.giop_sig.specs.declared.read_calls.Direction.TheVariants as directions
use Rattle.std.specs.List.{list_any}
use Rattle.giop_sig.specs.Interfaces.{Interfaces, is_key, number_of, of_text}
use Rattle.giop_sig.specs.Table.{Part, Table, operation_key, operation_number_of_key, with_keyed_operation, with_operation_in_interface, with_operation_counted}
use Rattle.giop_sig.specs.Table as nodes
use Rattle.giop_sig.specs.Scopes.{is_version_3, Scope, AddedType, part, with_node, with_key_of}
use Rattle.giop_sig.specs.Outcomes.{refused}
use Rattle.giop_sig.specs.TypeReading.{type_at}
use Rattle.giop_sig.specs.ItemReading.{ItemRead, item_at, DeclarationRead, declaration_end_at}
use Rattle.giop_sig.specs.Repeats.{in_steps}

-- ---- what an operation returns

abbrev pub ReturnRead : Type 0
ReturnRead = Scope × List Part × List ℕ

abbrev pub return_after : (scope : Scope) (text : List ℕ) (rest_after_void : Option (List ℕ)) →
    Result ReturnRead TokenError
return_after s text (Some rest) = Ok (s, [], rest)
return_after s text None = do
  t ← type_at s text
  Ok (t.0, part (codes "return") t.1 ∷ [], t.2)

unfoldable pub return_at : (scope : Scope) (text : List ℕ) → Result ReturnRead TokenError
return_at s text = do
  v ← keyword_if (codes "void") text
  return_after s text v

-- the name of an operation; if the file can't have interfaces, the name must be new
unfoldable pub new_operation_at : (scope : Scope) (text : List ℕ) → Result
    (List ℕ × List ℕ) TokenError
new_operation_at s text = do
  n ← operation_name_at text
  if not (is_version_3 s.names) && is_some (operation_number_of_key s.table (operation_key 0 n.0))
      then Err (refused kinds.Duplicate text)
      else (if nat_le 4096 s.table.called
      then Err (refused kinds.Limit text) else Ok (n.0, n.1))

-- ---- parameters

abbrev pub direction_of : (word : List ℕ) → Option Direction
direction_of word =
    if bytes_eq word (codes "in") then Some directions.In else
    (if bytes_eq word (codes "out") then Some directions.Out else
    (if bytes_eq word (codes "inout") then Some directions.Inout else None))

abbrev pub as_direction : (text_from_word rest_after_word : List ℕ) (direction : Option Direction) →
    Result (Direction × List ℕ) TokenError
as_direction text rest None = Err (misplaced text)
as_direction text rest (Some d) = Ok (d, rest)

unfoldable pub direction_at : (text : List ℕ) → Result (Direction × List ℕ) TokenError
direction_at text = do
  w ← word_at text
  as_direction text w.1 (direction_of w.0)

abbrev pub with_request_part : (direction : Direction) (parameter : Part)
    (request_parts : List Part) → List Part
with_request_part directions.In p parts = parts ++ p ∷ []
with_request_part directions.Out p parts = parts
with_request_part directions.Inout p parts = parts ++ p ∷ []

abbrev pub with_reply_part : (direction : Direction) (parameter : Part) (reply_parts : List Part) →
    List Part
with_reply_part directions.In p parts = parts
with_reply_part directions.Out p parts = parts ++ p ∷ []
with_reply_part directions.Inout p parts = parts ++ p ∷ []

-- the names of the parameters, and the members of requests and replies
pub record ParameterLists : Type 0 where
  pub seen : List (List ℕ)
  pub request : List Part
  pub reply : List Part

-- the lists with one more parameter
abbrev pub with_param : (lists : ParameterLists) (direction : Direction) (parameter : Part) →
    ParameterLists
with_param w d p =
    record {
      seen = w.seen ++ p.name ∷ [];
      request = with_request_part d p w.request;
      reply = with_reply_part d p w.reply;
    }

-- the parameters that were read, and the rest of the text
abbrev pub Params : Type 0
Params = Scope × ParameterLists × List ℕ

abbrev pub param_end : (lists_before : ParameterLists) (direction : Direction) (item : ItemRead)
    (rest_after_comma : Option (List ℕ)) → Result (Bool × Params) TokenError
param_end w d i (Some r) = Ok (false, (i.0, with_param w d i.1, r))
param_end w d i None = do
  r ← mark_at marks.CloseParenthesis i.2
  Ok (true, (i.0, with_param w d i.1, r))

-- a parameter, and the comma or the closing mark after it
unfoldable pub param_step : (params_so_far : Params) → Result (Bool × Params) TokenError
param_step x = do
  d ← direction_at x.2
  i ← item_at 255 (x.1).seen x.0 d.1
  c ← mark_if marks.Comma i.2
  param_end x.1 d.0 i c

abbrev pub too_many_params : (params_so_far : Params) → TokenError
too_many_params x = refused kinds.Limit x.2

abbrev pub ParamsRead : Type 0
ParamsRead = Scope × List Part × List Part × List ℕ

abbrev pub params_read : (params_so_far : Params) → Result ParamsRead TokenError
params_read x = Ok (x.0, (x.1).request, (x.1).reply, x.2)

abbrev pub params_run : (most_steps : ℕ) (params_so_far : Params) → Result ParamsRead TokenError
params_run count x = in_steps param_step too_many_params count x >>= params_read

abbrev pub only_returned : (returned_parts : List Part) → ParameterLists
only_returned returned = record { seen = []; request = []; reply = returned }

abbrev pub params_after : (returned_parts : List Part) (scope : Scope) (text : List ℕ)
    (rest_after_parenthesis : Option (List ℕ)) → Result ParamsRead TokenError
params_after returned s text (Some rest) = Ok (s, [], returned, rest)
params_after returned s text None = params_run 256 (s, only_returned returned, text)

-- parameters up to the closing mark
unfoldable pub params_at : (returned_parts : List Part) (scope : Scope)
    (text_after_parenthesis : List ℕ) → Result ParamsRead TokenError
params_at returned s text = do
  c ← mark_if marks.CloseParenthesis text
  params_after returned s text c

-- ---- interfaces

-- an interface, which may be new
unfoldable pub interface_at : (interfaces : Interfaces) (text : List ℕ) → Result
    (List ℕ × List ℕ) TokenError
interface_at i text = do
  id ← repository_at text
  if not (list_any (bytes_eq id.0) i.names) && nat_le 1024 (length i.names)
      then Err (refused kinds.Limit text) else Ok (id.0, id.1)

-- the name of an operation, and the structs of its requests and replies
pub record OperationStructs : Type 0 where
  pub name : List ℕ
  pub request : ℕ
  pub reply : ℕ

-- the scope after a list of interfaces, and the rest of the text
abbrev pub InterfacesRead : Type 0
InterfacesRead = Scope × List ℕ

abbrev pub with_table_by : (change : Table → Table) (scope : Scope) → Scope
with_table_by change s = record s { table = change s.table }

abbrev pub key_in_interface : (operation : OperationStructs) (table : Table)
    (interface_repository_id : List ℕ) → List ℕ
key_in_interface c t id = operation_key (number_of t.interfaces id + 1) c.name

-- an interface in which the operation's name is new
unfoldable pub operation_interface_at : (operation : OperationStructs) (table : Table)
    (text : List ℕ) →
    Result (List ℕ × List ℕ) TokenError
operation_interface_at c t text = do
  id ← interface_at t.interfaces text
  if is_some (operation_number_of_key t (key_in_interface c t id.0)) then Err
      (refused kinds.Duplicate text)
      else Ok (id.0, id.1)

-- whether no comma comes, and the rest
abbrev pub after_comma : (rest_without_comma : List ℕ) (rest_after_comma : Option (List ℕ)) →
    Bool × List ℕ
after_comma text None = (true, text)
after_comma text (Some after) = (false, after)

abbrev pub interface_end : (operation : OperationStructs) (interface_repository_id : List ℕ)
    (interfaces_so_far : InterfacesRead) (over_and_rest : Bool × List ℕ) → Bool × InterfacesRead
interface_end c id v over_and_rest = (
  over_and_rest.0,
  (with_table_by (with_operation_in_interface c.name c.request c.reply id) v.0, over_and_rest.1),
)

-- an interface of an operation, and the comma after it
unfoldable pub interface_step : (operation : OperationStructs)
    (interfaces_so_far : InterfacesRead) → Result (Bool × InterfacesRead) TokenError
interface_step c v = do
  id ← operation_interface_at c (v.0).table v.1
  comma ← mark_if marks.Comma id.1
  Ok (interface_end c id.0 v (after_comma id.1 comma))

abbrev pub too_many_interfaces : (interfaces_so_far : InterfacesRead) → TokenError
too_many_interfaces v = misplaced v.1

-- an operation without interfaces, whose name is at the front of `at`
abbrev pub without_interfaces_at : (text_from_operation_name : List ℕ)
    (operation : OperationStructs) (scope_and_rest : InterfacesRead) →
    Result InterfacesRead TokenError
without_interfaces_at at c v =
    if is_some (operation_number_of_key (v.0).table (operation_key 0 c.name))
    then Err (refused kinds.Duplicate at)
    else Ok (with_table_by (with_keyed_operation 0 c.name c.request c.reply) v.0, v.1)

abbrev pub interfaces_after_of : (text_from_operation_name : List ℕ) (operation : OperationStructs)
    (scope_and_rest : InterfacesRead) (rest_after_of : Option (List ℕ)) →
    Result InterfacesRead TokenError
interfaces_after_of at c v None = without_interfaces_at at c v
interfaces_after_of at c v (Some rest) = in_steps (interface_step c) too_many_interfaces
    (length rest) (v.0, rest)

-- the interfaces of an operation, if it has some; its name is at the front of `at`
unfoldable pub optional_interfaces_at : (text_from_operation_name : List ℕ)
    (operation : OperationStructs) (scope_and_rest : InterfacesRead) →
    Result InterfacesRead TokenError
optional_interfaces_at at c v =
    if is_version_3 (v.0).names then (keyword_if (codes "of") v.1 >>= interfaces_after_of at c v)
    else without_interfaces_at at c v

-- the two structs of an operation's parameters: first that of requests, then that of replies
abbrev pub add_both_structs : (params : ParamsRead) → AddedType
add_both_structs m = with_node (with_node m.0 (nodes.members m.1)).0 (nodes.members m.2)

-- an operation with the two structs of its parameters
abbrev pub operation_structs_of : (name : List ℕ) (params : ParamsRead) → OperationStructs
operation_structs_of w m =
    record { name = w; request = length (m.0).table.types; reply = (add_both_structs m).1 }

abbrev pub with_operation_counted_in : (scope : Scope) → Scope
with_operation_counted_in s = record s { table = with_operation_counted s.table }

-- an operation, after its first word
unfoldable pub operation_at : (scope : Scope) (text_after_keyword : List ℕ) →
    Result DeclarationRead TokenError
operation_at s text = do
  t ← return_at s text
  n ← new_operation_at t.0 t.2
  o ← mark_at marks.OpenParenthesis n.1
  m ← params_at t.1 t.0 o
  l ← optional_interfaces_at t.2 (operation_structs_of n.0 m) ((add_both_structs m).0, m.3)
  declaration_end_at (octets_left_at_token t.2) (with_operation_counted_in l.0) l.1

-- a new KEY
unfoldable pub new_key_at : (scope : Scope) (text : List ℕ) → Result (List ℕ × List ℕ) TokenError
new_key_at s text = do
  k ← repository_at text
  if not (is_key k.0) then Err (misplaced text)
      else (if is_some (of_text s.table.interfaces k.0) then Err (refused kinds.Duplicate text)
      else (if nat_le 16384 (length s.table.interfaces.keys)
      then Err (refused kinds.Limit text) else Ok (k.0, k.1)))

-- a KEY and its interface, after its first word
unfoldable pub key_at : (scope : Scope) (text_after_keyword : List ℕ) →
    Result DeclarationRead TokenError
key_at s text = do
  k ← new_key_at s text
  o ← keyword_at (codes "of") k.1
  id ← interface_at s.table.interfaces o
  declaration_end_at (octets_left_at_token text) (with_key_of s k.0 id.0) id.1
