-- What one direction of a conversation knows of the calls of both (meaning).
use Rattle.std.specs.Prelude.{ℕ, Bool, true, false, ◌==◌, List, [], ◌∷◌, ◌++◌, length, nat_le, nat_lt, Option, None, Some, option_and_then, if◌then◌else◌}
use Rattle.std.specs.List.{find}
use Rattle.std.specs.Option.{option_map}
use Rattle.giop_sig.specs.declared.types.OpId.{OpId}
use Rattle.giop_sig.specs.Table.{Table, op_id}
use Rattle.giop_entry_table.specs.EntryTable.{Entries}
use Rattle.giop_calls.specs.declared.calls.Call.{Call}
use Rattle.giop_calls.specs.Outstanding.{without, newest}
use Rattle.giop_message.specs.HeaderEnds.{CallEvent, Requested, Replied, Raised}

-- the types of the operations, the calls of this direction, and those of the other, which its
-- replies answer
pub record SideState : Type 0 where
  pub table : Table
  pub own : Entries Call
  pub theirs : Entries Call

-- the operation of a number, if the table has it
abbrev pub operation_numbered : (C : Table) (number : ℕ) → Option OpId
operation_numbered C number =
    if nat_lt number (length C.operations) then Some (op_id number) else None

-- the operation of the call of the other direction with this id
abbrev pub answered_operation : (s : SideState) (id : ℕ) → Option OpId
answered_operation s id =
    option_and_then (λ e. option_and_then (operation_numbered s.table) e.value.operation)
    (find (λ e. e.key == id) s.theirs.entries)

-- the octets of a name, if there is room for them
abbrev pub kept_name : (name : List ℕ) → List ℕ
kept_name name = if nat_le (length name) 128 then name else []

-- the call that a Request makes
abbrev pub call_of : (number : ℕ) (name : List ℕ) (operation : Option OpId) → Call
call_of number name operation = record {
  name = record { items = kept_name name };
  operation = option_map (λ o. o.0) operation;
  stream = 1;
  message = number;
  time = None;
}

-- the calls after a Request with this id: if its call line can be shown and it expects a reply, its
-- call is the newest one
abbrev pub requested : (number id : ℕ) (name : Option (List ℕ)) (operation : Option OpId)
    (expects : Bool) (calls : Entries Call) → Entries Call
requested number id None operation expects calls =
    record calls { entries = without id calls.entries }
requested number id (Some name) operation false calls =
    record calls { entries = without id calls.entries }
requested number id (Some name) operation true calls =
    record calls {
      entries = newest calls.most (without id calls.entries
          ++ record { key = id; value = call_of number name operation } ∷ []);
    }

-- what is known after an event
abbrev pub after_event : SideState → CallEvent → SideState
after_event s (Requested number id name operation expects) =
    record s { own = requested number id name operation expects s.own }
after_event s (Replied number id) =
    record s { theirs = record s.theirs { entries = without id s.theirs.entries } }
after_event s (Raised number name) = s
