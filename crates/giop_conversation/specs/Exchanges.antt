-- The calls of a connection, as the correspondent of one of its streams knows them (meaning). The
-- calls that have no reply yet are kept for both directions: those of the stream that is read, and
-- those of the opposite stream, which Replies of the first one answer.
use Rattle.std.specs.Prelude.{ℕ, ◌&&◌, ◌||◌, ◌==◌, Bool, is_some, List, [], ◌∷◌, ◌++◌, length, Option, Some, None, nat_le, nat_lt, option_and_then, if◌then◌else◌}
use Rattle.std.specs.List.{find}
use Rattle.std.specs.Option.{option_map}
use Rattle.giop_entry_table.specs.declared.entry_table.Entry.{Entry}
use Rattle.giop_entry_table.specs.EntryTable.{Entries}
use Rattle.giop_calls.specs.declared.calls.Call.{Call}
use Rattle.giop_calls.specs.Outstanding.{without, newest}
use Rattle.giop_sig.specs.declared.types.OpId.{OpId}
use Rattle.giop_sig.specs.Table.{Table, op_id}
use Rattle.giop_message.specs.Signatures.{Answer}
use Rattle.giop_message.specs.HeaderEnds.{CallEvent, Requested, Replied, Raised}
use Rattle.tcp_waiting.specs.declared.arrival.Arrival.{Arrival}

-- a Reply that answers a call: the number of the Reply in its stream, and the call
pub record Answering : Type 0 where
  pub message : ℕ
  pub call : Call

-- a Reply that raises an exception: the number of the Reply in its stream, and the exception's name
pub record Raising : Type 0 where
  pub message : ℕ
  pub name : List ℕ

pub record ExchangeView : Type 0 where
  pub table : Table  -- the operations by their numbers
  pub own : Entries Call  -- the calls of the direction that is read
  pub opposite : Entries Call  -- the calls of the opposite direction, which the Replies answer
  pub stream : ℕ  -- the number of the stream that is read
  pub arrival : Arrival  -- the packet that is read
  pub replied : ℕ  -- the number of the last Reply whose header has ended; 0 if there is none
  pub answered : Option Answering  -- what that Reply answers
  pub raised : Option Raising  -- the last exception that a Reply raises

-- the calls of both directions
pub record CallPair : Type 0 where
  pub own : Entries Call
  pub opposite : Entries Call

abbrev pub with_entries : (calls : Entries Call) (entries : List (Entry Call)) → Entries Call
with_entries calls es = record calls { entries = es }

-- the outstanding call of an id, if there is one
abbrev pub outstanding_call : (calls : Entries Call) (request_id : ℕ) → Option Call
outstanding_call calls id = option_map (λ e. e.value) (find (λ e. e.key == id) calls.entries)

-- the operation of a number, if the table has it
abbrev pub operation_numbered : (C : Table) (operation_number : ℕ) → Option OpId
operation_numbered C number =
    if nat_lt number (length C.operations) then Some (op_id number) else None

-- the operation that a Reply of this id has results of: the operation of the call that it answers
abbrev pub answer_of : (exchange : ExchangeView) → Answer
answer_of s id =
    option_and_then (λ call. option_and_then (operation_numbered s.table) call.operation)
    (outstanding_call s.opposite id)

-- the name by which a call is kept, if it is kept: a reply is expected, and the name has at most
-- 128 octets, because a line shows no longer name
abbrev pub kept_name : (operation_name : Option (List ℕ)) (expects_reply : Bool) → Option (List ℕ)
kept_name None expects = None
kept_name (Some name) expects = if expects && nat_le (length name) 128 then Some name else None

abbrev pub new_call : (exchange : ExchangeView) (request_message_number : ℕ)
    (operation_name : List ℕ) (operation : Option OpId) → Call
new_call s number name operation = record {
  name = record { items = name };
  operation = option_map (λ o. o.0) operation;
  stream = s.stream;
  message = number;
  time = s.arrival.time;
}

-- the calls of the stream after a Request of this number and id; an older call of the same id goes
abbrev pub own_after_request : (exchange_before : ExchangeView)
    (request_message_number request_id : ℕ) (name_if_kept : Option (List ℕ))
    (operation : Option OpId) → Entries Call
own_after_request s number id None operation = with_entries s.own (without id s.own.entries)
own_after_request s number id (Some name) operation =
    with_entries s.own (newest s.own.most (without id s.own.entries
    ++ record { key = id; value = new_call s number name operation } ∷ []))

-- the exception that is kept of a Reply, if its name has at most 128 octets, because a line shows
-- no longer name
abbrev pub kept_exception : (reply_message_number : ℕ) (exception_name : List ℕ) → Option Raising
kept_exception number name =
    if nat_le (length name) 128 then Some (record { message = number; name = name }) else None

-- whether lines wait to be written of a Reply: it answers a call, or raises an exception
abbrev pub is_reply_line_due : ExchangeView → Bool
is_reply_line_due s = is_some s.answered || is_some s.raised

-- the calls after an event: the end of a Request's header; the end of a Reply's header, which takes
-- away the call that it answers; or the name of an exception that a Reply raises
abbrev pub notified : (exchange_before : ExchangeView) (event : CallEvent) → ExchangeView
notified s (Requested number id name operation expects) =
    record s { own = own_after_request s number id (kept_name name expects) operation }
notified s (Replied number id) = record s {
  opposite = with_entries s.opposite (without id s.opposite.entries);
  replied = number;
  answered = option_map (λ call. record { message = number; call = call })
      (outstanding_call s.opposite id);
}
notified s (Raised number name) = record s { raised = kept_exception number name }
