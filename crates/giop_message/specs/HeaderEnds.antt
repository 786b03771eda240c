-- At which octets the header of a message ends and the name of an exception ends that a Reply
-- raises; and what the correspondent, the other side of the conversation, is told there (meaning).
use Rattle.std.specs.Prelude.{◌≡◌, ◌<◌, ℕ, Bool, true, List, [], ◌∷◌, ◌++◌, length, map, drop, Option, Some, None, IfSome, option_and_then, option_map, ◌==◌, if◌then◌else◌}
use Rattle.giop_sig.specs.declared.types.OpId.{OpId}
use Rattle.giop_sig.specs.Builtin.{builtin_table}
use Rattle.giop_sig.specs.Table.{Table}
use Rattle.giop_decode.specs.Noted.{Noted}
use Rattle.giop_message.specs.Headers.{kind}
use Rattle.giop_message.specs.Phases.{Phase}
use Rattle.giop_message.specs.Signatures.{Answer, Answers, called_operation, signatures_of}
use Rattle.giop_message.specs.Messages.{Mark, HeaderMark, NameMark, read_message, message_marks, is_graphic_name}

-- ---- what ends

-- what can end in a message; the first number is the message's
pub data HeaderEnd : Type 0 where
  -- the header of the message: its 12 first octets, and what is noted of the others
  Header_end : ℕ → List ℕ → Noted → HeaderEnd
  -- the exception that the message raises: its name, of at most 128 octets
  Exception_end : ℕ → List ℕ → HeaderEnd

-- The marks of a message, from the octets that follow the 12 of `header`. They are the same with
-- each table of each version, and whatever the ids answer; so they are defined by the built-in
-- types of version 1 only.
unfoldable pub marks : (phase : Phase) (header octets_after_header : List ℕ) → List Mark
marks phase header octets =
    message_marks (read_message (signatures_of builtin_table (λ id. None) phase) header octets)

abbrev pub noted_in : (marks : List Mark) → Option Noted
noted_in [] = None
noted_in (HeaderMark n ∷ ms) = Some n
noted_in (NameMark name ∷ ms) = noted_in ms

-- what is noted of a message's header, if it is complete
unfoldable pub header_noted : (phase : Phase) (header octets_after_header : List ℕ) → Option Noted
header_noted phase header octets = noted_in (marks phase header octets)

abbrev pub header_end_at : (message_number : ℕ) (header : List ℕ) (mark : Mark) → HeaderEnd
header_end_at number header (HeaderMark n) = Header_end number header n
header_end_at number header (NameMark name) = Exception_end number name

-- what ends in more octets after these: the header, and the name of an exception
unfoldable pub header_ends : (phase : Phase) (message_number : ℕ)
    (header octets_before more_octets : List ℕ) → List HeaderEnd
header_ends phase number header octets more = map (header_end_at number header)
    (drop (length (marks phase header octets)) (marks phase header (octets ++ more)))

-- ---- what is told of these ends

-- what the header of a message, which is named by its number, says of the calls of a conversation
-- (GIOP Message Formats, Request Header, Reply Header)
pub data CallEvent : Type 0 where
  -- a Request: its number, its id, the name of its operation if a call line can show it, the
  -- operation if the table has it, and whether the Request expects a reply
  Requested : ℕ → ℕ → Option (List ℕ) → Option OpId → Bool → CallEvent
  -- a Reply: its number, and the id of the request that it answers
  Replied : ℕ → ℕ → CallEvent
  -- a Reply that raises an exception: its number, and the exception's name, if a call line could
  -- show it
  Raised : ℕ → List ℕ → CallEvent

abbrev pub shown_name : (name_shown_if_graphic : Option (List ℕ)) → Option (List ℕ)
shown_name None = None
shown_name (Some name) = if is_graphic_name name then Some name else None

-- If it isn't noted of a Request whether it expects a reply, it does: the reading of its header
-- went on from a checkpoint that didn't store this.
abbrev pub expects_reply : (noted_else_true : Option Bool) → Bool
expects_reply None = true
expects_reply (Some expects) = expects

abbrev pub request_event : (message_number : ℕ) (request_id : Option ℕ)
    (operation_name : Option (List ℕ)) (operation : Option OpId)
    (noted_expects_reply : Option Bool) → Option CallEvent
request_event number None name operation expects = None
request_event number (Some id) name operation expects =
    Some (Requested number id (shown_name name) operation (expects_reply expects))

abbrev pub reply_event : (message_number : ℕ) (request_id : Option ℕ) → Option CallEvent
reply_event number None = None
reply_event number (Some id) = Some (Replied number id)

-- the operation that a Request names, if the table has it; other messages name none
unfoldable pub operation_of : (C : Table) (header_if_of_request : List ℕ) (noted : Noted) →
    Option OpId
operation_of C header n =
    if kind header == 0 then option_and_then (called_operation C n.key) n.name else None

-- what a message's header says, from the message's number, what is noted of the header, and its
-- operation
unfoldable pub header_event : (message_number : ℕ) (header : List ℕ) (noted : Noted)
    (operation : Option OpId) →
    Option CallEvent
header_event number header n operation =
    if kind header == 0 then request_event number n.request_id n.name operation n.expects_reply
    else if kind header == 1 then reply_event number n.request_id
    else None

-- that a Reply raises an exception, from the Reply's number and the exception's name
abbrev pub raise_event : (message_number : ℕ) (exception_name : Option (List ℕ)) → Option CallEvent
raise_event number name = option_map (Raised number) (shown_name name)

abbrev pub call_event : (C : Table) (end : HeaderEnd) → Option CallEvent
call_event C (Header_end number header n) = header_event number header n (operation_of C header n)
call_event C (Exception_end number name) = raise_event number (Some name)

-- ---- the states of a correspondent: what each answers, and the one that follows an event

abbrev pub after_event : {St : Type 0} (state_after_call_event : St → CallEvent → St)
    (state_before : St) (event_if_any : Option CallEvent) → St
after_event notified state None = state
after_event notified state (Some event) = notified state event

-- the state after these ends, one after another
abbrev pub after_ends : {St : Type 0} (state_after_call_event : St → CallEvent → St) (C : Table)
    (state_before : St) (ends : List HeaderEnd) → St
after_ends notified C state [] = state
after_ends notified C state (e ∷ es) =
    after_ends notified C (after_event notified state (call_event C e))
    es

-- If a header ends, the operations of its message are those that the state before this event gives.
abbrev pub IsAnswered : {St : Type 0} (answer_of_state : St → Answer) (state : St)
    (answers_by_message : Answers) (end : HeaderEnd) → Type 0
IsAnswered answer state a (Header_end number header n) = a number ≡ answer state
IsAnswered answer state a (Exception_end number name) = Unit {0}

-- each header that ends is answered so
abbrev pub AgreesAtEnds : {St : Type 0} (answer_of_state : St → Answer)
    (state_after_call_event : St → CallEvent → St) (C : Table) (state_before : St)
    (answers_by_message : Answers) (ends : List HeaderEnd) → Type 0
AgreesAtEnds answer notified C state a [] = Unit {0}
AgreesAtEnds answer notified C state a (e ∷ es) =
    IsAnswered answer state a e × AgreesAtEnds answer notified C
    (after_event notified state (call_event C e)) a es

-- the operation is one of the table
abbrev pub IsKnownOperation : (C : Table) (operation_if_any : Option OpId) → Type 0
IsKnownOperation C operation = IfSome operation (λ o. o.0 < length C.operations)

abbrev pub HasKnownOperation : (C : Table) (event : CallEvent) → Type 0
HasKnownOperation C (Requested number id name operation expects) = IsKnownOperation C operation
HasKnownOperation C (Replied number id) = Unit {0}
HasKnownOperation C (Raised number name) = Unit {0}
