-- How a message is read: the types of its parts, for a catalogue and the operations that the ids of
-- replies answer, which are those of headers and those that bodies can have; and what padding is
-- counted by (meaning).
use Rattle.std.specs.Prelude.{ℕ, Bool, ◌&&◌, cond, List, Option, None, Some, nat_le}
use Rattle.std.specs.Option.{option_map, option_and_then}
use Rattle.giop_sig.specs.declared.types.OpId.{OpId}
use Rattle.giop_sig.specs.declared.types.TypeId.{TypeId}
use Rattle.giop_sig.specs.declared.types.Fixed.TheVariants.{ExceptionId, SystemException, Forward, Addressing}
use Rattle.giop_sig.specs.Types.{Ty}
use Rattle.giop_decode.specs.DecoderState.{interface_of_key}
use Rattle.giop_sig.specs.Table.{Table, in_version, operation_for, operation_at, exception_in, interface_name}
use Rattle.giop_sig.specs.Trees.{tree, has_wide_text}
use Rattle.giop_sig.specs.HeaderTypes.{header_type, fixed_type}
use Rattle.giop_sig.specs.RequestList.{kept_operation}
use Rattle.giop_message.specs.Phases.{Phase}

pub record Signatures : Type 0 where
  -- what padding is counted by in a message
  pub phase : Phase
  -- the type of a header, from the minor version and the message type
  pub header : ℕ → ℕ → Option Ty
  -- In a message of this minor version: the struct of an operation's parameters, from its name and
  -- the object key; and the struct of its results, from the id of the request.
  pub request : ℕ → List ℕ → Option (List ℕ) → Option Ty
  pub reply : ℕ → ℕ → Option Ty
  -- the repository id of the interface of an object key
  pub interface : Option (List ℕ) → Option (List ℕ)
  -- whether a LocateReply has a typed body
  pub has_locate_bodies : Bool
  -- in a message of this minor version: the struct of an exception's members, from its repository
  -- id
  pub members : ℕ → List ℕ → Option Ty
  -- the repository id of an exception, and the bodies of the other replies
  pub exception_id : Ty
  pub system_exception : Ty
  pub forward : Ty
  pub addressing : Ty

-- the table of a request list: the ids with their operations; no id comes twice
abbrev pub RequestTable : Type 0
RequestTable = List (ℕ × Option OpId)

-- the operation that an id answers; a Reply has the id of its request
abbrev pub Answer : Type 0
Answer = ℕ → Option OpId

-- the answers of the ids in each message, from the message's number
abbrev pub Answers : Type 0
Answers = ℕ → Answer

-- a request list gives the same answers in each message
abbrev pub by_list : (table_for_any_message : RequestTable) → Answers
by_list request_table number id = kept_operation request_table id

-- The type of a body. It has none if it has wide text and the message is one of 1.0 or 1.1, in
-- which the form of wide text isn't certain (CDR Transfer Syntax, Strings and Wide Strings).
abbrev pub body_tree : (C : Table) (type_index : ℕ) → Option Ty
body_tree C number = cond (C.forbids_wide && has_wide_text C.types number) None
    (Some (tree C number))

abbrev pub request_type : (C : Table) (operation : OpId) → Option Ty
request_type C o = body_tree C (operation_at C o.0).request

abbrev pub reply_type : (C : Table) (operation : OpId) → Option Ty
reply_type C o = body_tree C (operation_at C o.0).reply

abbrev pub members_type : (C : Table) (type_id : TypeId) → Option Ty
members_type C t = body_tree C t.0

-- the operation of a Request, from its name and the object key
abbrev pub called_operation : (C : Table) (object_key : Option (List ℕ)) (operation_name : List ℕ) →
    Option OpId
called_operation C key name = operation_for C name (interface_of_key C key)

-- the repository id of the interface of an object key
abbrev pub interface_of : (C : Table) (object_key : Option (List ℕ)) → Option (List ℕ)
interface_of C key = option_map (λ i. interface_name C i.0) (interface_of_key C key)

unfoldable pub signatures_of : (C : Table) (answer_of_ids : Answer) (phase : Phase) → Signatures
signatures_of C answer phase = record {
  phase = phase;
  header = header_type C.version;
  request = λ minor name key.
      option_and_then (request_type (in_version minor C)) (called_operation C key name);
  reply = λ minor id. option_and_then (reply_type (in_version minor C)) (answer id);
  interface = interface_of C;
  has_locate_bodies = nat_le 3 C.version;
  members = λ minor repository.
      option_and_then (members_type (in_version minor C)) (exception_in C repository);
  exception_id = fixed_type C.version ExceptionId;
  system_exception = fixed_type C.version SystemException;
  forward = fixed_type C.version Forward;
  addressing = fixed_type C.version Addressing;
}
