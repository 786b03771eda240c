-- The lines of given messages, as the definitions compute them.
use Rattle.std.proofs.Common.{◌≡◌, ℕ, zero, suc, ◌+◌, Bool, true, false, List, [], ◌∷◌, ◌++◌, replicate, length, Some, None, refl}
use Rattle.std.specs.Prelude.{codes, IfSome, nat_lt, ◌&&◌, ◌||◌}
use Rattle.std.specs.Fmt.{digits}
use Rattle.giop_cdr.specs.Alignment.{padding}
use Rattle.giop_cdr.specs.Numbers.{num, twos_complement}
use Rattle.giop_print.specs.Text.{hex, hex_number, escaped}
use Rattle.giop_sig.specs.Types.{case_count, Enum, Ty, Single, Struct, Union, Sequence, Array, Encapsulation, part_of, name_in}
use Rattle.giop_sig.specs.HeaderTypes.{header_type}
use Rattle.giop_decode.specs.Noted.{is_text}
use Rattle.giop_sig.specs.Heard.{first_fronts}
use Rattle.giop_sig.specs.Interfaces.{longest_front, no_interfaces}
use Rattle.giop_sig.specs.Table.{Table, Operation, Exception, members, op_id, operation_key}
use Rattle.giop_sig.specs.Trees.{tree_at}
use Rattle.giop_sig.specs.Builtin.{builtin_types, member}
use Rattle.giop_decode.specs.Pieces.{block, number}
use Rattle.giop_decode.specs.Spelling.{path_text}
use Rattle.giop_message.specs.Headers.{minor, kind, order}
use Rattle.giop_message.specs.Phases.{Phase, unbroken, seamed}
use Rattle.giop_message.specs.MessageReader.{LineClass, Value, Call, Rest, Fault, End, TimedLine, MessageReader}
use Rattle.giop_message.specs.Text.{value_line_text, call_text, rest_text}
use Rattle.giop_message.specs.Signatures.{RequestTable, by_list, signatures_of}
use Rattle.giop_message.specs.Messages.{line_at, is_graphic_name, call_line_if_named, call_lines_after, section_lines, with_front, section_then, read_rest_in_parts, read_rest, read_typed, read_typed_if_some, members_of, read_after_exception, read_body, typed_if_some, request_body, result_body, reply_body, locate_body, is_request, body_of, has_aligned_body, read_padding_and_body, read_after_header, read_header_and_rest, read_message, body_may_be_missing, lines_of_close, message_lines, stage_of}
use Rattle.giop_message.specs.ReaderOfTable.{line_class_of, text_of, timed_lines_by, lines_of_close_by, message_reader}

-- an operation with its two structs, counted from the first type after the built-in ones
called : List ℕ → ℕ → ℕ → Operation
called name request reply = record {
  key = operation_key 0 name;
  request = length builtin_types + request;
  reply = length builtin_types + reply;
}

-- exception Late "IDL:Late:1.0" { ushort by; };
-- operation long ask(in long a, out octet b); operation void nop();
-- operation void say(in string s); operation void raw(in sequence<octet> o);
-- operation void set(in long v); operation void put(in double d);
late : Exception
late = record { repository = codes "IDL:Late:1.0"; members = length builtin_types }

table : Table
unfolding called late
table = record {
  version = 1;
  types = builtin_types
      ++ members (member (codes "by") 4 ∷ [])
      ∷ members (member (codes "a") 5 ∷ [])
      ∷ members (member (codes "return") 5 ∷ member (codes "b") 0 ∷ [])
      ∷ members []
      ∷ members (member (codes "s") 11 ∷ [])
      ∷ members (member (codes "o") 12 ∷ [])
      ∷ members (member (codes "v") 5 ∷ [])
      ∷ members (member (codes "d") 10 ∷ [])
      ∷ [];
  operations = called (codes "ask") 1 2 ∷ called (codes "nop") 3 3 ∷ called (codes "say") 4 3 ∷
      called (codes "raw") 5 3
      ∷ called (codes "set") 6 3 ∷ called (codes "put") 7 3 ∷ [];
  exceptions = late ∷ [];
  declared = 0;
  called = 6;
  interfaces = no_interfaces;
  identities = [];
  fronts = first_fronts;
  forbids_wide = false;
}

-- the table of the request list `1 ask, 1 ask, 2 nop, 2 ask`
request_table : RequestTable
request_table = (1, Some (op_id 0)) ∷ (2, None) ∷ []

r : MessageReader
unfolding table request_table
r = message_reader table (by_list request_table)

says : ℕ → List ℕ → TimedLine
says at text = record { at = at; line_class = Value; text = text }

-- a name for the list of the definitions that the rows unfold
rows : ℕ
unfolding digits num twos_complement padding block number path_text hex hex_number escaped tree_at
    builtin_types minor kind order value_line_text call_text rest_text signatures_of
    line_at is_graphic_name call_line_if_named call_lines_after section_lines with_front
    section_then read_rest_in_parts read_rest read_typed
    read_typed_if_some members_of read_after_exception read_body typed_if_some request_body
    result_body reply_body
    locate_body is_request body_of has_aligned_body read_padding_and_body read_after_header
    read_header_and_rest read_message
    body_may_be_missing lines_of_close message_lines stage_of line_class_of text_of timed_lines_by
    lines_of_close_by
    called late table request_table r says longest_front
rows = 0

-- the 12 octets of a header with this minor version and this type
head : ℕ → ℕ → List ℕ
head minor kind = 71 ∷ 73 ∷ 79 ∷ 80 ∷ 1 ∷ minor ∷ 0 ∷ kind ∷ 0 ∷ 0 ∷ 0 ∷ 0 ∷ []

-- the 32 octets of a Request's header; the operation has three letters
h : List ℕ → List ℕ
h operation = (0 ∷ 0 ∷ 0 ∷ 1 ∷ 3 ∷ 0 ∷ 0 ∷ 0 ∷ 0 ∷ 0 ∷ 0 ∷ 0 ∷ 0 ∷ 0 ∷ 0 ∷ 1 ∷ 65 ∷ 0 ∷ 0 ∷ 0 ∷ 0 ∷
    0 ∷ 0 ∷ 4 ∷ []) ++ (operation ++ (0 ∷ 0 ∷ 0 ∷ 0 ∷ 0 ∷ []))

-- the ten lines of such a header
t : List ℕ → List ℕ → List TimedLine
unfolding says
t said called =
    says 4 (codes "header.request_id ulong 1")
    ∷ says 5 (codes "header.response_flags octet 3")
    ∷ says 6 (codes "header.reserved[0] octet 0")
    ∷ says 7 (codes "header.reserved[1] octet 0")
    ∷ says 8 (codes "header.reserved[2] octet 0")
    ∷ says 10 (codes "header.target.switch short 0")
    ∷ says 17 (codes "header.target.object_key octets @0 41")
    ∷ says 28 said
    ∷ record { at = 28; line_class = Call; text = called }
    ∷ says 32 (codes "header.service_contexts count 0") ∷ []

t_nop : List TimedLine
unfolding t
t_nop = t (codes "header.operation string @0 \"nop\"") (codes "call 1 nop")

t_say : List TimedLine
unfolding t
t_say = t (codes "header.operation string @0 \"say\"") (codes "call 1 say")

t_raw : List TimedLine
unfolding t
t_raw = t (codes "header.operation string @0 \"raw\"") (codes "call 1 raw")

ended : List (LineClass × List ℕ)
ended = (End, codes "end") ∷ []

short : List (LineClass × List ℕ)
short = (Fault, codes "short") ∷ []

-- the lines of a message's octets, and those of its close, with padding counted by this phase
abbrev HasLinesByPhase : (phase : Phase) (header octets : List ℕ) (reads : List TimedLine)
    (closes : List (LineClass × List ℕ)) → Type 0
HasLinesByPhase phase header s reads closes =
    (r.reads phase 1 header s ≡ reads) × (r.closes phase 1 header s ≡ closes)

-- the same for a message in one piece
abbrev Row : List ℕ → List ℕ → (timed_lines : List TimedLine) → List (LineClass × List ℕ) → Type 0
Row = HasLinesByPhase unbroken

-- A Request without parameters. The message ends at the header's end, within the padding, or at the
-- padding's end; or a rest of two octets follows.
record NoBody (octets : List ℕ) : Type 0 where
  at_header : Row (head 2 0) octets t_nop ended
  within : Row (head 2 0) (octets ++ 0 ∷ 0 ∷ []) t_nop ended
  padded : Row (head 2 0) (octets ++ 0 ∷ 0 ∷ 0 ∷ 0 ∷ []) t_nop ended
  rest : Row (head 2 0) (octets ++ 0 ∷ 0 ∷ 0 ∷ 0 ∷ 171 ∷ 205 ∷ []) t_nop
      ((Rest, codes "rest @0 abcd") ∷ ended)

no_body : NoBody (h (codes "nop"))
unfolding rows head h t_nop t_say t_raw ended short
no_body = record {
  at_header = (refl, refl);
  within = (refl, refl);
  padded = (refl, refl);
  rest =
      (refl, refl);
}

-- A body that is missing is short: at the header's end, within the padding, and at the padding's
-- end.
record MissingBody (octets : List ℕ) : Type 0 where
  at_header : Row (head 2 0) octets t_say short
  within : Row (head 2 0) (octets ++ 0 ∷ 0 ∷ []) t_say short
  padded : Row (head 2 0) (octets ++ 0 ∷ 0 ∷ 0 ∷ 0 ∷ []) t_say short

missing_body : MissingBody (h (codes "say"))
unfolding rows head h t_nop t_say t_raw ended short
missing_body = record { at_header = (refl, refl); within = (refl, refl); padded = (refl, refl) }

-- a string of 6 octets; 4 of them have come
cut_string : Row (head 2 0)
    (h (codes "say") ++ 0 ∷ 0 ∷ 0 ∷ 0 ∷ 0 ∷ 0 ∷ 0 ∷ 6 ∷ 97 ∷ 98 ∷ 99 ∷ 100 ∷ []) t_say short
unfolding rows head h t_nop t_say t_raw ended short
cut_string = (refl, refl)

-- the end of a string is wrong, and nothing is read after it
wrong_end : Row (head 2 0) (h (codes "say") ++ 0 ∷ 0 ∷ 0 ∷ 0 ∷ 0 ∷ 0 ∷ 0 ∷ 2 ∷ 97 ∷ 98 ∷ 9 ∷ 9 ∷ [])
    (t_say ++ record { at = 42; line_class = Fault; text = codes "string-end" } ∷ []) ended
unfolding rows head h t_nop t_say t_raw ended short
wrong_end = (refl, refl)

-- a rest of 32 octets after an empty octet sequence
rest_of_32 : Row (head 2 0) (h (codes "raw") ++ 0 ∷ 0 ∷ 0 ∷ 0 ∷ 0 ∷ 0 ∷ 0 ∷ 0 ∷ replicate 32 17)
    (t_raw ++ says 40 (codes "body.o octets @0") ∷ record {
      at = 72;
      line_class = Rest;
      text = codes
          "rest @0 1111111111111111111111111111111111111111111111111111111111111111";
    } ∷ []) ended
unfolding rows head h t_nop t_say t_raw ended short
rest_of_32 = (refl, refl)

-- In 1.0, a body follows its header at once, here at the offset 44.
body_of_1_0 : Row (head 0 0)
    (0 ∷ 0 ∷ 0 ∷ 0 ∷ 0 ∷ 0 ∷ 0 ∷ 7 ∷ 1 ∷ 0 ∷ 0 ∷ 0 ∷ 0 ∷ 0 ∷ 0 ∷ 2 ∷ 107 ∷ 49 ∷ 0 ∷ 0 ∷ 0 ∷ 0 ∷ 0
    ∷ 4 ∷ 115 ∷ 101 ∷ 116 ∷ 0 ∷ 0 ∷ 0 ∷ 0 ∷ 0 ∷ 255 ∷ 255 ∷ 255 ∷ 251 ∷ [])
    (says 4 (codes "header.service_contexts count 0") ∷ says 8 (codes "header.request_id ulong 7")
    ∷ says 9 (codes "header.response_expected boolean true")
    ∷ says 18 (codes "header.object_key octets @0 6b31")
    ∷ says 28 (codes "header.operation string @0 \"set\"")
    ∷ record { at = 28; line_class = Call; text = codes "call 7 set" }
    ∷ says 32 (codes "header.requesting_principal octets @0")
    ∷ says 36 (codes "body.v long -5") ∷ []) ended
unfolding rows head h t_nop t_say t_raw ended short
body_of_1_0 = (refl, refl)

-- the 32 octets of a Request's header in 1.1, and its lines
put_11 : List ℕ
put_11 = 0 ∷ 0 ∷ 0 ∷ 0 ∷ 0 ∷ 0 ∷ 0 ∷ 1 ∷ 1 ∷ 0 ∷ 0 ∷ 0 ∷ 0 ∷ 0 ∷ 0 ∷ 1 ∷ 65 ∷ 0 ∷ 0 ∷ 0 ∷ 0 ∷ 0 ∷ 0
    ∷ 4 ∷ 112 ∷ 117 ∷ 116 ∷ 0 ∷ 0 ∷ 0 ∷ 0 ∷ 0 ∷ []

t_put : List TimedLine
t_put = says 4 (codes "header.service_contexts count 0") ∷ says 8 (codes "header.request_id ulong 1")
    ∷ says 9 (codes "header.response_expected boolean true")
    ∷ says 10 (codes "header.reserved[0] octet 0") ∷ says 11 (codes "header.reserved[1] octet 0")
    ∷ says 12 (codes "header.reserved[2] octet 0") ∷ says 17 (codes "header.object_key octets @0 41")
    ∷ says 28 (codes "header.operation string @0 \"put\"")
    ∷ record { at = 28; line_class = Call; text = codes "call 1 put" }
    ∷ says 32 (codes "header.requesting_principal octets @0") ∷ []

-- A Fragment of 1.1 begins in the middle of a number: the number has its octets on both sides.
seam_in_number : HasLinesByPhase (seamed unbroken 52) (head 1 0)
    (put_11 ++ 0 ∷ 0 ∷ 0 ∷ 0 ∷ 63 ∷ 248 ∷ 0 ∷ 0 ∷ 0 ∷ 0 ∷ 0 ∷ 0 ∷ [])
    (t_put ++ says 44 (codes "body.d double 3ff8000000000000") ∷ []) ended
unfolding rows head h put_11 t_put ended short
seam_in_number = (refl, refl)

-- One begins in the padding of a number, at an offset at which the number would be aligned: padding
-- goes on to the next multiple of 8, counted by the Fragment.
seam_in_padding : HasLinesByPhase (seamed unbroken 48) (head 1 0)
    (put_11 ++ 0 ∷ 0 ∷ 0 ∷ 0 ∷ 255 ∷ 255 ∷ 255 ∷ 255 ∷ 63 ∷ 248 ∷ 0 ∷ 0 ∷ 0 ∷ 0 ∷ 0 ∷ 0 ∷ [])
    (t_put ++ says 48 (codes "body.d double 3ff8000000000000") ∷ []) ended
unfolding rows head h put_11 t_put ended short
seam_in_padding = (refl, refl)

-- In 1.2, a body begins at the next multiple of 8, here in a little-endian Request.
body_of_1_2 : Row (71 ∷ 73 ∷ 79 ∷ 80 ∷ 1 ∷ 2 ∷ 1 ∷ 0 ∷ 44 ∷ 0 ∷ 0 ∷ 0 ∷ [])
    (1 ∷ 0 ∷ 0 ∷ 0 ∷ 3 ∷ 0 ∷ 0 ∷ 0 ∷ 0 ∷ 0 ∷ 0 ∷ 0 ∷ 1 ∷ 0 ∷ 0 ∷ 0 ∷ 65 ∷ 0 ∷ 0 ∷ 0 ∷ 4 ∷ 0 ∷ 0 ∷ 0
    ∷ 112 ∷ 117 ∷ 116 ∷ 0 ∷ 0 ∷ 0 ∷ 0 ∷ 0 ∷ 0 ∷ 0 ∷ 0 ∷ 0 ∷ 0 ∷ 0 ∷ 0 ∷ 0 ∷ 0 ∷ 0 ∷ 248 ∷ 63 ∷ [])
    (says 4 (codes "header.request_id ulong 1") ∷ says 5 (codes "header.response_flags octet 3")
    ∷ says 6 (codes "header.reserved[0] octet 0") ∷ says 7 (codes "header.reserved[1] octet 0")
    ∷ says 8 (codes "header.reserved[2] octet 0") ∷ says 10 (codes "header.target.switch short 0")
    ∷ says 17 (codes "header.target.object_key octets @0 41")
    ∷ says 28 (codes "header.operation string @0 \"put\"")
    ∷ record { at = 28; line_class = Call; text = codes "call 1 put" }
    ∷ says 32 (codes "header.service_contexts count 0")
    ∷ says 44 (codes "body.d double 3ff8000000000000") ∷ []) ended
unfolding rows head h t_nop t_say t_raw ended short
body_of_1_2 = (refl, refl)

-- A Reply has the results of the operation that the request list gives for its id.
reply : Row (head 0 1) (0 ∷ 0 ∷ 0 ∷ 0 ∷ 0 ∷ 0 ∷ 0 ∷ 1 ∷ 0 ∷ 0 ∷ 0 ∷ 0 ∷ 0 ∷ 0 ∷ 0 ∷ 42 ∷ 9 ∷ [])
    (says 4 (codes "header.service_contexts count 0") ∷ says 8 (codes "header.request_id ulong 1")
    ∷ says 12 (codes "header.reply_status enum NO_EXCEPTION")
    ∷ says 16 (codes "body.return long 42") ∷ says 17 (codes "body.b octet 9") ∷ []) ended
unfolding rows head h t_nop t_say t_raw ended short
reply = (refl, refl)

-- If the list has two different operations for the id, it gives none.
reply_of_two : Row (head 0 1)
    (0 ∷ 0 ∷ 0 ∷ 0 ∷ 0 ∷ 0 ∷ 0 ∷ 2 ∷ 0 ∷ 0 ∷ 0 ∷ 0 ∷ 0 ∷ 0 ∷ 0 ∷ 42 ∷ 9 ∷ [])
    (says 4 (codes "header.service_contexts count 0") ∷ says 8 (codes "header.request_id ulong 2")
    ∷ says 12 (codes "header.reply_status enum NO_EXCEPTION") ∷ [])
    ((Rest, codes "rest @0 0000002a09") ∷ ended)
unfolding rows head h t_nop t_say t_raw ended short
reply_of_two = (refl, refl)

-- An exception has its members after its repository id, at their alignment.
raised : Row (head 0 1)
    (0 ∷ 0 ∷ 0 ∷ 0 ∷ 0 ∷ 0 ∷ 0 ∷ 1 ∷ 0 ∷ 0 ∷ 0 ∷ 1 ∷ 0 ∷ 0 ∷ 0 ∷ 13 ∷ 73 ∷ 68 ∷ 76 ∷ 58 ∷ 76 ∷ 97
    ∷ 116 ∷ 101 ∷ 58 ∷ 49 ∷ 46 ∷ 48 ∷ 0 ∷ 0 ∷ 0 ∷ 3 ∷ [])
    (says 4 (codes "header.service_contexts count 0") ∷ says 8 (codes "header.request_id ulong 1")
    ∷ says 12 (codes "header.reply_status enum USER_EXCEPTION")
    ∷ says 29 (codes "exception string @0 \"IDL:Late:1.0\"")
    ∷ says 32 (codes "body.by ushort 3") ∷ []) ended
unfolding rows head h t_nop t_say t_raw ended short
raised = (refl, refl)

-- If the repository id isn't known, a rest comes after it.
raised_unknown : Row (head 0 1)
    (0 ∷ 0 ∷ 0 ∷ 0 ∷ 0 ∷ 0 ∷ 0 ∷ 1 ∷ 0 ∷ 0 ∷ 0 ∷ 1 ∷ 0 ∷ 0 ∷ 0 ∷ 13 ∷ 73 ∷ 68 ∷ 76 ∷ 58 ∷ 76 ∷ 111
    ∷ 115 ∷ 116 ∷ 58 ∷ 49 ∷ 46 ∷ 48 ∷ 0 ∷ 0 ∷ 0 ∷ 3 ∷ [])
    (says 4 (codes "header.service_contexts count 0") ∷ says 8 (codes "header.request_id ulong 1")
    ∷ says 12 (codes "header.reply_status enum USER_EXCEPTION")
    ∷ says 29 (codes "exception string @0 \"IDL:Lost:1.0\"") ∷ [])
    ((Rest, codes "rest @0 000003") ∷ ended)
unfolding rows head h t_nop t_say t_raw ended short
raised_unknown = (refl, refl)

-- a system exception
system_exception : Row (head 0 1)
    (0 ∷ 0 ∷ 0 ∷ 0 ∷ 0 ∷ 0 ∷ 0 ∷ 1 ∷ 0 ∷ 0 ∷ 0 ∷ 2 ∷ 0 ∷ 0 ∷ 0 ∷ 30 ∷ 73 ∷ 68 ∷ 76 ∷ 58 ∷ 111 ∷ 109
    ∷ 103 ∷ 46 ∷ 111 ∷ 114 ∷ 103 ∷ 47 ∷ 67 ∷ 79 ∷ 82 ∷ 66 ∷ 65 ∷ 47 ∷ 85 ∷ 78 ∷ 75 ∷ 78 ∷ 79 ∷ 87
    ∷ 78 ∷ 58 ∷ 49 ∷ 46 ∷ 48 ∷ 0 ∷ 0 ∷ 0 ∷ 0 ∷ 0 ∷ 0 ∷ 0 ∷ 0 ∷ 0 ∷ 0 ∷ 1 ∷ [])
    (says 4 (codes "header.service_contexts count 0") ∷ says 8 (codes "header.request_id ulong 1")
    ∷ says 12 (codes "header.reply_status enum SYSTEM_EXCEPTION")
    ∷ says 46 (codes "body.exception_id string @0 \"IDL:omg.org/CORBA/UNKNOWN:1.0\"")
    ∷ says 52 (codes "body.minor ulong 0")
    ∷ says 56 (codes "body.completed enum COMPLETED_NO") ∷ []) ended
unfolding rows head h t_nop t_say t_raw ended short
system_exception = (refl, refl)

-- an addressing disposition, at the end of a header that needs no padding
addressing : Row (head 2 1) (0 ∷ 0 ∷ 0 ∷ 1 ∷ 0 ∷ 0 ∷ 0 ∷ 5 ∷ 0 ∷ 0 ∷ 0 ∷ 0 ∷ 0 ∷ 2 ∷ [])
    (says 4 (codes "header.request_id ulong 1")
    ∷ says 8 (codes "header.reply_status enum NEEDS_ADDRESSING_MODE")
    ∷ says 12 (codes "header.service_contexts count 0") ∷ says 14 (codes "body short 2")
    ∷ []) ended
unfolding rows head h t_nop t_say t_raw ended short
addressing = (refl, refl)

-- a status without a name
no_status : Row (head 0 1) (0 ∷ 0 ∷ 0 ∷ 0 ∷ 0 ∷ 0 ∷ 0 ∷ 1 ∷ 0 ∷ 0 ∷ 0 ∷ 4 ∷ [])
    (says 4 (codes "header.service_contexts count 0") ∷ says 8 (codes "header.request_id ulong 1")
    ∷ record { at = 12; line_class = Fault; text = codes "enum" } ∷ []) ended
unfolding rows head h t_nop t_say t_raw ended short
no_status = (refl, refl)

-- A LocateRequest by its profile, and a LocateRequest whose addressing disposition has no name.
located : Row (head 2 3)
    (0 ∷ 0 ∷ 0 ∷ 1 ∷ 0 ∷ 1 ∷ 0 ∷ 0 ∷ 0 ∷ 0 ∷ 0 ∷ 9 ∷ 0 ∷ 0 ∷ 0 ∷ 2 ∷ 171 ∷ 205 ∷ [])
    (says 4 (codes "header.request_id ulong 1") ∷ says 6 (codes "header.target.switch short 1")
    ∷ says 12 (codes "header.target.profile.tag ulong 9")
    ∷ says 18 (codes "header.target.profile.profile_data octets @0 abcd") ∷ []) ended
unfolding rows head h t_nop t_say t_raw ended short
located = (refl, refl)

not_located : Row (head 2 3) (0 ∷ 0 ∷ 0 ∷ 1 ∷ 0 ∷ 3 ∷ [])
    (says 4 (codes "header.request_id ulong 1")
    ∷ record { at = 6; line_class = Fault; text = codes "disposition" } ∷ []) ended
unfolding rows head h t_nop t_say t_raw ended short
not_located = (refl, refl)

-- a message without a header type
no_header : Row (head 0 5) [] [] ended
unfolding rows head h t_nop t_say t_raw ended short
no_header = (refl, refl)

-- ---- the operation is the last string of a Request's header, and the status is the only enum of a
-- Reply's header

any_below : ℕ → (ℕ → Bool) → Bool
any_below zero test = false
any_below (suc n) test = any_below n test || test n

-- whether a type has such a type in it
has_type : (Ty → Bool) → Ty → Bool
unfolding any_below
has_type test (Struct count names parts) = any_below count (λ i. has_type test (parts i))
has_type test (Union choice scalar select names cases) =
    test (Single scalar) || any_below (case_count choice) (λ i. has_type test (cases i))
has_type test (Encapsulation T) = has_type test T
has_type test (Sequence bound T) = has_type test T
has_type test (Array count T) = has_type test T
has_type test T = test T

is_enum : Ty → Bool
is_enum (Single (Enum count names)) = true
is_enum T = false

-- whether a part of a struct after the part `k` has such a type in it
behind : (Ty → Bool) → ℕ → Ty → Bool
unfolding any_below has_type
behind test k (Struct count names parts) =
    any_below count (λ i. nat_lt k i && has_type test (parts i))
behind test k T = true

-- the part `k` has this name and is of such a type, and no part after it has such a type in it
record IsLast (test : Ty → Bool) (name : List ℕ) (k : ℕ) (T : Ty) : Type 0 where
  named : name_in T k ≡ name
  such : test (part_of T k) ≡ true
  none : behind test k T ≡ false

last_strings : IfSome (header_type 1 0 0) (IsLast is_text (codes "operation") 4)
    × IfSome (header_type 1 1 0) (IsLast is_text (codes "operation") 5)
    × IfSome (header_type 1 2 0) (IsLast is_text (codes "operation") 4)
unfolding rows behind any_below has_type
last_strings = (
  record { named = refl; such = refl; none = refl },
  record { named = refl; such = refl; none = refl },
  record { named = refl; such = refl; none = refl },
)

last_enums : IfSome (header_type 1 0 1) (IsLast is_enum (codes "reply_status") 2)
    × IfSome (header_type 1 1 1) (IsLast is_enum (codes "reply_status") 2)
    × IfSome (header_type 1 2 1) (IsLast is_enum (codes "reply_status") 1)
unfolding rows behind any_below has_type is_enum
last_enums = (
  record { named = refl; such = refl; none = refl },
  record { named = refl; such = refl; none = refl },
  record { named = refl; such = refl; none = refl },
)
