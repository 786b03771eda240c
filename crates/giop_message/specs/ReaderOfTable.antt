-- The reading of one message as the stream takes it, for the table of a catalogue and the
-- operations that the ids of each message answer; and the message's request id (meaning).
use Rattle.std.specs.Prelude.{◌≡◌, ℕ, suc, ◌-◌, ◌==◌, Bool, true, false, cond, List, [], ◌∷◌, ◌++◌, length, map, Option, Some, None, codes, IfSome}
use Rattle.std.specs.List.{filter}
use Rattle.giop_cdr.specs.declared.prim.Primitive.TheVariants as prims
use Rattle.giop_print.specs.declared.path.Root.TheVariants as roots
use Rattle.giop_decode.specs.ReadResult.{Number}
use Rattle.giop_decode.specs.Spelling.{path_text}
use Rattle.giop_decode.specs.Noted.{is_member}
use Rattle.giop_sig.specs.Types.{Plain}
use Rattle.giop_sig.specs.Table.{Table}
use Rattle.giop_sig.specs.HeaderTypes.{BeginsWithId}
use Rattle.giop_message.specs.Headers.{minor, kind, begins_with_request_id}
use Rattle.giop_message.specs.Phases.{Phase}
use Rattle.giop_message.specs.MessageReader.{LineClass, Value, Call, Rest, Fault, End, TimedLine, MessageReader}
use Rattle.giop_message.specs.Text.{value_line_text, call_text, rest_text, fault_word}
use Rattle.giop_message.specs.Signatures.{Signatures, Answers, signatures_of}
use Rattle.giop_message.specs.Messages.{MessageLine, ValueLine, CallLine, RestLine, FaultLine, ShortLine, EndLine, LineAt, Stage, Over, read_message, message_lines, stage_of, lines_of_close}

unfoldable pub line_class_of : (line : MessageLine) → LineClass
line_class_of (ValueLine root path v) = Value
line_class_of (CallLine id operation interface) = Call
line_class_of (RestLine offset octets) = Rest
line_class_of (FaultLine why) = Fault
line_class_of ShortLine = Fault
line_class_of EndLine = End

-- the text of a line without the message's number; the text of a fault is its word
unfoldable pub text_of : (line_without_message_number : MessageLine) → List ℕ
text_of (ValueLine root path v) = value_line_text (path_text root path) v
text_of (CallLine id operation interface) = call_text id operation interface
text_of (RestLine offset octets) = rest_text offset octets
text_of (FaultLine why) = fault_word why
text_of ShortLine = codes "short"
text_of EndLine = codes "end"

-- Offsets are counted from the front of the message; a reader counts octets from 1 after the
-- header.
abbrev pub timed_line_of : (line : LineAt) → TimedLine
timed_line_of t = record {
  at = t.at - 12;
  line_class = line_class_of t.message_line;
  text =
      text_of t.message_line;
}

abbrev pub class_and_text : (line : MessageLine) → LineClass × List ℕ
class_and_text s = (line_class_of s, text_of s)

-- the lines of a message with this header, from what the message has said
unfoldable pub timed_lines_by : (S : Signatures) (header octets_after_header : List ℕ) →
    List TimedLine
timed_lines_by S header octets = map timed_line_of (message_lines (read_message S header octets))

unfoldable pub lines_of_close_by : (S : Signatures) (header octets_after_header : List ℕ) →
    List (LineClass × List ℕ)
lines_of_close_by S header octets = map class_and_text (lines_of_close (stage_of
    (read_message S header octets)))

-- the reader of messages, if each message is read by the signatures for its phase and number
abbrev pub reader_by : (signatures_for : (phase : Phase) (message_number : ℕ) → Signatures) →
    MessageReader
reader_by S = record {
  reads = λ phase number. timed_lines_by (S phase number);
  closes = λ phase number. lines_of_close_by (S phase number);
}

-- the lines that one more octet adds
abbrev pub next_lines_by : (S : Signatures) (header octets_before : List ℕ) (next_octet : ℕ) →
    List TimedLine
next_lines_by S header octets octet =
    filter (λ r. r.at == suc (length octets)) (timed_lines_by S header (octets ++ octet ∷ []))

-- the reader of messages for this table and for what the ids of each message answer
abbrev pub message_reader : (C : Table) (answers : Answers) → MessageReader
message_reader C answers = reader_by (λ phase number. signatures_of C (answers number) phase)

-- If the stream finds messages by their request ids, the headers of these messages begin with the
-- ids.
pub record HeadersBeginWithIds (S : Signatures) : Type 0 where
  pub begins : (header : List ℕ) → begins_with_request_id header ≡ true →
      IfSome (S.header (minor header) (kind header)) BeginsWithId

-- the request id that a line shows
unfoldable pub request_id_in : (line : MessageLine) → Option ℕ
request_id_in (ValueLine roots.Header path (Number (Plain prims.ULong) n)) =
    cond (is_member (codes "request_id") path) (Some n) None
request_id_in message_line = None

unfoldable pub first_some : (first_id later_id : Option ℕ) → Option ℕ
first_some (Some id) later = Some id
first_some None later = later

-- the first request id in these lines
unfoldable pub first_request_id : (lines : List LineAt) → Option ℕ
first_request_id [] = None
first_request_id (t ∷ ts) = first_some (request_id_in t.message_line) (first_request_id ts)

unfoldable pub is_over : (stage : Stage) → Bool
is_over Over = true
is_over stage = false

unfoldable pub is_fault_line : (line : LineAt) → Bool
is_fault_line t = is_fault (line_class_of t.message_line)
  where
    is_fault : LineClass → Bool
    is_fault Fault = true
    is_fault line_class = false
