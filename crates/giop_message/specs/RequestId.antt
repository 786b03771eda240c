-- The line of a request id with which the header of a message begins (docs/FORMATS.md, Lines;
-- meaning).
use Rattle.std.specs.Prelude.{ℕ, List, [], ◌∷◌, codes}
use Rattle.giop_cdr.specs.declared.prim.Primitive.TheVariants as prims
use Rattle.giop_print.specs.declared.path.Root.TheVariants as roots
use Rattle.giop_sig.specs.Types.{Plain}
use Rattle.giop_decode.specs.ReadResult.{Number, Name}
use Rattle.giop_decode.specs.Spelling.{path_text}
use Rattle.giop_message.specs.MessageReader.{Value, TimedLine}
use Rattle.giop_message.specs.Text.{value_line_text}

-- the path of the request id
unfoldable pub request_id_path : List ℕ
request_id_path = path_text roots.Header (Name (codes "request_id") ∷ [])

-- the text of the line without the message's number
unfoldable pub request_id_text : (request_id : ℕ) → List ℕ
request_id_text id = value_line_text request_id_path (Number (Plain prims.ULong) id)

-- the line; the fourth octet completes it
abbrev pub request_id_timed_line : (request_id : ℕ) → TimedLine
request_id_timed_line id = record { at = 4; line_class = Value; text = request_id_text id }
