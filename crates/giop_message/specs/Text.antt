-- The text of a message's lines, without the message's number and with it (docs/FORMATS.md, Lines;
-- meaning).
use Rattle.std.specs.Prelude.{ℕ, Option, Some, None, List, [], ◌∷◌, codes, decimal, flat_map}
use Rattle.giop_print.specs.Text.{joined, hex}
use Rattle.giop_print.specs.Lines.{fault_line}
use Rattle.giop_decode.specs.ReadResult as spine
use Rattle.giop_decode.specs.Spelling.{value_words}
use Rattle.giop_decode.specs.declared.progress.ValueFault.{ValueFault}
use Rattle.giop_decode.specs.declared.progress.ValueFault.TheVariants as kinds
use Rattle.giop_message.specs.MessageReader.{LineClass, Value, Call, Rest, Fault, End, TimedLine}

-- ---- lines without the number

-- the line of the value at a path
unfoldable pub value_line_text : (path : List ℕ) (value : spine.Value) → List ℕ
value_line_text path value = joined (path ∷ value_words value)

-- the line of a call, with the interface of the object key if there is one
unfoldable pub call_text : (request_id : ℕ) (operation_name : List ℕ)
    (interface : Option (List ℕ)) → List ℕ
call_text id operation None = joined (codes "call " ∷ decimal id ∷ codes " " ∷ operation ∷ [])
call_text id operation (Some interface) =
    joined (codes "call " ∷ decimal id ∷ codes " " ∷ operation ∷ codes " " ∷ interface ∷ [])

unfoldable pub rest_text : (offset_in_rest : ℕ) (octets_of_rest : List ℕ) → List ℕ
rest_text offset octets = joined (codes "rest @" ∷ decimal offset ∷ codes " " ∷ hex octets ∷ [])

-- the word of a fault
abbrev pub fault_word : (fault : ValueFault) → List ℕ
fault_word kinds.Boolean = codes "boolean"
fault_word kinds.StringEnd = codes "string-end"
fault_word kinds.Enum = codes "enum"
fault_word kinds.Bound = codes "bound"
fault_word kinds.Disposition = codes "disposition"
fault_word kinds.EncapShort = codes "encap-short"
fault_word kinds.EncapOrder = codes "encap-order"
fault_word kinds.Untyped = codes "untyped"

-- ---- whole lines

-- a whole line of the message
unfoldable pub numbered_line : (message_number : ℕ) (text_after_number : List ℕ) → List ℕ
numbered_line number text = joined (codes "m" ∷ decimal number ∷ codes " " ∷ text ∷ codes "\n" ∷ [])

-- the whole line of a message: after its number stands the text, whatever the line's class; but
-- the text of a fault is its word, and the place in the stream stands behind it
abbrev pub line_class_text : (place_in_stream message_number : ℕ) (class : LineClass)
    (text_after_number : List ℕ) → List ℕ
line_class_text place number Value text = numbered_line number text
line_class_text place number Call text = numbered_line number text
line_class_text place number Rest text = numbered_line number text
line_class_text place number Fault text = fault_line number text place
line_class_text place number End text = numbered_line number text

-- the whole lines of a message that come at one place in the stream
unfoldable pub numbered_lines : (place_in_stream message_number : ℕ)
    (timed_lines : List TimedLine) → List ℕ
numbered_lines place number timed_lines =
    flat_map (λ r. line_class_text place number r.line_class r.text) timed_lines
