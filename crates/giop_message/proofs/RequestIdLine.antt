-- What the first four octets add to a message whose header begins with its request id: the line of
-- the id, and no other line.
use Rattle.std.proofs.Common.{arith, ◌≡◌, ℕ, ◌%◌, ◌<◌, List, [], ◌∷◌, length, map, Some}
use Rattle.giop_cdr.specs.Numbers.{num}
use Rattle.giop_cdr.specs.declared.number.Number.TheVariants.{Unsigned}
use Rattle.giop_cdr.specs.declared.prim.Primitive.TheVariants as prims
use Rattle.giop_print.specs.Lines.{kind_line, value_line}
use Rattle.giop_print.specs.declared.value.Value.TheVariants as values
use Rattle.giop_sig.specs.Types.{Ty}
use Rattle.giop_sig.specs.HeaderTypes.{BeginsWithId}
use Rattle.giop_message.specs.Phases.{Phase}
use Rattle.giop_message.specs.Headers.{minor, kind, order}
use Rattle.giop_message.specs.Text.{value_line_text, numbered_line}
use Rattle.giop_message.specs.Signatures.{Signatures}
use Rattle.giop_message.specs.Messages.{line_at, read_header_and_rest, read_message, message_lines}
use Rattle.giop_message.specs.ReaderOfTable.{timed_line_of, line_class_of, text_of, timed_lines_by, reader_by}
use Rattle.giop_message.specs.RequestId.{request_id_path, request_id_text, request_id_timed_line}
use Rattle.giop_message.proofs.Named.{id_line_of, few_by, four_by}
use Rattle.giop_message.proofs.Spelling.{said_is_line}

module _ (S : Phase → ℕ → Signatures) (phase : Phase) (number : ℕ)
    (even : (S phase number).phase 12 % 4 ≡ 0) (header : List ℕ) (T : Ty)
    (found : (S phase number).header (minor header) (kind header) ≡ Some T)
    (begins : BeginsWithId T)
  where
    reading_is : (xs : List ℕ) → (reader_by S).reads phase number header xs
        ≡ map timed_line_of (message_lines (read_header_and_rest (S phase number) header
        (Some T) 12 xs))
    unfolding timed_lines_by read_message
    reading_is xs = search (arith, map)

    -- fewer than four octets add no line
    pub few_said : (xs : List ℕ) → length xs < 4 → (reader_by S).reads phase number header xs ≡ []
    few_said xs few = search (arith, reading_is, map, few_by)

    -- four octets add the line of the number that they spell
    pub four_said : (a b c d : ℕ) → (reader_by S).reads phase number header (a ∷ b ∷ c ∷ d ∷ [])
        ≡ request_id_timed_line (num (order header) (a ∷ b ∷ c ∷ d ∷ [])) ∷ []
    unfolding id_line_of line_at line_class_of text_of value_line_text request_id_path
        request_id_text
    four_said a b c d = search (arith, reading_is, map, four_by)

-- The line is the same as the printed line of an unsigned long at that path.
pub id_line_is : (number id : ℕ) → numbered_line number (request_id_text id)
    ≡ value_line number request_id_path (values.Primitive prims.ULong (Unsigned id))
unfolding request_id_path request_id_text text_of kind_line
id_line_is number id = search (arith, said_is_line)
