-- The lines of a reading, with the message's number, are the lines that the printing functions
-- write.
use Rattle.std.proofs.Common.{None, Some, Option, arith, ◌≡◌, ℕ, List, [], ◌∷◌, ◌++◌, refl, append_assoc}
use Rattle.std.specs.Prelude.{codes, decimal}
use Rattle.giop_print.specs.Text.{joined}
use Rattle.giop_print.specs.Lines.{call_line, interface_call_line, rest_line, end_line}
use Rattle.giop_print.specs.declared.path.Root.{Root}
use Rattle.giop_decode.specs.ReadResult.{PathSegment, Value, line}
use Rattle.giop_decode.specs.Spelling.{line_text}
use Rattle.giop_message.specs.Text.{value_line_text, call_text, rest_text, numbered_line}
use Rattle.giop_message.specs.Messages.{ValueLine}
use Rattle.giop_message.specs.ReaderOfTable.{text_of}
use Rattle.giop_message.specs.MessageSteps.{call_line_with}

-- two lists of pieces, joined one after the other
joined_both : (xs ys : List (List ℕ)) → joined (xs ++ ys) ≡ joined xs ++ joined ys
joined_both [] ys = refl
joined_both (x ∷ xs) ys = search (arith, append_assoc, joined_both xs ys)

-- the line whose text is these pieces
said_joined : (number : ℕ) (xs : List (List ℕ)) → numbered_line number (joined xs)
    ≡ joined (codes "m" ∷ decimal number ∷ codes " " ∷ (xs ++ codes "\n" ∷ []))
unfolding numbered_line
said_joined number xs = search (arith, joined_both)

pub said_is_line : (number at : ℕ) (root : Root) (path : List PathSegment) (v : Value) →
    numbered_line number (text_of (ValueLine root path v)) ≡ line_text number root (line at path v)
unfolding text_of value_line_text
said_is_line number at root path v = search (arith, said_joined)

pub call_said : (number id : ℕ) (operation : List ℕ) (interface : Option (List ℕ)) →
    numbered_line number (call_text id operation interface)
    ≡ call_line_with number id operation interface
unfolding call_text call_line interface_call_line
call_said number id operation None = search (arith, said_joined)
call_said number id operation (Some interface) = search (arith, said_joined)

pub rest_said : (number offset : ℕ) (octets : List ℕ) →
    numbered_line number (rest_text offset octets) ≡ rest_line number offset octets
unfolding rest_text rest_line
rest_said number offset octets = search (arith, said_joined)

pub end_said : (number : ℕ) → numbered_line number (codes "end") ≡ end_line number
unfolding end_line numbered_line
end_said number = refl
