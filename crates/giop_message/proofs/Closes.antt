-- The lines of a close: it ends the message, and none of its lines has a class that a line of the
-- last octet has. If the message is faulted at its last octet, or a part of its rest ends there,
-- nothing of the rest is left.
use Rattle.std.proofs.Common.{arith, ◌≡◌, Bool, true, false, List, [], ◌∷◌, ◌++◌, map, inl, inr, refl, ap, ◌≢◌, ℕ, suc, length, ◌⊎◌}
use Rattle.std.specs.Prelude.{if◌then◌else◌}
use Rattle.giop_message.specs.Phases.{Phase}
use Rattle.giop_message.specs.MessageReader.{LineClass, Rest, End, AreCloseClasses, ClosesOnce, Value, Call, Fault, AreInLineOrder, is_fault_class}
use Rattle.giop_message.specs.Signatures.{Signatures}
use Rattle.giop_message.specs.Messages.{MessageLine, ShortLine, EndLine, Stage, In_typed, In_padding, In_rest, read_message, stage_of, lines_of_close}
use Rattle.giop_message.specs.ReaderOfTable.{line_class_of, class_and_text, lines_of_close_by, reader_by}
use Rattle.giop_message.proofs.Leaving.{octet_leaves, StageFitsClasses}
use Rattle.std.specs.List.{list_any}
use Rattle.giop_message.specs.Apart.{AreDistinct, HasDistinctClasses}
use Rattle.giop_message.specs.MessageReader as said
use Rattle.giop_message.proofs.Causal.{is_ordered}

abbrev LineClasses : (speeches : List MessageLine) → List LineClass
LineClasses speeches = map (λ l. l.0) (map class_and_text speeches)

lack_says : (test : Bool) → AreCloseClasses (LineClasses (if test then EndLine ∷ [] else ShortLine
    ∷ []))
unfolding line_class_of
lack_says true = inr (inl refl)
lack_says false = inl refl

closes_say : (stage : Stage) → AreCloseClasses (LineClasses (lines_of_close stage))
unfolding line_class_of lines_of_close
closes_say (In_typed section h outer leaf) = inl refl
closes_say (In_padding b) = search (arith, lack_says)
closes_say (In_rest offset (x ∷ held)) = inr (inr refl)
closes_say _ = inr (inl refl)

-- if a close has only the line of the end, it has no part of the rest
ends_only : (stage : Stage) → LineClasses (lines_of_close stage) ≡ End ∷ [] →
    LineClasses (lines_of_close stage) ≡ Rest ∷ End ∷ [] → ⊥
ends_only stage e f = absurd cc

pub is_closing : (S : Phase → ℕ → Signatures) → ClosesOnce (reader_by S)
unfolding lines_of_close_by line_class_of lines_of_close
is_closing S = search (arith, closes_say, octet_leaves, ends_only)

leaves_end : (line_classes : List LineClass) (stage : Stage) → StageFitsClasses line_classes stage →
    (line_classes ≡ Rest ∷ []) ⊎ (list_any is_fault_class line_classes ≡ true) →
    LineClasses (lines_of_close stage) ≡ End ∷ []
unfolding lines_of_close line_class_of
leaves_end line_classes stage h (inl e) = search (arith)
leaves_end line_classes stage h (inr e) = rw (h.1 e) refl

other : (a b : LineClass) → a ≢ b → AreDistinct (a ∷ b ∷ [])
other a b h = ((h, tt), (tt, tt))

-- one line and the lines of a close, if none of these has its class
one_apart : (a : LineClass) (line_classes : List LineClass) → AreCloseClasses line_classes →
    a ≢ Fault →
    a ≢ End →
    a ≢ Rest → AreDistinct (a ∷ line_classes)
one_apart a line_classes (inl e) f g h = rw e (other a Fault f)
one_apart a line_classes (inr (inl e)) f g h = rw e (other a End g)
one_apart a line_classes (inr (inr e)) f g h = search (arith)

close_apart : (line_classes : List LineClass) → AreCloseClasses line_classes →
    AreDistinct line_classes
close_apart line_classes (inl e) = rw e (tt, tt)
close_apart line_classes (inr (inl e)) = rw e (tt, tt)
close_apart line_classes (inr (inr e)) = search (arith)

call_apart : (line_classes : List LineClass) → AreCloseClasses line_classes →
    AreDistinct (Value ∷ Call ∷ line_classes)
call_apart line_classes (inl e) = search (arith, other)
call_apart line_classes (inr (inl e)) = search (arith, other)
call_apart line_classes (inr (inr e)) = search (arith, one_apart)

turn_apart : (line_classes : List LineClass) (stage : Stage) → AreInLineOrder line_classes →
    StageFitsClasses line_classes stage →
    AreCloseClasses (LineClasses (lines_of_close stage)) →
    AreDistinct (line_classes ++ LineClasses (lines_of_close stage))
turn_apart line_classes stage (inl e) h closed = search (arith, close_apart)
turn_apart line_classes stage (inr (inl e)) h closed = search (arith, one_apart)
turn_apart line_classes stage (inr (inr (inl e))) h closed = search (arith, call_apart)
turn_apart line_classes stage (inr (inr (inr (inl e)))) h closed =
    rw (leaves_end line_classes stage h (inl e), e) (other Rest End (λ k. cc))
turn_apart line_classes stage (inr (inr (inr (inr (inl e))))) h closed =
    rw (leaves_end line_classes stage h (inr (ap (list_any is_fault_class) e)), e)
    (other Fault End (λ k. cc))
turn_apart line_classes stage (inr (inr (inr (inr (inr e))))) h closed =
    rw (leaves_end line_classes stage h (inr (ap (list_any is_fault_class) e)), e)
    (((λ k. cc), ((λ k. cc), tt)), other Fault End (λ k. cc))

octet_apart : (S : Phase → ℕ → Signatures) (phase : Phase) (number : ℕ) (header xs : List ℕ)
    (x : ℕ) → AreDistinct
    (map (λ r. r.line_class) (said.next_lines (reader_by S) phase number header xs x)
    ++ map (λ l. l.0) ((reader_by S).closes phase number header (xs ++ x ∷ [])))
unfolding lines_of_close_by
octet_apart S phase number header xs x =
    turn_apart (map (λ r. r.line_class) (said.next_lines (reader_by S) phase number header xs x))
    (stage_of (read_message (S phase number) header (xs ++ x ∷ [])))
    ((is_ordered S).ordered phase number header (xs ++ x ∷ []) (suc (length xs)))
    (octet_leaves (S phase number) header xs x)
    ((is_closing S).closed phase number header (xs ++ x ∷ []))

-- No two lines of one octet, with those of a close at it, have the same class.
pub is_apart : (S : Phase → ℕ → Signatures) → HasDistinctClasses (reader_by S)
is_apart S = search (arith, octet_apart)
