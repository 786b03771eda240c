-- The reading of one message, as the stream takes it: the lines of its octets so far, and those of
-- its close (meaning). The octets of a message after its header are counted from 1.
use Rattle.std.specs.Prelude.{◌≡◌, ℕ, suc, ◌+◌, ◌%◌, ◌≤◌, ◌==◌, ◌⊎◌, Bool, true, false, List, [], ◌∷◌, ◌++◌, length, map}
use Rattle.std.specs.List.{filter, list_any, AllByRecursion as Each}
use Rattle.giop_message.specs.Headers.{begins_with_request_id}
use Rattle.giop_message.specs.Phases.{Phase, AgreeBefore}

-- what a line of a message shows, in the order of the lines of one octet
pub data LineClass : Type 0 where
  Value Call Rest Fault End : LineClass

-- a line's text without the message's number, and the number of the octet that completes it
pub record TimedLine : Type 0 where
  pub at : ℕ
  pub line_class : LineClass
  pub text : List ℕ

-- how messages are read, from what padding is counted by, the message's number, its header, and the
-- octets after the header
pub record MessageReader : Type 0 where
  pub reads : Phase → ℕ → List ℕ → List ℕ → List TimedLine
  pub closes : Phase → ℕ → List ℕ → List ℕ → List (LineClass × List ℕ)

-- A message has no line after its fault or its end.
abbrev pub is_last_class : (line_class : LineClass) → Bool
is_last_class Value = false
is_last_class Call = false
is_last_class Rest = false
is_last_class Fault = true
is_last_class End = true

-- More octets don't change the lines of the octets before them.
pub record KeepsEarlierLines (R : MessageReader) : Type 0 where
  pub earlier : (phase : Phase) (number : ℕ) (header xs more : List ℕ) (k : ℕ) → k ≤ length xs →
      filter (λ r. r.at == k) (R.reads phase number header (xs ++ more))
      ≡ filter (λ r. r.at == k) (R.reads phase number header xs)

-- The lines of octets, and of a close after them, are the same by phases that agree before the end
-- of the octets.
pub record UsesPhaseBeforeEnd (R : MessageReader) : Type 0 where
  pub reads : (phase other : Phase) (number : ℕ) (header xs : List ℕ) →
      AgreeBefore (12 + length xs) phase other →
      R.reads phase number header xs ≡ R.reads other number header xs
  pub closes : (phase other : Phase) (number : ℕ) (header xs : List ℕ) →
      AgreeBefore (12 + length xs) phase other →
      R.closes phase number header xs ≡ R.closes other number header xs

-- A message that closes has ended, or is faulted.
pub record ClosesWithLastLine (R : MessageReader) : Type 0 where
  pub ends : (phase : Phase) (number : ℕ) (header xs : List ℕ) →
      list_any (λ l. is_last_class l.0) (R.closes phase number header xs) ≡ true

-- ---- What else the stream needs of a reading, since it finds messages by their request ids.

-- If a message begins with its request id, its first four octets have no lines except those of
-- values.
pub record HasOnlyValuesInId (R : MessageReader) : Type 0 where
  pub named : (phase : Phase) (number : ℕ) (header xs : List ℕ) → phase 12 % 4 ≡ 0 →
      begins_with_request_id header ≡ true → length xs ≤ 4 →
      Each (λ r. r.line_class ≡ Value) (R.reads phase number header xs)

-- the lines of one octet: none, a value, a value and its call, a part of the rest, a fault, or a
-- value and a fault
abbrev pub AreInLineOrder : (possible_classes_of_one_octet : List LineClass) → Type 0
AreInLineOrder line_classes =
    (line_classes ≡ []) ⊎ (line_classes ≡ Value ∷ []) ⊎ (line_classes ≡ Value ∷ Call ∷ [])
    ⊎ (line_classes ≡ Rest ∷ [])
    ⊎ (line_classes ≡ Fault ∷ []) ⊎ (line_classes ≡ Value ∷ Fault ∷ [])

pub record GivesLinesInOrder (R : MessageReader) : Type 0 where
  pub ordered : (phase : Phase) (number : ℕ) (header xs : List ℕ) (k : ℕ) →
      AreInLineOrder (map (λ r. r.line_class)
      (filter (λ r. r.at == k) (R.reads phase number header xs)))

-- the lines that one more octet adds
abbrev pub next_lines : (R : MessageReader) (phase : Phase) (message_number : ℕ)
    (header octets_before : List ℕ) (next_octet : ℕ) → List TimedLine
next_lines R phase number header octets octet = filter (λ r. r.at == suc (length octets))
    (R.reads phase number header (octets ++ octet ∷ []))

-- whether the line shows a fault
abbrev pub is_fault_class : (line_class : LineClass) → Bool
is_fault_class Value = false
is_fault_class Call = false
is_fault_class Rest = false
is_fault_class Fault = true
is_fault_class End = false

-- the lines of a close: a fault, the end, or the last part of the rest and the end
abbrev pub AreCloseClasses : (classes_of_close : List LineClass) → Type 0
AreCloseClasses line_classes = (line_classes ≡ Fault ∷ []) ⊎ (line_classes ≡ End ∷ [])
    ⊎ (line_classes ≡ Rest ∷ End ∷ [])

-- A close ends the message, and ends it once. If the message has a fault at its last octet, it has
-- only the line of its end; and if its last octet ends a part of its rest, nothing of the rest is
-- left.
pub record ClosesOnce (R : MessageReader) : Type 0 where
  pub closed : (phase : Phase) (number : ℕ) (header xs : List ℕ) →
      AreCloseClasses (map (λ l. l.0) (R.closes phase number header xs))
  pub over : (phase : Phase) (number : ℕ) (header xs : List ℕ) (x : ℕ) →
      list_any is_fault_class (map (λ r. r.line_class) (next_lines R phase number header xs x))
      ≡ true →
      map (λ l. l.0) (R.closes phase number header (xs ++ x ∷ [])) ≡ End ∷ []
  pub one_rest : (phase : Phase) (number : ℕ) (header xs : List ℕ) (x : ℕ) →
      map (λ r. r.line_class) (next_lines R phase number header xs x) ≡ Rest ∷ [] →
      map (λ l. l.0) (R.closes phase number header (xs ++ x ∷ [])) ≡ Rest ∷ End ∷ [] → ⊥

-- what a reading needs so that its lines can be written as they come
pub record IsStreamable (R : MessageReader) : Type 0 where
  pub named : HasOnlyValuesInId R
  pub ordered : GivesLinesInOrder R
  pub closing : ClosesOnce R
  pub phased : UsesPhaseBeforeEnd R
