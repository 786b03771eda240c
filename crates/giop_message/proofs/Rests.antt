-- One octet in the padding, and the octets of one part in the rest.
use Rattle.std.proofs.Common.{◌≡◌, ℕ, ◌+◌, ◌-◌, ◌<◌, ◌≤◌, false, List, [], ◌∷◌, ◌++◌, length, take, min, None, refl, sym, ap, subst, ◌∙◌, append-nil, append_assoc, length-append, arith}
use Rattle.std.proofs.lemmas.List.{length-take-le}
use Rattle.std.proofs.lemmas.Bool.{lt-ltb, le-ltb}
use Rattle.giop_cdr.specs.Alignment.{padding}
use Rattle.giop_print.specs.Lines.{rest_line}
use Rattle.giop_sig.specs.Table.{Table, in_version}
use Rattle.giop_message.specs.Phases.{Phase}
use Rattle.giop_message.specs.Headers.{minor}
use Rattle.giop_decode.proofs.ReadingLaws.{length_one_more}
use Rattle.giop_message.specs.declared.message.Message.{Message as Struct_of}
use Rattle.giop_message.specs.declared.part.Part.TheVariants as parts
use Rattle.giop_message.specs.declared.part.Rest.{Rest}
use Rattle.giop_message.specs.declared.body_type.BodyTypeId.{BodyTypeId}
use Rattle.giop_message.specs.Signatures.{Signatures, Answers, signatures_of}
use Rattle.giop_message.specs.Messages.{LineAt, Said, only_lines, nothing_said, said_both, line_at, BodyType, Stage, In_padding, In_rest, MessageReading, ReadTo, with_front, read_body, read_message, message_lines, stage_of}
use Rattle.giop_message.specs.StageSteps.{rest_step, message_step, read_one_more, read_more}
use Rattle.giop_message.specs.ReaderOfTable.{line_class_of, text_of, request_id_in, first_some, first_request_id}
use Rattle.giop_message.specs.MessageState.{message_line_text, message_lines_text, more_lines, more_lines_text, body_type, PartFollows, in_header, Follows}
use Rattle.giop_message.specs.MessageSteps.{NewPartReads}
use Rattle.giop_message.proofs.Going.{none_front, message_goes, message_resumes, rest_step_full, rest_step_more}
use Rattle.giop_message.proofs.Causal.{body_silent}
use Rattle.giop_message.proofs.Octets.{due_is, told_silent}
use Rattle.giop_message.proofs.Spelling.{rest_said}
use Rattle.giop_message.proofs.Followings.{IsMovedBy, is_at, id_kept, follows_on}

-- the lines of one more octet, from the step from the message's stage
pub comes_more : (S : Signatures) (header s : List ℕ) (b : ℕ) (said : Said) (at : ℕ)
    (stage : Stage) → read_message S header s ≡ ReadTo said at stage →
    read_message S header (s ++ b ∷ []) ≡ with_front said (message_step S header at stage b)
unfolding read_one_more
comes_more S header s b said at stage e = search (arith, message_goes)

pub comes_due : (S : Signatures) (header s : List ℕ) (b : ℕ) (said : Said) (at : ℕ)
    (stage : Stage) (m : MessageReading) → read_message S header s ≡ ReadTo said at stage →
    message_step S header at stage b ≡ m → more_lines S header s (b ∷ []) ≡ message_lines m
unfolding message_lines
comes_due S header s b said at stage m e f =
    due_is S header s (b ∷ []) said (ReadTo said at stage) m e
    (comes_more S header s b said at stage e ∙ ap (with_front said) f) refl

comes_next : (before said : Said) (n m : ℕ) (stage : Stage) → n ≡ m →
    with_front before (ReadTo said n stage) ≡ ReadTo (said_both before said) m stage
unfolding with_front
comes_next before said n m stage e = rw e refl

next_at : (s : List ℕ) (b : ℕ) → (12 + length s) + 1 ≡ 12 + length (s ++ b ∷ [])
next_at s b = search (arith, length_one_more)

-- ---- in the padding

padding_on : (S : Signatures) (header : List ℕ) (at b : ℕ) (t : BodyType) → 1 < padding at 8 →
    message_step S header at (In_padding t) b ≡ ReadTo nothing_said (at + 1) (In_padding t)
unfolding message_step
padding_on S header at b t h = search (arith, lt-ltb)

padding_last : (S : Signatures) (header : List ℕ) (at b : ℕ) (t : BodyType) → padding at 8 ≤ 1 →
    message_step S header at (In_padding t) b ≡ read_body S header t (at + 1) []
unfolding message_step
padding_last S header at b t h = search (arith, le-ltb)

none_said : (emitted : List LineAt) → emitted ≡ [] → first_request_id emitted ≡ None
unfolding first_request_id
none_said emitted e = rw e refl

pub no_text : (S : Signatures) (number place : ℕ) (header s more : List ℕ) →
    more_lines S header s more ≡ [] → more_lines_text S number place header s more ≡ []
unfolding more_lines_text message_lines_text
no_text S number place header s more e = rw e refl

module _ {C : Table} {answers : Answers} {phase : Phase} {number : ℕ} {header : List ℕ}
    {m : Struct_of} {s : List ℕ}
    {body_type_id : BodyTypeId}
    (f : Follows C answers phase number header m s) (is : m.part ≡ parts.Padding body_type_id)
    (b : ℕ)
  where
    abbrev S : Signatures
    S = signatures_of C (answers number) phase

    abbrev T : BodyType
    T = body_type (in_version (minor header) C) body_type_id

    abbrev Here : ℕ
    Here = 12 + length s

    abbrev further : List ℕ
    further = s ++ b ∷ []

    padded : (said : Said) × (read_message S header s ≡ ReadTo said Here (In_padding T))
    padded = search (arith)

    one_due : (x : MessageReading) → message_step S header Here (In_padding T) b ≡ x →
        more_lines S header s (b ∷ []) ≡ message_lines x
    one_due x e = search (arith, comes_due, padded)

    one_comes : (x : MessageReading) → message_step S header Here (In_padding T) b ≡ x →
        read_message S header further ≡ with_front padded.0 x
    one_comes x e = search (arith, comes_more, padded)

    pub padding_told : (1 < padding Here 8) → more_lines S header s (b ∷ []) ≡ []
    unfolding message_lines
    padding_told h = one_due (ReadTo nothing_said (Here + 1) (In_padding T))
        (padding_on S header Here b T h)

    pub last_told : padding Here 8 ≤ 1 → more_lines S header s (b ∷ []) ≡ []
    last_told h = search (arith, one_due, padding_last, told_silent, body_silent)

    same_id : more_lines S header s (b ∷ []) ≡ [] →
        m.id ≡ first_request_id (message_lines (read_message S header further))
    same_id none = search (arith, id_kept, none_said)

    pub padding_follows : (1 < padding Here 8) → {n : Struct_of} → IsMovedBy m n 1 → n.id ≡ m.id →
        n.part ≡ m.part → Follows C answers phase number header n further
    padding_follows h {n} move id part =
        let comes = one_comes (ReadTo nothing_said (Here + 1) (In_padding T))
        (padding_on S header Here b T h) in
        let at = comes_next padded.0 nothing_said (Here + 1) (12 + length further) (In_padding T)
        (next_at s b) in
        follows_on f (b ∷ []) move (id ∙ rw (part, is) (same_id (padding_told h)))
        (subst (PartFollows C answers phase number header further n.decoder) (sym (part ∙ is))
        (_, comes ∙ at))

    pub last_follows : padding Here 8 ≤ 1 → {k n : Struct_of} → IsMovedBy m k 1 →
        NewPartReads C answers phase number header k n further
        (read_body S header T (12 + length further) []) →
        IsMovedBy m n 1 → n.id ≡ m.id → in_header n.part ≡ false →
        Follows C answers phase number header n further
    last_follows h move_k arrives move_n id past =
        let comes = one_comes (read_body S header T (Here + 1) [])
        (padding_last S header Here b T h) in
        follows_on f (b ∷ []) move_n (id ∙ rw past (same_id (last_told h)))
        (arrives (is_at f (b ∷ []) move_k) padded.0
        (comes ∙ ap (λ n. with_front padded.0 (read_body S header T n [])) (next_at s b)))

-- ---- in the rest

-- a message after a step in the rest; none of its lines has a request id
pub record IsRestStep (reading : MessageReading) (offset : ℕ) : Type 0 where
  pub comes : reading ≡ ReadTo (only_lines (message_lines reading)) offset (stage_of reading)
  pub no_id : first_request_id (message_lines reading) ≡ None

rested : (offset : ℕ) (held : List ℕ) (at : ℕ) → IsRestStep (rest_step offset held at) at
unfolding rest_step message_lines stage_of first_request_id request_id_in first_some line_at
rested offset held at = search (arith)

-- the octets of one part are read in one step
part_goes : (S : Signatures) (header : List ℕ) (said : Said) (at offset : ℕ)
    (held : List ℕ)
    (b : ℕ) (bs : List ℕ) → length held + length (b ∷ bs) ≤ 32 →
    read_more S header (ReadTo said at (In_rest offset held)) (b ∷ bs)
    ≡ with_front said (rest_step offset (held ++ b ∷ bs) (at + length (b ∷ bs)))
unfolding read_one_more message_step
part_goes S header said at offset held b [] h = refl
part_goes S header said at offset held b (b' ∷ bs) h = search (
  arith,
  length_one_more,
  rest_step_more,
  comes_next,
  none_front,
  append_assoc,
  part_goes S header said (at + 1)
      offset (held ++ b ∷ []) b' bs (omega (arith, length_one_more held b, h)),
)

module _ {C : Table} {answers : Answers} {phase : Phase} {number : ℕ} {header : List ℕ}
    {m : Struct_of} {s : List ℕ}
    {r : Rest}
    {room n : ℕ} (f : Follows C answers phase number header m s) (is : m.part ≡ parts.Rest r)
    (octets : List ℕ)
    (some : 0 < length octets) (left : room ≡ 32 - length r.held.items)
    (taken : n ≡ min room (length octets)) where
  abbrev xs : List ℕ
  xs = take n octets

  size : length xs ≡ n
  size = search (arith, length-take-le)

  abbrev At : ℕ
  At = 12 + length s

  abbrev Step : MessageReading
  Step = rest_step r.offset (r.held.items ++ xs) (At + length xs)

  abbrev Stood : (said : Said) → MessageReading
  Stood said = ReadTo said At (In_rest r.offset r.held.items)

  stood : (said : Said) × (read_message (signatures_of C (answers number) phase) header s
      ≡ Stood said)
  stood = search (arith)

  rest_comes : read_message (signatures_of C (answers number) phase) header (s ++ xs) ≡ with_front
      stood.0 Step
  rest_comes = search (arith, message_resumes, stood, size, part_goes)

  rest_due : more_lines (signatures_of C (answers number) phase) header s xs ≡ message_lines Step
  unfolding message_lines
  rest_due = search (arith, due_is, stood, rest_comes)

  pub rest_text : (place : ℕ) → more_lines_text (signatures_of C
      (answers number) phase) number place
      header s xs
      ≡ message_lines_text m.number place At (message_lines Step)
  unfolding more_lines_text
  rest_text place = search (arith, rest_due)

  pub rest_follows : {m' : Struct_of} {r' : Rest} → IsMovedBy m m' n → m'.id ≡ m.id →
      m'.part ≡ parts.Rest r' →
      stage_of Step ≡ In_rest r'.offset r'.held.items → Follows C answers phase number header m'
      (s ++ xs)
  rest_follows {m' = m'} {r' = r'} move id part stage =
      let step = rested r.offset (r.held.items ++ xs) (At + length xs) in
      let e : At + length xs ≡ 12 + length (s ++ xs) = omega (arith, length-append s xs) in
      let said = only_lines (message_lines Step) in
      let next = comes_next stood.0 said (At + length xs) (12 + length (s ++ xs))
      (In_rest r'.offset r'.held.items) e in
      let comes = ap (with_front stood.0) (step.comes
      ∙ ap (ReadTo said (At + length xs)) stage) in
      follows_on f xs (rw size move) (id ∙ rw part
      (id_kept f xs (ap first_request_id rest_due ∙ step.no_id) (rw is refl)))
      (subst (PartFollows C answers phase number header (s ++ xs) m'.decoder) (sym part)
      (_, rest_comes ∙ (comes ∙ next)))

-- the text of a step in the rest
pub few_told : (number place offset at : ℕ) (from : ℕ) (held : List ℕ) → length held < 32 →
    message_lines_text number place offset (message_lines (rest_step from held at)) ≡ []
unfolding message_lines_text message_lines
few_told number place offset at from held h = search (arith, rest_step_more)

pub full_told : (number place offset at : ℕ) (from : ℕ) (held : List ℕ) → length held ≡ 32 →
    message_lines_text number place offset (message_lines (rest_step from held at))
    ≡ rest_line number from held
unfolding message_lines_text message_lines message_line_text line_class_of text_of line_at
full_told number place offset at from held h = search (arith, rest_step_full, append-nil, rest_said)

pub few_stage : (at from : ℕ) (held : List ℕ) → length held < 32 →
    stage_of (rest_step from held at) ≡ In_rest from held
unfolding stage_of
few_stage at from held h = search (arith, rest_step_more)

pub full_stage : (at from : ℕ) (held : List ℕ) → length held ≡ 32 →
    stage_of (rest_step from held at) ≡ In_rest (from + 32) []
unfolding stage_of
full_stage at from held h = search (arith, rest_step_full)
