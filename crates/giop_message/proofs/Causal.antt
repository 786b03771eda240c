-- If more octets come, the lines of a message begin with those that it had before, and the other
-- lines come after its earlier octets; and in which order the lines of one octet come.
use Rattle.std.proofs.Common.{◌≡◌, ◌≢◌, ℕ, ◌+◌, ◌-◌, ◌<◌, ◌≤◌, Bool, true, false, List, [], ◌∷◌, ◌++◌, length, map, drop, Option, Some, None, refl, sym, ap, subst, ◌∙◌, append_assoc, append-nil, arith, add_assoc, add-zero, ◌⊎◌, inl, inr}
use Rattle.std.specs.Prelude.{◌==◌, nat_lt, if◌then◌else◌}
use Rattle.std.specs.List.{filter, AllByRecursion as Each}
use Rattle.std.proofs.lemmas.Bool.{cases_lt, lt-ltb, eq-eqb, ne_eqb}
use Rattle.std.proofs.lemmas.List.Elements.{filter-append}
use Rattle.giop_cdr.specs.Alignment.{padding}
use Rattle.giop_print.specs.declared.path.Root.{Root}
use Rattle.giop_sig.specs.Types.{Ty}
use Rattle.giop_decode.specs.declared.progress.ValueFault.{ValueFault}
use Rattle.giop_decode.specs.ReadResult.{PathSegment, Value as Valued, ValueAt, Read, Done, Short, Fault}
use Rattle.giop_decode.specs.Reading.{reading}
use Rattle.giop_decode.specs.ReadingSteps as decoder
use Rattle.giop_decode.specs.ReadingSteps.{IsEmptyResult, AtMostOneAt, IsOctetResult, root_step}
use Rattle.giop_decode.specs.Noted.{Noted, nothing_noted, note_line, ends_operation, is_header_root}
use Rattle.giop_decode.proofs.ReadingLaws.{length_one_more, each_append, root_now, reading_quiet}
use Rattle.giop_message.specs.Phases.{Phase}
use Rattle.giop_message.specs.declared.part.Section.{Section}
use Rattle.giop_message.specs.declared.part.Section.TheVariants as sections
use Rattle.giop_message.specs.MessageReader.{LineClass, TimedLine, AreInLineOrder, GivesLinesInOrder, KeepsEarlierLines}
use Rattle.giop_message.specs.Signatures.{Signatures}
use Rattle.giop_message.specs.Messages.{coding_of, CallSource, Said, only_lines, nothing_said, ValueLine, CallLine, RestLine, FaultLine, LineAt, line_at, call_line_if_named, call_lines_after, section_lines, BodyType, Stage, In_typed, In_padding, In_rest, Over, MessageReading, ReadTo, with_front, section_then, read_rest_in_parts, read_rest, read_body, read_padding_and_body, read_message, message_lines, root_of, section_call_source, read_after_section, section_and_rest}
use Rattle.giop_message.specs.StageSteps.{rest_step, message_step, read_one_more}
use Rattle.giop_message.specs.ReaderOfTable.{line_class_of, timed_line_of, timed_lines_by, reader_by}
use Rattle.giop_message.proofs.LastParts.{NoCallIfFaulted, root_none}
use Rattle.giop_message.proofs.StepLines.{one_faulted}
use Rattle.giop_message.proofs.Going.{front_none, body_has, after_has, message_has, message_goes}

abbrev pub AreLinesAt : (n : ℕ) (emitted : List LineAt) → Type 0
AreLinesAt n emitted = Each (λ t. t.at ≡ n) emitted

-- a message that was read from no octets has no line
abbrev pub HasNoLinesAt : (n : ℕ) (reading : MessageReading) → Type 0
HasNoLinesAt n (ReadTo said at stage) = (said.lines ≡ []) × (at ≡ n)

-- the lines of one octet, in their order
abbrev pub AreOrderedLinesAt : (n : ℕ) (emitted : List LineAt) → Type 0
AreOrderedLinesAt n emitted = AreLinesAt n emitted × AreInLineOrder (map
    (λ t. line_class_of t.message_line) emitted)

-- a message after one octet: its lines are those of the octet, and it is at this offset unless it
-- is over
abbrev pub IsAfterOneOctet : (n : ℕ) (reading : MessageReading) → Type 0
IsAfterOneOctet n (ReadTo said at stage) = AreOrderedLinesAt n said.lines × ((at ≡ n) ⊎
    (stage ≡ Over))

silent_prompt : (n : ℕ) (m : MessageReading) → HasNoLinesAt n m → IsAfterOneOctet n m
silent_prompt n (ReadTo said at stage) h = search (arith)

prompt_front : (n : ℕ) (front : Said) (m : MessageReading) → AreOrderedLinesAt n front.lines →
    HasNoLinesAt n m →
    IsAfterOneOctet n (with_front front m)
unfolding with_front
prompt_front n front (ReadTo said at stage) h k = search (arith, append-nil)

-- there is one call line, or none
abbrev pub IsAtMostOneCall : (n : ℕ) (emitted : List LineAt) → Type 0
IsAtMostOneCall n emitted = (emitted ≡ []) ⊎ ((id : ℕ) × (operation : List ℕ)
    × (interface : Option (List ℕ))
    × (emitted ≡ line_at n (CallLine id operation interface) ∷ []))

call_is : (n : ℕ) (id : Option ℕ) (name interface : Option (List ℕ)) →
    IsAtMostOneCall n (call_line_if_named n id name interface)
unfolding call_line_if_named
call_is n None name interface = inl refl
call_is n (Some id) None interface = inl refl
call_is n (Some id) (Some name) interface = search (arith)

call_by : (n : ℕ) (test : Bool) (ts : List LineAt) → IsAtMostOneCall n ts →
    IsAtMostOneCall n (if test then ts else [])
call_by n true ts h = h
call_by n false ts h = inl refl

pub calls_is : (is : CallSource) (l : ValueAt) (h : Noted) →
    IsAtMostOneCall l.at (call_lines_after is l h)
unfolding call_lines_after
calls_is is l h = search (arith, call_by, call_is)

value_turn : (n : ℕ) (root : Root) (path : List PathSegment) (v : Valued) (more : List LineAt) →
    IsAtMostOneCall n more → AreOrderedLinesAt n ((line_at n (ValueLine root path v) ∷ more) ++ [])
unfolding line_at line_class_of
value_turn n root path v more (inl e) = search (arith)
value_turn n root path v more (inr f) = search (arith)

section_lines_turn : (root : Root) (is : CallSource) (n : ℕ) (h : Noted) (lines : List ValueAt) →
    AtMostOneAt n lines →
    AreOrderedLinesAt n (section_lines root is h lines)
unfolding section_lines
section_lines_turn root is n h [] e = (tt, inl refl)
section_lines_turn root is n h (l ∷ []) e =
    let now = note_line (is_header_root root) h l in
    subst (λ m. AreOrderedLinesAt m ((line_at l.at (ValueLine root l.path l.value)
    ∷ call_lines_after is l now)
    ++ [])) e
    (value_turn l.at root l.path l.value (call_lines_after is l now) (calls_is is l now))
section_lines_turn root is n h (l ∷ l' ∷ ls) e = absurd e

module _ (section : Section) (is : CallSource) (next : Noted → ℕ → List ℕ → MessageReading) (n : ℕ)
    (silent : (k : Noted) → HasNoLinesAt n (next k n [])) where
  abbrev R : Root
  R = root_of section

  pub passes_silent : (k : Noted) (r : Read) → IsEmptyResult n r →
      HasNoLinesAt n (section_then section is next k r)
  unfolding section_then section_lines with_front
  passes_silent k (Done lines at s) h = search (arith, front_none)
  passes_silent k (Short lines at outer leaf) h = rw (h.0, h.1) (refl, refl)
  passes_silent k (Fault lines at why T) h = absurd h

  -- a fault, and the value that its octet completes
  faulted_turn : (k : Noted) (lines : List ValueAt) (at : ℕ) (why : ValueFault) → at ≡ n →
      AtMostOneAt n lines →
      Each (λ l. ends_operation is.is_request l ≡ false) lines →
      AreOrderedLinesAt n (section_lines R is k lines ++ line_at at (FaultLine why) ∷ [])
  unfolding line_at section_lines call_lines_after line_class_of
  faulted_turn k [] at why e one none = search (arith)
  faulted_turn k (l ∷ []) at why e one none = search (arith)
  faulted_turn k (l ∷ l' ∷ ls) at why e one none = absurd one

  passes_prompt : (k : Noted) (r : Read) → IsOctetResult n r → NoCallIfFaulted is.is_request r →
      IsAfterOneOctet n (section_then section is next k r)
  unfolding section_then line_at section_lines line_class_of
  passes_prompt k (Done lines at s) h none = search (arith, prompt_front, section_lines_turn)
  passes_prompt k (Short lines at outer leaf) h none = search (arith, section_lines_turn)
  passes_prompt k (Fault lines at why T) h none = search (arith, faulted_turn, one_faulted)

pub rest_silent : (n : ℕ) → HasNoLinesAt n (read_rest n [])
unfolding read_rest read_rest_in_parts
rest_silent n = (refl, add-zero n)

-- a reader gives no line if there are no octets
abbrev IsSilentWithoutOctets : (reader : ℕ → List ℕ → MessageReading) → Type 0
IsSilentWithoutOctets reader = (n : ℕ) → HasNoLinesAt n (reader n [])

module _ (S : Signatures) (header : List ℕ) where
  reads_silent : (section : Section) (T : Ty) →
      ((h : Noted) → IsSilentWithoutOctets (read_after_section S header section h)) →
      IsSilentWithoutOctets (λ at s. section_and_rest S header section nothing_noted
      (reading (coding_of S header) [] T at s))
  reads_silent section T silent n = search (arith, passes_silent, reading_quiet)

  padded_silent : (t : BodyType) → IsSilentWithoutOctets (read_body S header t) →
      IsSilentWithoutOctets (read_padding_and_body S header t)
  unfolding read_padding_and_body
  padded_silent t silent n = search (arith, cases_lt, drop, lt-ltb, add-zero)

  pub body_silent : (t : BodyType) (n : ℕ) → HasNoLinesAt n (read_body S header t n [])
  body_silent t = body_has S header IsSilentWithoutOctets rest_silent
      (λ section T past. reads_silent section T) padded_silent t

  pub after_silent : (section : Section) (k : Noted) (n : ℕ) →
      HasNoLinesAt n (read_after_section S header section k n [])
  after_silent section k = after_has S header IsSilentWithoutOctets rest_silent
      (λ section T past. reads_silent section T) padded_silent section k

  pub message_silent : HasNoLinesAt 12 (read_message S header [])
  unfolding read_message
  message_silent = message_has S header IsSilentWithoutOctets rest_silent
      (λ section T past. reads_silent section T) padded_silent (reads_silent sections.Header) 12

rest_by : (offset : ℕ) (held : List ℕ) (n : ℕ) (test : Bool) →
    IsAfterOneOctet n (if test then ReadTo (only_lines (line_at n (RestLine offset held) ∷ [])) n
    (In_rest (offset + 32) [])
    else ReadTo nothing_said n (In_rest offset held))
unfolding line_at line_class_of
rest_by offset held n true = search (arith)
rest_by offset held n false = ((tt, inl refl), inl refl)

pub step_prompt : (S : Signatures) (header : List ℕ) (at : ℕ) (stage : Stage) (b : ℕ) →
    IsAfterOneOctet (at + 1) (message_step S header at stage b)
unfolding message_step rest_step
step_prompt S header at (In_typed section k outer leaf) b =
    passes_prompt section (section_call_source S header section)
    (read_after_section S header section) (at + 1)
    (λ k. after_silent S header section k (at + 1)) k
    (decoder.root_step (coding_of S header) [] outer leaf at b)
    (root_now (coding_of S header) [] outer leaf at b)
    (root_none (section_call_source S header section).is_request
    (coding_of S header) [] outer leaf at b)
step_prompt S header at (In_padding t) b = go (nat_lt 1 (padding at 8))
  where
    go : (test : Bool) → IsAfterOneOctet (at + 1)
        (if test then ReadTo nothing_said (at + 1) (In_padding t) else read_body S header t
        (at + 1) [])
    go true = ((tt, inl refl), inl refl)
    go false = search (arith, silent_prompt, body_silent)
step_prompt S header at (In_rest offset held) b = search (arith, rest_by)
step_prompt S header at Over b = ((tt, inl refl), inr refl)

-- a message after n octets is at the offset n, unless it is over
abbrev pub IsAtOffsetOrOver : (n : ℕ) (reading : MessageReading) → Type 0
IsAtOffsetOrOver n (ReadTo said at stage) = (at ≡ n) ⊎ (stage ≡ Over)

stands_more : (S : Signatures) (header : List ℕ) (n : ℕ) (m : MessageReading) (b : ℕ) →
    IsAtOffsetOrOver n m →
    IsAtOffsetOrOver (n + 1) (read_one_more S header m b)
unfolding read_one_more with_front message_step
stands_more S header n (ReadTo said at stage) b (inl h) = search (arith, step_prompt)
stands_more S header n (ReadTo said at stage) b (inr h) = rw h (inr refl)

-- Induction that adds at the end.
pub grown : {A : Type 0} (P : List A → Type 0) → ((xs : List A) (x : A) → P xs → P (xs ++ x ∷ [])) →
    (done more : List A) → P done → P (done ++ more)
grown P more_of done [] h = rw append-nil h
grown P more_of done (x ∷ xs) h = search (
  arith,
  append_assoc,
  grown P more_of (done ++ x ∷ []) xs
      (more_of done x h),
)

pub stands : (S : Signatures) (header xs : List ℕ) → IsAtOffsetOrOver (12 + length xs)
    (read_message S header xs)
stands S header xs = grown (λ xs. IsAtOffsetOrOver (12 + length xs)
    (read_message S header xs)) more [] xs
    (none (read_message S header []) (message_silent S header))
  where
    none : (m : MessageReading) → HasNoLinesAt 12 m → IsAtOffsetOrOver 12 m
    none (ReadTo said at stage) h = inl h.1

    more : (xs : List ℕ) (b : ℕ) → IsAtOffsetOrOver (12 + length xs) (read_message S header xs) →
        IsAtOffsetOrOver (12 + length (xs ++ b ∷ [])) (read_message S header (xs ++ b ∷ []))
    more xs b h = search (arith, message_goes, length_one_more, add_assoc, stands_more)

-- the lines come after the first n octets
abbrev pub AreAllAfter : (n : ℕ) (emitted : List LineAt) → Type 0
AreAllAfter n emitted = Each (λ t. n < t.at) emitted

behind_at : (n : ℕ) (emitted : List LineAt) → AreLinesAt (n + 1) emitted → AreAllAfter n emitted
behind_at n [] h = tt
behind_at n (t ∷ ts) h = search (arith, behind_at n ts h.1)

behind_less : (n m : ℕ) (emitted : List LineAt) → n ≤ m → AreAllAfter m emitted →
    AreAllAfter n emitted
behind_less n m [] h k = tt
behind_less n m (t ∷ ts) h k = search (arith, behind_less n m ts h k.1)

pub one_more : (S : Signatures) (header : List ℕ) (n : ℕ) (m : MessageReading) (b : ℕ) →
    IsAtOffsetOrOver n m →
    (more : List LineAt) × (message_lines (read_one_more S header m b) ≡ message_lines m ++ more)
    × AreOrderedLinesAt (n + 1) more
unfolding read_one_more with_front message_step message_lines
one_more S header n (ReadTo said at stage) b (inl h) =
    go (message_step S header at stage b) (step_prompt S header at stage b)
  where
    go : (m : MessageReading) → IsAfterOneOctet (at + 1) m →
        (more : List LineAt) × (message_lines (with_front said m) ≡ said.lines ++ more)
        × AreOrderedLinesAt (n + 1) more
    go (ReadTo more at' stage') k = (more.lines, refl, rw (← h) k.0)
one_more S header n (ReadTo said at stage) b (inr h) = search (arith)

pub told_begins : (S : Signatures) (header xs more : List ℕ) → (later : List LineAt)
    × (message_lines (read_message S header (xs ++ more)) ≡ message_lines (read_message S header xs)
    ++ later)
    × AreAllAfter (12 + length xs) later
told_begins S header xs [] = search (arith, append-nil)
told_begins S header xs (b ∷ more) =
    let one = one_more S header (12 + length xs) (read_message S header xs) b
    (stands S header xs) in
    let all = told_begins S header (xs ++ b ∷ []) more in (
      one.0 ++ all.0,
      ap (λ s. message_lines (read_message S header s)) (sym (append_assoc xs (b ∷ []) more))
          ∙ (all.1 ∙ (ap (λ ts. ts ++ all.0) (ap message_lines (message_goes S header xs b) ∙ one.1)
          ∙ append_assoc (message_lines (read_message S header xs)) one.0 all.0)),
      each_append (λ t. 12 + length xs < t.at) one.0 all.0
          (behind_at (12 + length xs) one.0 one.2.0)
          (behind_less (12 + length xs) (12 + length (xs ++ b ∷ [])) all.0
          (omega (arith, length_one_more xs b)) all.2),
    )

pub map_both : {A B : Type 0} (f : A → B) (xs ys : List A) → map f (xs ++ ys) ≡ map f xs ++ map f ys
map_both f [] ys = refl
map_both {A} {B} f (x ∷ xs) ys = ap (λ (zs : List B). f x ∷ zs) (map_both f xs ys)

later_none : (n k : ℕ) (emitted : List LineAt) → AreAllAfter (12 + n) emitted → k ≤ n →
    filter (λ r. r.at == k) (map timed_line_of emitted) ≡ []
later_none n k [] h below = refl
later_none n k (t ∷ ts) h below = search (arith, ne_eqb, later_none n k ts h.1 below)

-- More octets don't change the lines of the octets before them.
pub is_causal : (S : Phase → ℕ → Signatures) → KeepsEarlierLines (reader_by S)
unfolding timed_lines_by
is_causal S = record {
  earlier = λ phase number header xs more k below.
      let all = told_begins (S phase number) header xs more in
      let at_k : TimedLine → Bool = λ r. r.at == k in
      ap (λ ts. filter at_k (map timed_line_of ts)) all.1
      ∙ (ap (filter at_k) (map_both timed_line_of
      (message_lines (read_message (S phase number) header xs))
      all.0)
      ∙ (filter-append at_k (map timed_line_of (message_lines (read_message
      (S phase number) header xs)))
      (map timed_line_of all.0)
      ∙ (ap (λ ls. filter at_k (map timed_line_of
      (message_lines (read_message (S phase number) header xs)))
      ++ ls) (later_none (length xs) k all.0 all.2 below)
      ∙ append-nil (filter at_k (map timed_line_of
      (message_lines (read_message (S phase number) header xs)))))));
}

-- ---- the lines of one octet

module _ (k : ℕ) where
  abbrev At_k : TimedLine → Bool
  At_k r = r.at == k

  abbrev LineClasses : (ts : List LineAt) → List LineClass
  LineClasses ts = map (λ r. r.line_class) (filter At_k (map timed_line_of ts))

  line_classes_append : (xs ys : List LineAt) → LineClasses (xs ++ ys) ≡ LineClasses xs
      ++ LineClasses ys
  line_classes_append xs ys = search (arith, map, map_both, filter-append)

  line_classes_here : (n : ℕ) (ts : List LineAt) → AreLinesAt n ts → n - 12 ≡ k →
      LineClasses ts ≡ map (λ t. line_class_of t.message_line) ts
  line_classes_here n [] h e = refl
  line_classes_here n (t ∷ ts) h e = search (arith, eq-eqb, line_classes_here n ts h.1 e)

  line_classes_elsewhere : (n : ℕ) (ts : List LineAt) → AreLinesAt n ts → n - 12 ≢ k →
      LineClasses ts ≡ []
  line_classes_elsewhere n [] h e = refl
  line_classes_elsewhere n (t ∷ ts) h e = search (arith, ne_eqb, line_classes_elsewhere n ts h.1 e)

  line_classes_before : (n : ℕ) (ts : List LineAt) → Each (λ t. t.at ≤ n) ts → n - 12 < k →
      LineClasses ts ≡ []
  line_classes_before n [] h e = refl
  line_classes_before n (t ∷ ts) h e = search (arith, ne_eqb, line_classes_before n ts h.1 e)

  up_to : (n m : ℕ) (ts : List LineAt) → n ≤ m → Each (λ t. t.at ≤ n) ts → Each (λ t. t.at ≤ m) ts
  up_to n m [] h j = tt
  up_to n m (t ∷ ts) h j = search (arith, up_to n m ts h j.1)

  here_up_to : (n : ℕ) (ts : List LineAt) → AreLinesAt n ts → Each (λ t. t.at ≤ n) ts
  here_up_to n [] h = tt
  here_up_to n (t ∷ ts) h = search (arith, here_up_to n ts h.1)

  turn_of : (n : ℕ) (old more : List LineAt) → Each (λ t. t.at ≤ 12 + n) old →
      AreInLineOrder (LineClasses old) →
      AreOrderedLinesAt ((12 + n) + 1) more → AreInLineOrder (LineClasses (old ++ more))
  turn_of n old more bound old_turn turn = same (cases_lt (n + 1) k) (cases_lt k (n + 1))
    where
      go : (n + 1 ≡ k) ⊎ (n + 1 ≢ k) → AreInLineOrder (LineClasses (old ++ more))
      go (inl e) = rw (
        line_classes_append old more,
        line_classes_before (12 + n) old bound (omega arith),
        line_classes_here ((12 + n) + 1) more turn.0 (omega arith),
      ) turn.1
      go (inr e) = search (arith, line_classes_append, more, line_classes_elsewhere, append-nil)

      same : (n + 1 < k) ⊎ (k ≤ n + 1) → (k < n + 1) ⊎ (n + 1 ≤ k) →
          AreInLineOrder (LineClasses (old ++ more))
      same (inl h) j = go (inr (λ e. omega arith))
      same (inr h) (inl j) = go (inr (λ e. omega arith))
      same (inr h) (inr j) = go (inl (omega arith))

  module _ (S : Signatures) (header : List ℕ) where
    abbrev Ordered : (octets : List ℕ) → Type 0
    Ordered xs = Each (λ t. t.at ≤ 12 + length xs) (message_lines (read_message S header xs))
        × AreInLineOrder (LineClasses (message_lines (read_message S header xs)))

    ordered_none : (m : MessageReading) → HasNoLinesAt 12 m →
        Each (λ t. t.at ≤ 12) (message_lines m) × AreInLineOrder (LineClasses (message_lines m))
    unfolding message_lines
    ordered_none (ReadTo said at stage) h = rw h.0 (tt, inl refl)

    ordered_more : (xs : List ℕ) (b : ℕ) → Ordered xs → Ordered (xs ++ b ∷ [])
    ordered_more xs b h =
        let one = one_more S header (12 + length xs) (read_message S header xs) b
        (stands S header xs) in
        let old = message_lines (read_message S header xs) in
        let e : message_lines (read_message S header (xs ++ b ∷ [])) ≡ old ++ one.0 =
        ap message_lines (message_goes S header xs b) ∙ one.1 in
        rw (e, length_one_more xs b, ← add_assoc) (
          each_append (λ t. t.at ≤ (12 + length xs) + 1) old one.0
              (up_to (12 + length xs) ((12 + length xs) + 1) old (omega arith) h.0)
              (here_up_to ((12 + length xs) + 1) one.0 one.2.0),
          turn_of (length xs) old one.0 h.0 h.1 one.2,
        )

    pub ordered : (xs : List ℕ) → Ordered xs
    ordered xs = grown Ordered ordered_more [] xs
        (ordered_none (read_message S header []) (message_silent S header))

-- The lines of one octet come in their order, and no two have the same class.
pub is_ordered : (S : Phase → ℕ → Signatures) → GivesLinesInOrder (reader_by S)
unfolding timed_lines_by
is_ordered S = record {
  ordered = λ phase number header xs k.
      (ordered k (S phase number) header xs).1;
}
