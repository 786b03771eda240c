-- One octet of a section that goes on: its text, with the fault or the call if there is one.
use Rattle.std.proofs.Common.{arith, ◌≡◌, ℕ, ◌+◌, ◌-◌, Bool, true, false, List, [], ◌∷◌, ◌++◌, length, ◌⊎◌, Option, Some, None, refl, sym, ap, subst, ◌∙◌, append-nil, append_assoc}
use Rattle.std.specs.Prelude.{◌&&◌, ◌||◌, codes, IfSome, if◌then◌else◌}
use Rattle.std.specs.List.{AllByRecursion as Each}
use Rattle.std.proofs.lemmas.Bool.{false≢true, eqb-true}
use Rattle.giop_print.specs.Lines.{fault_line}
use Rattle.giop_print.specs.declared.path.Root.{Root}
use Rattle.giop_sig.specs.HeaderTypes.{header_type}
use Rattle.giop_decode.specs.declared.progress.ValueFault.{ValueFault}
use Rattle.giop_decode.specs.declared.progress.Progress.{Progress}
use Rattle.giop_decode.specs.declared.progress.Progress.TheVariants as progress
use Rattle.giop_decode.specs.ReadResult
use Rattle.giop_decode.specs.ReadResult.{ValueAt, Read, Done, Short, Fault, lines_of}
use Rattle.giop_decode.specs.Fits.{FitsIn, IsSoundReading}
use Rattle.giop_decode.specs.ReadingSteps.{AtMostOneAt}
use Rattle.giop_decode.specs.Noted.{Noted, nothing_noted, note_line, note_lines, noted_of, ends_in_string, ends_text, is_member, is_header_root, ends_operation, names_operation}
use Rattle.giop_decode.specs.DecoderState as decoders
use Rattle.giop_decode.specs.Runs.{IsAnswerToOctet}
use Rattle.giop_decode.specs.Spelling.{lines_text}
use Rattle.giop_decode.proofs.ReadingLaws.{front_inside, lines_front, noted-append, reading_keeps}
use Rattle.giop_message.specs.declared.part.Section.{Section}
use Rattle.giop_message.specs.declared.part.Section.TheVariants as sections
use Rattle.giop_message.specs.Headers.{minor, kind}
use Rattle.giop_message.specs.Messages.{coding_of, CallSource, CallLine, line_at, call_line_if_named, call_lines_after, is_request, root_of, section_call_source}
use Rattle.giop_message.specs.ReaderOfTable.{line_class_of, text_of}
use Rattle.giop_message.specs.Text.{fault_word}
use Rattle.giop_message.specs.MessageState.{message_line_text, message_lines_text, more_lines_text, IsFirstIfHeader}
use Rattle.giop_message.specs.MessageSteps.{call_line_with, fault_text, call_line_if_shown, call_line_of_request}
use Rattle.giop_message.proofs.Spelling.{call_said}
use Rattle.giop_message.proofs.LastParts.{NoCallIfFaulted, request_ends, header_fit, LastPartIsNotOperation, is_done, root_no_call}
use Rattle.giop_message.proofs.Operations.{AreEncapsulationsIfInside, closed_root, fits_hold, step_closed}
use Rattle.giop_message.proofs.Octets.{first_call, no_first}
use Rattle.giop_message.proofs.StepLines.{EndsNoText, one_of}
use Rattle.giop_message.proofs.Parts.{BegunSection, start, is_named, IsInsideSection, Next, Added, noted_before, next_is, added_none, added_now, lines_due, text_here}
use Rattle.giop_decode.specs.DecoderState.{IsAnswer, IsFault}
use Rattle.giop_message.specs.Signatures.{Signatures}

pub fault_is : (number place end : ℕ) (named : Bool) (kind : ValueFault) (r : Read) →
    IsAnswer end named (progress.Fault kind) r →
    fault_text number place r ≡ fault_line number (fault_word kind) place
fault_is number place end named kind (Fault lines at why T) answer = search (arith)
fault_is number place end named kind r answer = absurd answer

pub no_fault : (number place end : ℕ) (named : Bool) (p : Progress) (r : Read) →
    IsAnswer end named p r → (IsFault p → ⊥) → fault_text number place r ≡ []
no_fault number place end named p (Done lines at rest) answer none = refl
no_fault number place end named p (Short lines at outer leaf) answer none = refl
no_fault number place end named progress.More (Fault lines at why T) answer none = absurd answer
no_fault number place end named progress.Named (Fault lines at why T) answer none = absurd answer
no_fault number place end named progress.Done (Fault lines at why T) answer none = absurd answer
no_fault number place end named (progress.Fault kind) (Fault lines at why T) answer none =
    absurd (none tt)

-- ---- calls

and_false : (is test : Bool) → test ≡ false → (is && test) ≡ false
and_false true test e = e
and_false false test e = refl

or_both : (a b : Bool) → (a || b) ≡ false → (a ≡ false) × (b ≡ false)
or_both true b e = absurd cc
or_both false b e = (refl, e)

unnamed : (is : Bool) (lines : List ValueAt) → names_operation true lines ≡ false →
    Each (λ l. ends_operation is l ≡ false) lines
unnamed is [] e = tt
unnamed is (l ∷ ls) e =
    let b = or_both (ends_operation true l) (names_operation true ls) e in (
      and_false is (is_member (codes "operation") l.path && ends_text l.value) b.0,
      unnamed is ls b.1,
    )

one_call : (number place offset at id : ℕ) (name : List ℕ) (interface : Option (List ℕ)) →
    message_line_text number (place + (at - offset)) (CallLine id name interface)
    ≡ call_line_with number id name interface
unfolding message_line_text line_class_of text_of
one_call number place offset at id name interface = call_said number id name interface

call_shown : (number place offset at id : ℕ) (name : List ℕ) (interface : Option (List ℕ))
    (test : Bool) → message_lines_text number place offset
    (if test then line_at at (CallLine id name interface) ∷ [] else [])
    ≡ (if test then call_line_with number id name interface else [])
unfolding message_lines_text line_at
call_shown number place offset at id name interface true = search (arith, append-nil, one_call)
call_shown number place offset at id name interface false = refl

called_is : (number place offset at : ℕ) (id : Option ℕ) (name interface : Option (List ℕ)) →
    message_lines_text number place offset (call_line_if_named at id name interface)
    ≡ call_line_if_shown number id name interface
unfolding message_lines_text call_line_if_named call_line_if_shown
called_is number place offset at None name interface = refl
called_is number place offset at (Some id) None interface = refl
called_is number place offset at (Some id) (Some name) interface = search (arith, call_shown)

-- the call of the line that ends an operation
call_by : (is : CallSource) (number place offset : ℕ) (l : ValueAt) (h : Noted) →
    ends_operation true l ≡ true → message_lines_text number place offset (call_lines_after is l h)
    ≡ (if is.is_request then call_line_if_shown number h.request_id h.name
    (is.interface h.key) else [])
unfolding call_lines_after message_lines_text
call_by is number place offset l h e = by is.is_request
  where
    by : (request : Bool) → message_lines_text number place offset
        (if ends_operation request l then call_line_if_named l.at h.request_id h.name
        (is.interface h.key)
        else [])
        ≡ (if request then call_line_if_shown number h.request_id h.name
        (is.interface h.key) else [])
    by true = search (arith, called_is)
    by false = refl

-- if the lines end an operation and are at most one, there is one line, and it ends the operation
named_line : (n : ℕ) (lines : List ValueAt) → AtMostOneAt n lines → names_operation true lines
    ≡ true →
    (l : ValueAt) × (lines ≡ l ∷ []) × (ends_operation true l ≡ true)
named_line n [] one e = absurd (false≢true e)
named_line n (l ∷ []) one e = search (arith, false≢true)
named_line n (l ∷ l' ∷ ls) one e = absurd one

and_last : (a b : Bool) → (a && b) ≡ true → b ≡ true
and_last true b e = e
and_last false b e = absurd (false≢true e)

-- if a line ends an operation, the notes after it are those after the whole step
muted : (lines : List ValueAt) (st : Read) (l : ValueAt) → EndsNoText st ⊎
    (ends_in_string st ≡ false) →
    lines_of st ≡ l ∷ [] → ends_operation true l ≡ true →
    noted_of true (ReadResult.with_front lines st)
    ≡ note_line true (note_lines true nothing_noted lines) l
muted lines st l closed e ends = search (
  arith,
  front_inside,
  lines_front,
  noted-append,
  false≢true,
  and_last,
)

never : (lines : List ValueAt) → Each (λ l. ends_operation false l ≡ false) lines
never [] = tt
never (l ∷ ls) = (refl, never ls)

none_named : (lines : List ValueAt) → names_operation false lines ≡ false
none_named [] = refl
none_named (l ∷ ls) = none_named ls

request_kind : (header : List ℕ) → is_request header ≡ true → kind header ≡ 0
unfolding is_request
request_kind header e = eqb-true (kind header) 0 e

-- Only a line below a header's root ends an operation; in other sections no line does.
unnamed_by : (S : Signatures) (header : List ℕ) (section : Section) (lines : List ValueAt) →
    names_operation (is_header_root (root_of section)) lines ≡ false →
    Each (λ l. ends_operation (section_call_source S header section).is_request l ≡ false) lines
unnamed_by S header sections.Header lines e = search (arith, unnamed)
unnamed_by S header section lines e = never lines

named_header : (section : Section) (lines : List ValueAt) →
    names_operation (is_header_root (root_of section)) lines ≡ true → section ≡ sections.Header
named_header sections.Header lines e = refl
named_header section lines e = search (arith, false≢true, none_named)

-- the call of a step's line
call_here : (S : Signatures) (number place offset : ℕ) (header : List ℕ) (section : Section)
    (before : List ValueAt) (st : Read) (n : ℕ) → AtMostOneAt n (lines_of st) →
    EndsNoText st ⊎ (ends_in_string st ≡ false) →
    names_operation (is_header_root (root_of section)) (lines_of st) ≡ true →
    message_lines_text number place offset (first_call (root_of section)
    (section_call_source S header section)
    (note_lines (is_header_root (root_of section)) nothing_noted before) (lines_of st))
    ≡ call_line_of_request S number header (noted_of true (ReadResult.with_front before st))
unfolding call_line_of_request
call_here S number place offset header sections.Header before st n one closed named = search (
  arith,
  named_line,
  first_call,
  call_by,
  muted,
)
call_here S number place offset header section before st n one closed named = search (
  arith,
  false≢true,
  none_named,
)

done_is : (end : ℕ) (named : Bool) (st : Read) (lines : List ValueAt) →
    decoders.IsAnswer end named progress.Done (ReadResult.with_front lines st) → is_done st ≡ true
done_is end named (Done ls at rest) lines answer = refl
done_is end named r lines answer = absurd answer

none_faulted : (is : Bool) (end : ℕ) (named : Bool) (kind : ValueFault) (st : Read) (lines : List
    ValueAt) →
    decoders.IsAnswer end named (progress.Fault kind) (ReadResult.with_front lines st) →
    NoCallIfFaulted is st → Each (λ l. ends_operation is l ≡ false) (lines_of st)
none_faulted is end named kind (Fault ls at why U) lines answer none = none
none_faulted is end named kind r lines answer none = absurd answer

more_unnamed : (end : ℕ) (named : Bool) (r : Read) → decoders.IsAnswer end named progress.More r →
    named ≡ false
more_unnamed end named (Short lines at outer leaf) answer = answer
more_unnamed end named r answer = absurd answer

named_is : (end : ℕ) (named : Bool) (r : Read) → decoders.IsAnswer end named progress.Named r →
    named ≡ true
named_is end named (Short lines at outer leaf) answer = answer
named_is end named r answer = absurd answer

-- what a header has begun and not ended fits the header's type
sound_by : (w : BegunSection) (s octets : List ℕ) (i : IsInsideSection w s octets) →
    header_type w.version (minor w.header) (kind w.header) ≡ Some w.T → FitsIn w.T i.outer i.leaf
sound_by w s octets i found =
    let reads = reading_keeps 24 (coding_of w.S w.header) [] w.T
    (header_fit w.version (minor w.header) (kind w.header) w.T found) (start w) octets in
    (subst (IsSoundReading w.T (start w + length octets)) i.was_short reads).1

-- each encapsulation that has begun is of the type of an encapsulation
holds_by : (w : BegunSection) (s octets : List ℕ) (i : IsInsideSection w s octets) →
    w.section ≡ sections.Header →
    AreEncapsulationsIfInside i.outer
holds_by w s octets i e = fits_hold i.outer w.T i.leaf
    (sound_by w s octets i
    (subst (λ x. IsFirstIfHeader w.version w.header x w.T w.before w.front) e i.first).0)

-- ---- an octet of a message

module _ (w : BegunSection) (s octets : List ℕ) (i : IsInsideSection w s octets) (b : ℕ) where
  open w use {S, version, number, header, section, T}

  abbrev R : Root
  R = root_of section

  abbrev Behind : Read
  Behind = Next w s octets i b

  abbrev St : Read
  St = Added w s octets i b

  -- the octet's lines; and below them, its fault, its call, and its whole text
  abbrev Lines : List ℕ
  Lines = lines_text number R (decoders.added_lines (coding_of S header) T (start w) octets b)

  abbrev Wrongs : (place : ℕ) → List ℕ
  Wrongs place = fault_text number (place + 1) Behind

  abbrev Call : (place : ℕ) → List ℕ
  Call place =
      message_lines_text number place (12 + length s)
      (first_call R (section_call_source S header section) (noted_before w s octets i b)
      (lines_of St))

  abbrev Due : (place : ℕ) → List ℕ
  Due place = more_lines_text S number place header s (b ∷ [])

  abbrev End : ℕ
  End = start w + length (octets ++ b ∷ [])

  abbrev Names : Bool
  Names = is_named w octets b

  abbrev Is : (progress : Progress) → Type 0
  Is p = IsAnswerToOctet (coding_of S header) T (start w) R octets b p

  -- no line of the octet ends an operation that may have a call
  abbrev Silences : Type 0
  Silences =
      Each (λ l. ends_operation (section_call_source S header section).is_request l ≡ false)
      (lines_of St)

  -- the last octet of a section ends no operation
  ends_by : is_done St ≡ true → Silences
  ends_by done = go section i.first
    where
      go : (x : Section) → IsFirstIfHeader version header x T w.before w.front →
          Each (λ l. ends_operation (section_call_source S header x).is_request l ≡ false)
          (lines_of St)
      go sections.Header first = of_header (is_request header) refl
        where
          of_header : (is : Bool) → is_request header ≡ is →
              Each (λ l. ends_operation is l ≡ false) (lines_of St)
          of_header false r = never (lines_of St)
          of_header true r =
              let found = subst (λ k. header_type version (minor header) k ≡ Some T)
              (request_kind header r) first.0 in
              let ends = subst (λ o. IfSome o LastPartIsNotOperation) found
              (request_ends version (minor header)) in
              root_no_call (coding_of S header) true T _ _ _ b ends
              (header_fit version (minor header) (kind header) T first.0)
              (sound_by w s octets i first.0) done
      go section first = never (lines_of St)

  -- the text has three parts; the last two are these
  joined_text : (place : ℕ) (fault call : List ℕ) → Wrongs place ≡ fault → Call place ≡ call →
      Due place ≡ Lines ++ (fault ++ call)
  joined_text place fault call is_fault is_call =
      text_here w s octets i b place ∙ (append_assoc Lines (Wrongs place) (Call place)
      ∙ rw (is_fault, is_call) refl)

  uncalled : (place : ℕ) → Silences → Call place ≡ []
  unfolding message_lines_text
  uncalled place each = search (arith, no_first, noted_before)

  -- the text of any octet
  pub any_text : (place : ℕ) → Due place ≡ Lines ++ (Wrongs place ++ Call place)
  any_text place = search (arith, joined_text)

  -- the text of an octet after which the section goes on
  pub more_text : Is progress.More → (place : ℕ) → Due place ≡ Lines
  more_text answer place =
      let none = subst (λ ls. names_operation (is_header_root R) ls ≡ false)
      (lines_due w s octets i b) (more_unnamed End Names Behind answer) in
      joined_text place [] [] (no_fault number (place + 1) End Names progress.More Behind answer
      (λ fault. fault))
      (uncalled place (unnamed_by S header section (lines_of St) none))
      ∙ append-nil Lines

  -- the text of the last octet of the section
  pub done_text : Is progress.Done → (place : ℕ) → Due place ≡ Lines ++ []
  done_text answer place =
      let is = subst (decoders.IsAnswer End Names progress.Done) (next_is w s octets i b) answer in
      joined_text place [] [] (no_fault number (place + 1) End Names progress.Done Behind answer
      (λ fault. fault))
      (uncalled place (ends_by (done_is End Names St i.lines is)))

  -- the text of an octet that breaks a rule
  pub wrong_text : (why : ValueFault) → Is (progress.Fault why) → (place : ℕ) →
      Due place ≡ Lines ++ fault_line number (fault_word why) (place + 1)
  wrong_text why answer place =
      let is = subst (decoders.IsAnswer End Names (progress.Fault why)) (next_is w s octets i b)
      answer in
      let none = none_faulted (section_call_source S header section).is_request End Names why St
      i.lines is
      (added_none w s octets i b) in
      joined_text place _ [] (fault_is number (place + 1) End Names why Behind answer)
      (uncalled place none)
      ∙ ap (λ z. Lines ++ z) (append-nil _)

  -- the text of an octet that ends an operation
  pub named_in : Is progress.Named → section ≡ sections.Header
  named_in answer = search (arith, named_header, named_is)

  pub named_text : Is progress.Named → (place : ℕ) →
      Due place ≡ Lines ++ call_line_of_request S number header (noted_of true Behind)
  named_text answer place =
      let now = added_now w s octets i b in
      let named = subst (λ ls. names_operation (is_header_root R) ls ≡ true)
      (lines_due w s octets i b) (named_is End Names Behind answer) in
      let closed = closed_root _ (step_closed (coding_of S header) [] i.outer i.leaf _ b
      (holds_by w s octets i (named_in answer))) in
      joined_text place [] _ (no_fault number (place + 1) End Names progress.Named Behind answer
      (λ fault. fault))
      (call_here S number place (12 + length s) header section i.lines St _ (one_of _ St now) closed
      named
      ∙ ap (λ r. call_line_of_request S number header (noted_of true r)) (sym
      (next_is w s octets i b)))
