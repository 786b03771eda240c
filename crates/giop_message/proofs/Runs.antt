-- Octets of a section that are taken as a run: their text, and the stage of the message after them.
use Rattle.std.proofs.Common.{◌≡◌, ℕ, zero, suc, ◌+◌, ◌-◌, ◌<◌, ◌≤◌, Bool, true, false, List, [], ◌∷◌, ◌++◌, length, take, drop, refl, sym, ap, subst, ◌∙◌, append_assoc, append-nil, arith, length-append}
use Rattle.std.proofs.Math.Seq.{take-append_seam}
use Rattle.std.proofs.lemmas.List.{length-take-le, take-append-drop}
use Rattle.giop_print.proofs.Writing.{front-append}
use Rattle.giop_print.specs.Lines.{fault_line}
use Rattle.giop_print.specs.Output.{OutLog, WroteFront}
use Rattle.giop_print.specs.declared.path.Root.{Root}
use Rattle.giop_sig.specs.Types.{Ty}
use Rattle.giop_sig.specs.Table.{Table}
use Rattle.giop_decode.specs.declared.decoder.Decoder.{Decoder}
use Rattle.giop_decode.specs.declared.progress.ValueFault.{ValueFault}
use Rattle.giop_decode.specs.declared.progress.Progress.{Progress}
use Rattle.giop_decode.specs.declared.progress.Progress.TheVariants as progress
use Rattle.giop_decode.specs.ReadResult.{Coding, Read, Done, Fault}
use Rattle.giop_decode.specs.Noted.{nothing_noted, note_lines, noted_of, is_header_root}
use Rattle.giop_decode.specs.DecoderState as decoders
use Rattle.giop_decode.specs.Runs.{added_lines_of_run, IsAnswerToOctet, AreAnswersToOctets, BreaksOff}
use Rattle.giop_decode.specs.Spelling.{lines_text}
use Rattle.giop_decode.proofs.ReadingLaws as readings
use Rattle.giop_message.specs.declared.part.Section.{Section}
use Rattle.giop_message.specs.declared.part.Section.TheVariants as sections
use Rattle.giop_message.specs.Signatures.{Signatures}
use Rattle.giop_message.specs.Messages.{coding_of, Said, end_marks, section_lines, with_front, said_both, section_then, read_message, message_lines, stage_of, root_of, section_call_source, read_after_section, section_and_rest}
use Rattle.giop_message.specs.ReaderOfTable.{first_request_id, is_over}
use Rattle.giop_message.specs.Text.{fault_word}
use Rattle.giop_message.specs.MessageState.{more_lines_text, Decodes, IsFirstIfHeader, is_header, FaultedAt}
use Rattle.giop_message.specs.MessageSteps.{call_line_of_request}
use Rattle.giop_message.proofs.Going.{front_twice}
use Rattle.giop_message.proofs.Dues as whole
use Rattle.giop_message.proofs.Octets.{told_front, stage_front}
use Rattle.giop_message.proofs.Parts.{BegunSection, start, reading, is_named, message_by_reading, IsInsideSection, ReadsAll, IsDoneAt, passed_section_lines, goes_one, inside_on, ends_here}
use Rattle.giop_message.proofs.Sections.{any_text, more_text, done_text, wrong_text, named_in, named_text}
use Rattle.giop_message.proofs.Followings.{id_both, first_none, section_no_id}

-- ---- the last octet of a run

-- The octets are a front, after which the value goes on, and a last octet.
pub record LastOne (o : Coding) (T : Ty) (at : ℕ) (root : Root) (s xs : List ℕ)
    (p : Progress) : Type 0 where
  pub front : List ℕ
  pub octet : ℕ
  pub all : xs ≡ front ++ octet ∷ []
  pub before : AreAnswersToOctets o T at root s front progress.More
  pub answer : IsAnswerToOctet o T at root (s ++ front) octet p

answered_more : (o : Coding) (T : Ty) (at : ℕ) (root : Root) (s : List ℕ) (b : ℕ) (ys : List ℕ) →
    IsAnswerToOctet o T at root s b progress.More →
    AreAnswersToOctets o T at root (s ++ b ∷ []) ys progress.More →
    AreAnswersToOctets o T at root s (b ∷ ys) progress.More
answered_more o T at root s b [] h k = h
answered_more o T at root s b (y ∷ ys) h k = (h, k)

pub last_one : (o : Coding) (T : Ty) (at : ℕ) (root : Root) (s xs : List ℕ) (p : Progress) →
    0 < length xs → AreAnswersToOctets o T at root s xs p → LastOne o T at root s xs p
last_one o T at root s [] p some h = absurd (omega arith)
last_one o T at root s (b ∷ []) p some h =
    record {
      front = [];
      octet = b;
      all = refl;
      before = refl;
      answer =
          subst (λ z. IsAnswerToOctet o T at root z b p) (sym (append-nil s)) h;
    }
last_one o T at root s (b ∷ b' ∷ xs) p some h = search (
  arith,
  answered_more,
  append_assoc,
  last_one o T at root (s ++ b ∷ []) (b' ∷ xs) p (omega arith) h.1,
)

-- if the value goes on after octets, it goes on after each front of them
pub more_fronts : (o : Coding) (T : Ty) (at : ℕ) (root : Root) (k : ℕ) (s xs : List ℕ) →
    AreAnswersToOctets o T at root s xs progress.More →
    AreAnswersToOctets o T at root s (take k xs) progress.More
more_fronts o T at root zero s xs h = refl
more_fronts o T at root (suc k) s [] h = refl
more_fronts o T at root (suc zero) s (b ∷ []) h = h
more_fronts o T at root (suc (suc k)) s (b ∷ []) h = h
more_fronts o T at root (suc k) s (b ∷ b' ∷ xs) h =
    answered_more o T at root s b (take k (b' ∷ xs)) h.0
    (more_fronts o T at root k (s ++ b ∷ []) (b' ∷ xs) h.1)

-- ---- a section after the octets

module _ (w : BegunSection) where
  open w use {S, number, header, section, T}

  abbrev R : Root
  R = root_of section

  abbrev O : Coding
  O = coding_of S header

  abbrev Answered : (octets xs : List ℕ) → Type 0
  Answered octets xs = AreAnswersToOctets O T (start w) R octets xs progress.More

  -- the lines that these octets add after the others
  abbrev pub LinesOf : (octets xs : List ℕ) → List ℕ
  LinesOf octets xs = lines_text number R (added_lines_of_run O T (start w) octets xs)

  abbrev pub Last : (octets xs : List ℕ) (p : Progress) → Type 0
  Last octets xs p = LastOne O T (start w) R octets xs p

  section_goes : (s octets : List ℕ) → read_message S header s ≡ message_by_reading w
      (reading w octets) →
      (xs : List ℕ) → read_message S header (s ++ xs) ≡ message_by_reading w (reading w (octets
      ++ xs))
  section_goes s octets is [] = search (arith, append-nil)
  section_goes s octets is (b ∷ xs) =
      rw (← append_assoc s (b ∷ []) xs, ← append_assoc octets (b ∷ []) xs)
      (section_goes (s ++ b ∷ []) (octets ++ b ∷ []) (goes_one w s octets is b) xs)

  inside_run : (s octets : List ℕ) → IsInsideSection w s octets → (xs : List ℕ) →
      Answered octets xs →
      IsInsideSection w (s ++ xs) (octets ++ xs)
  inside_run s octets i [] h = search (arith, append-nil)
  inside_run s octets i (b ∷ []) h = inside_on w s octets i b h
  inside_run s octets i (b ∷ b' ∷ xs) h =
      rw (← append_assoc s (b ∷ []) (b' ∷ xs), ← append_assoc octets (b ∷ []) (b' ∷ xs))
      (inside_run (s ++ b ∷ []) (octets ++ b ∷ []) (inside_on w s octets i b h.0) (b' ∷ xs) h.1)

  -- if the section goes on after octets, they have no text except the text of their lines
  text_run : (s octets : List ℕ) → IsInsideSection w s octets → (xs : List ℕ) → Answered octets xs →
      (place : ℕ) → more_lines_text S number place header s xs ≡ LinesOf octets xs
  text_run s octets i [] h place =
      whole.text_none S number place header s
      ∙ sym (readings.text_none number R O T (start w) octets)
  text_run s octets i (b ∷ []) h place = search (arith, more_text)
  text_run s octets i (b ∷ b' ∷ xs) h place =
      let on = inside_on w s octets i b h.0 in
      whole.text_both S number place header s (b ∷ []) (b' ∷ xs)
      ∙ (rw (
        more_text w s octets i b h.0 place,
        text_run (s ++ b ∷ []) (octets ++ b ∷ []) on (b' ∷ xs) h.1 (place + length (b ∷ [])),
      )
      (sym (readings.text_both number R O T (start w) octets (b ∷ []) (b' ∷ xs))))

-- ---- lines outside of the header

told_before : (w : BegunSection) (s : List ℕ) (r : Read) → is_header w.section ≡ false →
    read_message w.S w.header s ≡ message_by_reading w r → ReadsAll r →
    first_request_id (message_lines (read_message w.S w.header s)) ≡ first_request_id w.before.lines
told_before w s r other is all = search (
  arith,
  told_front,
  id_both,
  passed_section_lines,
  section_no_id,
  first_none,
)

pub answer_all : (end : ℕ) (named : Bool) (p : Progress) (r : Read) →
    decoders.IsAnswer end named p r → ReadsAll r
answer_all end named progress.Done (Done lines at rest) answer = answer
answer_all end named progress.More (Done lines at rest) answer = absurd answer
answer_all end named progress.Named (Done lines at rest) answer = absurd answer
answer_all end named (progress.Fault kind) (Done lines at rest) answer = absurd answer
answer_all end named p r answer = tt

-- ---- the section ends

done_by : (S : Signatures) (header : List ℕ) (section : Section) (end : ℕ) (named : Bool) (n : ℕ)
    (r : Read) → decoders.IsAnswer end named progress.Done r → IsDoneAt n r → (more : Said)
    × (section_and_rest S header section nothing_noted r
    ≡ with_front more (read_after_section S header section (noted_of (is_header_root
    (root_of section)) r) n []))
unfolding section_then
done_by S header section end named n (Done lines at rest) answer e = (
  record {
    lines = section_lines (root_of section) (section_call_source S header section) nothing_noted
        lines;
    marks = end_marks section (note_lines (is_header_root (root_of section)) nothing_noted lines);
  },
  rw (answer, e) refl,
)
done_by S header section end named n r answer e = absurd answer

fault_by : (S : Signatures) (header : List ℕ) (section : Section) (end : ℕ) (named : Bool)
    (kind : ValueFault) (r : Read) → decoders.IsAnswer end named (progress.Fault kind) r →
    is_over (stage_of (section_and_rest S header section nothing_noted r)) ≡ true
unfolding section_then stage_of is_over
fault_by S header section end named kind (Fault lines at why U) answer = refl
fault_by S header section end named kind _ answer = absurd answer

inside_goes : (w : BegunSection) (s octets : List ℕ) → IsInsideSection w s octets →
    is_over (stage_of (read_message w.S w.header s)) ≡ false
unfolding section_then stage_of is_over
inside_goes w s octets i = search (arith, stage_front, reading)

-- the octets before the last of those that were taken
pub but_last : (octets front : List ℕ) (b n : ℕ) → n ≤ length octets →
    take n octets ≡ front ++ b ∷ [] → take (n - 1) octets ≡ front
but_last octets front b n within e =
    let l : length front ≡ n - 1 = omega (
      arith,
      ap length e,
      length-append front (b ∷ []),
      length-take-le n octets within,
    ) in
    let both : octets ≡ front ++ (b ∷ [] ++ drop n octets) =
    sym (take-append-drop n octets) ∙ (ap (λ z. z ++ drop n octets) e
    ∙ append_assoc front (b ∷ []) (drop n octets)) in
    ap (take (n - 1)) both ∙ (ap (λ k. take k (front ++ (b ∷ [] ++ drop n octets))) (sym l)
    ∙ take-append_seam front (b ∷ [] ++ drop n octets))

-- ---- a run of octets of a message in a section

module _ (w : BegunSection) (s octets : List ℕ) (i : IsInsideSection w s octets) where
  open w use {S, number, header, section, T, before, front}

  -- the reading with these octets; and below it, their lines
  abbrev With : (octets : List ℕ) → Read
  With xs = reading w (octets ++ xs)

  abbrev Lines : (octets : List ℕ) → List ℕ
  Lines xs = LinesOf w octets xs

  -- the lines of an octet that comes after some of these octets
  abbrev DueAt : (fr : List ℕ) (b : ℕ) → List ℕ
  DueAt fr b = lines_text number (R w) (decoders.added_lines (O w) T (start w) (octets ++ fr) b)

  last_octets : (xs fr : List ℕ) (b : ℕ) → xs ≡ fr ++ b ∷ [] →
      (octets ++ fr) ++ b ∷ [] ≡ octets ++ xs
  last_octets xs fr b all = search (arith, append_assoc)

  last_so_far : (xs fr : List ℕ) (b : ℕ) → xs ≡ fr ++ b ∷ [] → (s ++ fr) ++ b ∷ [] ≡ s ++ xs
  last_so_far xs fr b all = search (arith, append_assoc)

  abbrev at_last : (fr : List ℕ) → Answered w octets fr → IsInsideSection w (s ++ fr) (octets ++ fr)
  at_last fr h = inside_run w s octets i fr h

  -- what is written after the lines of the last octet is written after the lines of all octets
  ends_in : (xs fr : List ℕ) (b place : ℕ) (more : List ℕ) → xs ≡ fr ++ b ∷ [] →
      Answered w octets fr →
      more_lines_text S number (place + length fr) header (s ++ fr) (b ∷ []) ≡ DueAt fr b ++ more →
      more_lines_text S number place header s xs ≡ Lines xs ++ more
  ends_in xs fr b place more all h one =
      ap (more_lines_text S number place header s) all
      ∙ (whole.text_both S number place header s fr (b ∷ [])
      ∙ (rw (text_run w s octets i fr h place, one)
      (sym (append_assoc (Lines fr) (DueAt fr b) more)
      ∙ ap (λ z. z ++ more) (sym (ap Lines all
      ∙ readings.text_both number (R w) (O w) T (start w) octets fr (b ∷ []))))))

  -- the section goes on after the octets
  pub run_more : (xs : List ℕ) (place : ℕ) → Answered w octets xs →
      more_lines_text S number place header s xs ≡ Lines xs
  run_more xs place h = search (arith, text_run)

  -- the last octet ends the section
  pub run_done : (xs : List ℕ) (place : ℕ) → Last w octets xs progress.Done →
      more_lines_text S number place header s xs ≡ Lines xs
  run_done xs place l =
      ends_in xs l.front l.octet place [] l.all l.before
      (done_text w (s ++ l.front) (octets ++ l.front) (at_last l.front l.before) l.octet l.answer
      (place + length l.front))
      ∙ append-nil (Lines xs)

  -- the last octet ends an operation
  pub run_named_in : (xs : List ℕ) → Last w octets xs progress.Named → section ≡ sections.Header
  run_named_in xs l = named_in w (s ++ l.front) (octets ++ l.front) (at_last l.front l.before)
      l.octet l.answer

  pub run_named : (xs : List ℕ) (place : ℕ) → Last w octets xs progress.Named →
      more_lines_text S number place header s xs
      ≡ Lines xs ++ call_line_of_request S number header (noted_of true (With xs))
  run_named xs place l =
      ends_in xs l.front l.octet place _ l.all l.before
      (named_text w (s ++ l.front) (octets ++ l.front) (at_last l.front l.before) l.octet l.answer
      (place + length l.front)
      ∙ ap (λ z. DueAt l.front l.octet
      ++ call_line_of_request S number header (noted_of true (reading w z)))
      (last_octets xs l.front l.octet l.all))

  -- the last octet breaks a rule
  pub run_wrong : (xs : List ℕ) (place end : ℕ) (why : ValueFault) → end ≡ place + length xs →
      Last w octets xs (progress.Fault why) →
      more_lines_text S number place header s xs ≡ Lines xs ++ fault_line number
      (fault_word why) end
  run_wrong xs place end why e l =
      let n : (place + length l.front) + 1 ≡ end =
      omega (arith, e, ap length l.all, length-append l.front (l.octet ∷ [])) in
      ends_in xs l.front l.octet place (fault_line number (fault_word why) end) l.all l.before
      (wrong_text w (s ++ l.front) (octets ++ l.front) (at_last l.front l.before) l.octet why
      l.answer (place + length l.front)
      ∙ ap (λ k. DueAt l.front l.octet ++ fault_line number (fault_word why) k) n)

  -- a put failed at one of the octets
  pub run_broken : (xs : List ℕ) (place : ℕ) (a b : OutLog) →
      (broke : BreaksOff T (O w) (start w) number (R w) octets xs a b) →
      WroteFront a b (more_lines_text S number place header s (broke.front ++ broke.octet ∷ []))
  run_broken xs place a b broke =
      let fr = broke.front ++ broke.octet ∷ [] in
      let at = at_last broke.front broke.answers in
      let one = any_text w (s ++ broke.front) (octets ++ broke.front) at broke.octet
      (place + length broke.front) in
      rw (ends_in fr broke.front broke.octet place _ refl broke.answers one)
      (front-append a b (Lines fr) _ broke.wrote)

  -- ---- the stage of the message after the octets

  pub last_answer : (xs : List ℕ) (p : Progress) → Last w octets xs p →
      (end : ℕ) × (named : Bool) × decoders.IsAnswer end named p (With xs)
  last_answer xs p l = search (arith, start, is_named, last_octets, reading)

  pub behind : (xs : List ℕ) → read_message S header (s ++ xs) ≡ message_by_reading w (With xs)
  behind xs = search (arith, section_goes)

  abbrev pub decodes : (C : Table) (xs : List ℕ) (d : Decoder) → w.version ≡ C.version →
      decoders.Reads C T (O w) (start w) number (R w) d (octets ++ xs) →
      Decodes C S number header (s ++ xs) section d
  decodes C xs d same reads = record {
    T = T;
    before = before;
    front = front;
    octets = octets ++ xs;
    since = ap (λ z. z ++ xs) i.since ∙ append_assoc front octets xs;
    is = behind xs;
    first = subst (λ v. IsFirstIfHeader v header section T before front) same i.first;
    reads = reads;
  }

  -- outside of the header, the lines of the octets have no request id
  pub same_id : (xs : List ℕ) (p : Progress) → Last w octets xs p → is_header section ≡ false →
      first_request_id (message_lines (read_message S header (s ++ xs)))
      ≡ first_request_id (message_lines (read_message S header s))
  same_id xs p l other =
      let a = last_answer xs p l in
      told_before w (s ++ xs) (With xs) other (behind xs) (answer_all a.0 a.1 p (With xs) a.2)
      ∙ sym (told_before w s (reading w octets) other i.is (rw i.was_short tt))

  pub done_comes : (xs : List ℕ) → Last w octets xs progress.Done →
      (more : Said) × (read_message S header (s ++ xs) ≡ with_front more
      (read_after_section S header section (noted_of (is_header_root (R w)) (With xs))
      (12 + length (s ++ xs)) []))
  done_comes xs l =
      let a = last_answer xs progress.Done l in
      let last = ends_here w (s ++ l.front) (octets ++ l.front) (at_last l.front l.before) l.octet
      in
      let ends : IsDoneAt (12 + length (s ++ xs)) (With xs) =
      rw (← last_so_far xs l.front l.octet l.all, ← last_octets xs l.front l.octet l.all) last in
      let g = done_by S header section a.0 a.1 (12 + length (s ++ xs)) (With xs) a.2 ends in
      (said_both before g.0, behind xs ∙ (ap (with_front before) g.1 ∙ front_twice before g.0 _))

  pub fault_comes : (ys : List ℕ) (n : ℕ) (why : ValueFault) → n ≤ length ys →
      Last w octets (take n ys) (progress.Fault why) → FaultedAt S header s ys n
  fault_comes ys n why within l =
      let xs = take n ys in
      let a = last_answer xs (progress.Fault why) l in
      record {
        some = omega (
          arith,
          ap length l.all,
          length-append l.front (l.octet ∷ []),
          length-take-le n ys within,
        );
        within = within;
        here = ap (λ m. is_over (stage_of m)) (behind xs)
            ∙ (ap is_over (stage_front before (section_and_rest S header section nothing_noted
            (With xs)))
            ∙ fault_by S header section a.0 a.1 why (With xs) a.2);
        not_before = rw (but_last ys l.front l.octet n within l.all)
            (inside_goes w (s ++ l.front) (octets ++ l.front) (at_last l.front l.before));
      }
