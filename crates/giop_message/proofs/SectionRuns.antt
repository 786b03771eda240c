-- A message that follows a list of octets, in a section whose decoder took a run of octets: what it
-- wrote, and the stage of the message after them.
use Rattle.std.proofs.Common.{◌≡◌, append-nil, Result, Ok, Err, IsErr, ℕ, zero, suc, ◌+◌, ◌<◌, ◌≤◌, Bool, true, false, List, [], ◌∷◌, ◌++◌, length, take, drop, map, get_or, Option, Some, None, refl, sym, ap, subst, ◌∙◌, append_assoc, length-append, arith}
use Rattle.std.specs.Prelude.{cond, IfOk}
use Rattle.std.proofs.lemmas.List.{length-take-le, length_push, take-append-drop, take-append-le, take-take, take_at}
use Rattle.std.proofs.lemmas.Bool.{false≢true}
use Rattle.giop_print.proofs.Writing.{writes_failed, wrote-front}
use Rattle.giop_print.specs.Lines.{fault_line}
use Rattle.giop_print.specs.Output.{OutLog, Wrote, WroteFront, Writes}
use Rattle.giop_print.specs.declared.path.Root.{Root}
use Rattle.giop_print.specs.declared.path.Root.TheVariants as roots
use Rattle.giop_sig.specs.Types.{Ty}
use Rattle.giop_sig.specs.Table.{Table, seen, in_version}
use Rattle.giop_decode.specs.declared.decoder.Decoder.{Decoder}
use Rattle.giop_decode.specs.declared.progress.ValueFault.{ValueFault}
use Rattle.giop_decode.specs.declared.progress.Progress.{Progress}
use Rattle.giop_decode.specs.declared.progress.Progress.TheVariants as progress
use Rattle.giop_decode.specs.ReadResult.{Coding, Read, Done, Short, Fault}
use Rattle.giop_decode.specs.Noted.{nothing_noted, noted_of, is_header_root}
use Rattle.giop_decode.specs.DecoderState as decoders
use Rattle.giop_decode.specs.Runs.{AreAnswersToOctets, BreaksOff}
use Rattle.giop_message.specs.Phases.{Phase}
use Rattle.giop_message.specs.declared.message.Message.{Message as Struct_of}
use Rattle.giop_message.specs.declared.part.Section.{Section}
use Rattle.giop_message.specs.declared.part.Part.TheVariants as parts
use Rattle.giop_message.specs.declared.part.Section.TheVariants as sections
use Rattle.giop_message.specs.declared.part.Rest.{Rest}
use Rattle.giop_message.specs.declared.body_type.BodyTypeId.{BodyTypeId}
use Rattle.giop_message.specs.Headers.{minor, kind}
use Rattle.giop_message.specs.Signatures.{Signatures, Answer, Answers, signatures_of}
use Rattle.giop_message.specs.Messages.{coding_of, Mark, name_marks, end_marks, message_marks, section_then, read_message, message_lines, root_of, read_after_section}
use Rattle.giop_message.specs.HeaderEnds.{HeaderEnd, CallEvent, Header_end, header_end_at, header_ends, operation_of, raise_event, after_event, after_ends, AgreesAtEnds}
use Rattle.giop_message.specs.ReaderOfTable.{first_request_id}
use Rattle.giop_message.specs.Text.{fault_word}
use Rattle.giop_message.specs.MessageState.{more_lines_text, body_type, Decodes, PartFollows, FitsVersion, FitsPart, Fits, is_header, in_header, Follows, FaultedAt}
use Rattle.giop_message.specs.StageSteps.{read_more}
use Rattle.giop_message.specs.MessageSteps.{call_line_of_request, section_event, NewPartReads}
use Rattle.giop_message.specs.DueOctets.{TakesFront}
use Rattle.giop_message.proofs.HeaderEndLaws.{header_ends_both, header_ends_none, answers_first}
use Rattle.giop_message.proofs.Marks.{marks_front, marks_after_reading, ends_are, unmarked, marks_ended, rest_goes_unmarked, padding_step_marks}
use Rattle.giop_message.proofs.Going.{message_resumes}
use Rattle.giop_message.proofs.Rests.{comes_more}
use Rattle.giop_message.proofs.Parts.{BegunSection, start, reading, message_by_reading, IsInsideSection}
use Rattle.giop_message.proofs.Followings.{header_only, id_noted, IsMovedBy, is_at, follows_on}
use Rattle.giop_message.proofs.Runs.{Last, LinesOf, last_one, more_fronts, run_more, run_done, run_named_in, run_named, run_wrong, run_broken, decodes, same_id, answer_all, behind, last_answer, done_comes, fault_comes}

-- if a call failed, nothing is said of its result
pub if_err : {A E : Type 0} (P : A → Type 0) (r : Result A E) → IsErr r → IfOk r P
if_err P (Ok x) e = absurd (false≢true e)
if_err P (Err e) failed = tt

-- the first octet of octets
pub first_alone : (octets : List ℕ) → 0 < length octets → take 1 octets ≡ get_or octets 0 0 ∷ []
first_alone [] some = absurd (omega arith)
first_alone (x ∷ xs) some = refl

-- ---- a message that follows a list of octets

-- the message is in this section, and the decoder reads the section
pub record ReadSection : Type 0 where
  pub C : Table
  pub answers : Answers
  pub phase : Phase
  pub number : ℕ
  pub header : List ℕ
  pub m : Struct_of
  pub s : List ℕ
  pub follows : Follows C answers phase number header m s
  pub section : Section
  pub is : m.part ≡ parts.Typed section
  pub fits : FitsVersion C (minor m.header) m.decoder

abbrev pub standing : {C : Table} {answers : Answers} {phase : Phase} {number : ℕ} {header : List ℕ}
    {m : Struct_of}
    {s : List ℕ} {section : Section} → Follows C answers phase number header m s →
    m.part ≡ parts.Typed section → Fits C m → ReadSection
standing {C} {m = m} f is fits =
    let e = subst (FitsPart C (minor m.header) m.at m.decoder) is fits in
    record {
      C = C;
      answers = _;
      phase = _;
      number = _;
      header = _;
      m = m;
      s = _;
      follows = f;
      section = _;
      is = is;
      fits = e;
    }

module _ (t : ReadSection) where
  open t use {C, answers, phase, number, header, m, s, follows, section, is}

  abbrev S : Signatures
  S = signatures_of C (answers number) phase

  abbrev opened : Decodes C S number header s section m.decoder
  opened = subst (PartFollows C answers phase number header s m.decoder) is follows.stands

  abbrev octets_of : List ℕ
  octets_of = opened.octets

  abbrev begun : BegunSection
  begun =
      record {
        S = S;
        version = C.version;
        number = number;
        header = header;
        section = section;
        T = opened.T;
        before =
            opened.before;
        front = opened.front;
      }

  inside : IsInsideSection begun s octets_of
  inside =
      let read_more = ap (λ leaf. decoders.read_by_leaf (seen m.decoder.forbids_wide C) m.decoder
      leaf
      opened.reads.lines
      (start begun + length octets_of)) t.fits.fits.goes_on in
      record {
        since = opened.since;
        is = opened.is;
        first = opened.first;
        lines = opened.reads.lines;
        outer = _;
        leaf = _;
        was_short = opened.reads.is ∙ read_more;
      }

  abbrev LastOf : (octets : List ℕ) (p : Progress) → Type 0
  LastOf xs p = Last begun octets_of xs p

  abbrev ReadsWith : (d' : Decoder) (octets : List ℕ) → Type 0
  ReadsWith d' xs = decoders.Reads C opened.T (coding_of S header) (start begun) number
      (root_of section)
      d' (octets_of ++ xs)

  abbrev pub ReadWith : (octets : List ℕ) → Read
  ReadWith xs = reading begun (octets_of ++ xs)

  kept_id : (xs : List ℕ) (p : Progress) → LastOf xs p → (inside : Bool) →
      is_header section ≡ inside →
      m.id ≡ cond inside None (first_request_id (message_lines (read_message S header (s ++ xs))))
  kept_id xs p l true e = follows.id ∙ rw (is, e) refl
  kept_id xs p l false e = follows.id ∙ rw (is, e) (sym (same_id begun s octets_of inside xs p l e))

  -- the section goes on
  section_on : (xs : List ℕ) (p : Progress) → LastOf xs p → (n : Struct_of) →
      IsMovedBy m n (length xs) → n.id ≡ m.id → n.part ≡ parts.Typed section →
      ReadsWith n.decoder xs →
      Follows C answers phase number header n (s ++ xs)
  section_on xs p l n move id part reads =
      follows_on follows xs move (id ∙ rw part (kept_id xs p l (is_header section) refl))
      (subst (PartFollows C answers phase number header (s ++ xs) n.decoder) (sym part)
      (decodes begun s octets_of inside C xs n.decoder refl reads))

  ended_id : (xs : List ℕ) → LastOf xs progress.Done → (d' : Decoder) → ReadsWith d' xs →
      (id : Option ℕ) (inside : Bool) →
      is_header section ≡ inside → id ≡ cond inside (noted_of true (ReadWith xs)).request_id m.id →
      id ≡ first_request_id (message_lines (read_message S header (s ++ xs)))
  ended_id xs l d' reads id false e id_is = id_is ∙ kept_id xs progress.Done l false e
  ended_id xs l d' reads id true e id_is =
      id_is ∙ id_noted (decodes begun s octets_of inside C xs d' refl reads)
      (header_only section e)

  -- if P holds of each reading of the decoder, it holds of this one
  pub by_reads : {P : Ty → Coding → ℕ → ℕ → Root → List ℕ → Type 0} →
      ((T : Ty) (o : Coding) (at number : ℕ) (root : Root) (xs : List ℕ) →
      decoders.Reads C T o at number root m.decoder xs → P T o at number root xs) →
      P opened.T (coding_of S header) (start begun) number (root_of section) octets_of
  by_reads each = each opened.T (coding_of S header) (start begun) number (root_of section)
      octets_of
      opened.reads

  -- a put failed at one of the octets
  abbrev pub Breaks : (octets : List ℕ) (a b : OutLog) → Type 0
  Breaks xs a b = BreaksOff opened.T (coding_of S header) (start begun) number (root_of section)
      octets_of
      xs a b

  -- The decoder took the first `n` octets, and this is its answer to the last of them.
  pub record Took (octets : List ℕ) (n : ℕ) (d' : Decoder) (p : Progress) : Type 0 where
    pub within : n ≤ length octets
    pub some : 0 < n
    pub takes : decoders.TakesRun C opened.T (coding_of S header) (start begun) number
        (root_of section) d' octets_of (take n octets) p

  abbrev pub took : {d' : Decoder} {p q : Progress} (octets : List ℕ) (n : ℕ) → n ≤ length octets →
      0 < n → decoders.TakesRun C opened.T (coding_of S header) (start begun) number
      (root_of section) d'
      octets_of (take n octets) q → q ≡ p → Took octets n d' p
  took octets n within some takes e = record {
    within = within;
    some = some;
    takes = subst (decoders.TakesRun C opened.T (coding_of S header) (start begun) number
        (root_of section) _ octets_of (take n octets)) e takes;
  }

-- the text of these octets; and below it, their lines
abbrev Text : (t : ReadSection) (octets : List ℕ) (n place : ℕ) → List ℕ
Text t octets n place = more_lines_text (S t) t.number place t.header t.s (take n octets)

abbrev ValueLine : (t : ReadSection) (octets : List ℕ) (n : ℕ) → List ℕ
ValueLine t octets n = LinesOf (begun t) (octets_of t) (take n octets)

module _ {t : ReadSection} {octets : List ℕ} {n : ℕ} {d' : Decoder} where
  open t use {C, answers, phase, number, header, m, s, follows, section}

  last : (p : Progress) → Took t octets n d' p → LastOf t (take n octets) p
  last p k = search (arith, take, length-take-le, last_one, start)

  moved : (p : Progress) → Took t octets n d' p → (m' : Struct_of) → IsMovedBy m m' n →
      IsMovedBy m m' (length (take n octets))
  moved p k m' move = search (arith, length-take-le)

  -- ---- the text of these octets

  pub text_more : Took t octets n d' progress.More → (place : ℕ) →
      Text t octets n place ≡ ValueLine t octets n
  text_more k place = run_more (begun t) s (octets_of t) (inside t) (take n octets) place
      k.takes.answers

  pub text_done : Took t octets n d' progress.Done → (place : ℕ) →
      Text t octets n place ≡ ValueLine t octets n
  text_done k place = run_done (begun t) s (octets_of t) (inside t) (take n octets) place
      (last progress.Done k)

  pub text_named : Took t octets n d' progress.Named → (place : ℕ) →
      Text t octets n place ≡ ValueLine t octets n
      ++ call_line_of_request (S t) m.number m.header (noted_of true (ReadWith t (take n octets)))
  text_named k place =
      let heard = noted_of true (ReadWith t (take n octets)) in
      run_named (begun t) s (octets_of t) (inside t) (take n octets) place (last progress.Named k)
      ∙ (ap (λ x. ValueLine t octets n ++ call_line_of_request (S t) x header heard)
      (sym follows.same_number)
      ∙ ap (λ x. ValueLine t octets n ++ call_line_of_request (S t) m.number x heard)
      (sym follows.same_header))

  pub text_wrong : (why : ValueFault) → Took t octets n d' (progress.Fault why) → (place : ℕ) →
      Text t octets n place ≡ ValueLine t octets n
      ++ fault_line m.number (fault_word why) (place + n)
  text_wrong why k place =
      let xs = take n octets in
      let end : place + n ≡ place + length xs = omega (arith, length-take-le n octets k.within) in
      run_wrong (begun t) s (octets_of t) (inside t) xs place (place + n) why end
      (last (progress.Fault why) k)
      ∙ ap (λ x. ValueLine t octets n ++ fault_line x (fault_word why) (place + n))
      (sym follows.same_number)

  -- ---- the stage of the message after these octets

  -- if the last octet ends an operation, the decoder is reading a header
  pub keeps_noted_header : Took t octets n d' progress.Named →
      decoders.KeepsNoted C roots.Header d' (ReadWith t (take n octets))
  keeps_noted_header k =
      let in_it = run_named_in (begun t) s (octets_of t) (inside t) (take n octets)
      (last progress.Named k) in
      subst (λ x. decoders.KeepsNoted C (root_of x) d' (ReadWith t (take n octets))) in_it
      k.takes.keeps_noted

  pub went_on : {p : Progress} → Took t octets n d' p → (decoders.IsFault p → ⊥) →
      (m' : Struct_of) → IsMovedBy m m' n → m'.id ≡ m.id →
      m'.part ≡ parts.Typed section → m'.decoder ≡ d' →
      Follows C answers phase number header m' (s ++ (take n octets))
  went_on {p} k going m' move id part decoder = section_on t (take n octets) p (last p k) m'
      (moved p k m' move) id part (rw decoder (k.takes.reads going))

  pub went_done : Took t octets n d' progress.Done → (m1 m2 : Struct_of) → IsMovedBy m m1 n →
      m1.id ≡ m.id → NewPartReads C answers phase number header m1 m2 (s ++ (take n octets))
      (read_after_section (S t) header section
      (noted_of (is_header_root (root_of section)) (ReadWith t (take n octets)))
      (12 + length (s ++ (take n octets))) []) → IsMovedBy m m2 n → m2.id ≡ cond (is_header section)
      (noted_of true (ReadWith t (take n octets))).request_id m1.id →
      in_header m2.part ≡ false → Follows C answers phase number header m2 (s ++ (take n octets))
  went_done k m1 m2 move_1 id_1 arrives move_2 id_2 past =
      let l = last progress.Done k in
      let g = done_comes (begun t) s (octets_of t) (inside t) (take n octets) l in
      let id_m = ap (cond (is_header section)
      (noted_of true (ReadWith t (take n octets))).request_id) id_1 in
      let id = ended_id t (take n octets) l d' (k.takes.reads (λ fault. fault)) m2.id
      (is_header section) refl (id_2 ∙ id_m) in
      let at = is_at follows (take n octets) (moved progress.Done k m1 move_1) in
      follows_on follows (take n octets) (moved progress.Done k m2 move_2) (rw past id)
      (arrives at g.0 g.1)

  pub went_wrong : (why : ValueFault) → Took t octets n d' (progress.Fault why) →
      FaultedAt (S t) header s octets n
  went_wrong why k = fault_comes (begun t) s (octets_of t) (inside t) octets n why k.within
      (last (progress.Fault why) k)

-- ---- a header ends, or a name ends

-- an answer that isn't the end of the section
abbrev IsNoEnd : (progress : Progress) → Type 0
IsNoEnd progress.Done = ⊥
IsNoEnd p = Unit {0}

answer_unended : (section : Section) (end : ℕ) (named : Bool) (p : Progress) (r : Read) →
    decoders.IsAnswer end named p r → IsNoEnd p → marks_after_reading section nothing_noted r ≡ []
answer_unended section end named p (Short lines at outer leaf) a other = refl
answer_unended section end named p (Fault lines at why T) a other = refl
answer_unended section end named progress.More (Done lines at rest) a other = absurd a
answer_unended section end named progress.Named (Done lines at rest) a other = absurd a
answer_unended section end named progress.Done (Done lines at rest) a other = absurd other
answer_unended section end named (progress.Fault kind) (Done lines at rest) a other = absurd a

answer_ended : (section : Section) (end : ℕ) (named : Bool) (r : Read) →
    decoders.IsAnswer end named progress.Done r →
    marks_after_reading section nothing_noted r
    ≡ end_marks section (noted_of (is_header_root (root_of section)) r)
answer_ended section end named (Done lines at rest) a = refl
answer_ended section end named (Short lines at outer leaf) a = absurd a
answer_ended section end named (Fault lines at why T) a = absurd a

-- what ends when a section ends, from the section's reading
abbrev section_ends : (section : Section) (number : ℕ) (header : List ℕ) (reading : Read) →
    List HeaderEnd
section_ends section number header r =
    map (header_end_at number header)
    (end_marks section (noted_of (is_header_root (root_of section)) r))

module _ (C : Table) (number : ℕ) (header : List ℕ) {St : Type 0} (notified : St → CallEvent → St)
    (st : St) where
  name_ends : (name : Option (List ℕ)) →
      after_event notified st (raise_event number name)
      ≡ after_ends notified C st (map (header_end_at number header) (name_marks name))
  name_ends None = refl
  name_ends (Some name) = refl

  event_ends : (x : Section) (r : Read) →
      after_event notified st (section_event x number header r
      (operation_of C header (noted_of true r)))
      ≡ after_ends notified C st (section_ends x number header r)
  event_ends sections.Header r = refl
  event_ends sections.Exception r = name_ends (noted_of false r).name
  event_ends sections.SystemException r = name_ends (noted_of false r).name
  event_ends sections.Body r = refl

module _ (t : ReadSection) (xs : List ℕ) (p : Progress) (l : LastOf t xs p) where
  open t use {C, answers, phase, number, header, s, section}

  -- the marks that the octets add to the message are those of its section
  here_ends : header_ends phase number header s xs
      ≡ map (header_end_at number header) (marks_after_reading section nothing_noted
      (ReadWith t xs))
  unfolding section_then message_marks
  here_ends =
      let i = inside t in
      let before = (begun t).before in
      let a = last_answer (begun t) s (octets_of t) i xs p l in
      let so_far : message_marks (read_message (S t) header s) ≡ before.marks =
      ap message_marks (i.is ∙ ap (message_by_reading (begun t)) i.was_short)
      ∙ (marks_front before _ ∙ append-nil before.marks) in
      ends_are C (answers number) phase number header s xs _
      (ap message_marks (behind (begun t) s (octets_of t) i xs) ∙ (marks_front before _
      ∙ (ap (λ (ms : List Mark). before.marks ++ ms) (marks_ended (S t) header section nothing_noted
      (ReadWith t xs) (answer_all a.0 a.1 p (ReadWith t xs) a.2))
      ∙ ap (λ (ms : List Mark). ms ++ marks_after_reading section nothing_noted (ReadWith t xs))
      (sym so_far))))

  ends_none : IsNoEnd p → header_ends phase number header s xs ≡ []
  ends_none other =
      let a = last_answer (begun t) s (octets_of t) (inside t) xs p l in
      here_ends ∙ ap (map (header_end_at number header))
      (answer_unended section a.0 a.1 p (ReadWith t xs) a.2 other)

-- nothing ends in a front of octets after which the section goes on
ends_sooner : (t : ReadSection) (front more : List ℕ) →
    AreAnswersToOctets (coding_of (S t) t.header) (opened t).T (start (begun t)) (root_of t.section)
    (octets_of t)
    front progress.More → (k : ℕ) → k ≤ length front →
    header_ends t.phase t.number t.header t.s (take k (front ++ more)) ≡ []
ends_sooner t front more on zero few = search (arith, header_ends_none)
ends_sooner t front more on (suc k) few =
    let o = coding_of (S t) t.header in
    let fronts = more_fronts o (opened t).T (start (begun t)) (root_of t.section) (suc k)
    (octets_of t) front on in
    let some : 0 < length (take (suc k) front) =
    omega (arith, length-take-le (suc k) front few) in
    ap (header_ends t.phase t.number t.header t.s) (take-append-le (suc k) front more few)
    ∙ ends_none t (take (suc k) front) progress.More
    (last_one o (opened t).T (start (begun t)) (root_of t.section) (octets_of t)
    (take (suc k) front) progress.More some fronts) tt

-- a put failed at one of the octets
pub broken_front : (t : ReadSection) {E : Type 0} (r : Result (ℕ × Bool) E) (octets : List ℕ)
    (place : ℕ) {a b : OutLog} → IsErr r → Breaks t octets a b →
    TakesFront (λ went. went.0) (λ xs. header_ends t.phase t.number t.header t.s xs ≡ [])
    (λ xs. Writes r a b (more_lines_text (S t) t.number place t.header t.s xs)) r octets
broken_front t r octets place {a} {b} failed broke =
    let fr = broke.front ++ broke.octet ∷ [] in
    let n = length broke.front + 1 in
    let all : octets ≡ fr ++ broke.rest =
    broke.all ∙ sym (append_assoc broke.front (broke.octet ∷ []) broke.rest) in
    let long : length fr ≡ n = length_push broke.front broke.octet in
    let first : take n octets ≡ fr = ap (take n) all ∙ take_at fr broke.rest n long in
    record {
      n = n;
      counted = if_err _ r failed;
      within = omega (arith, ap length all, length-append fr broke.rest, long);
      some = λ _. omega arith;
      fronts = λ k few. ap (λ z. header_ends t.phase t.number t.header t.s (take k z)) broke.all
          ∙ ends_sooner t broke.front (broke.octet ∷ broke.rest) broke.answers k
          (omega (arith, few));
      all = rw first (writes_failed r a b _ failed
          (run_broken (begun t) t.s (octets_of t) (inside t) octets place a b broke));
    }

module _ {t : ReadSection} {octets : List ℕ} {n : ℕ} {d' : Decoder} where
  open t use {C, answers, phase, number, header, m, s, follows, section}

  -- if octets don't end a section, no header and no name ends in them
  pub none_ends : {p : Progress} → Took t octets n d' p → IsNoEnd p →
      header_ends phase number header s (take n octets) ≡ []
  none_ends {p} k other = ends_none t (take n octets) p (last p k) other

  -- no header and no name ends in the octets before the last of a run
  none_sooner : {p : Progress} → Took t octets n d' p → (k : ℕ) → k < n →
      header_ends phase number header s (take k octets) ≡ []
  none_sooner {p} k i few =
      let l = last p k in
      let same : take i (l.front ++ l.octet ∷ []) ≡ take i octets =
      ap (take i) (sym l.all) ∙ take-take i n octets (omega (arith, few)) in
      let long = ap length l.all ∙ length_push l.front l.octet in
      ap (header_ends phase number header s) (sym same)
      ∙ ends_sooner t l.front (l.octet ∷ []) l.before i
      (omega (arith, long, length-take-le n octets k.within, few))

  -- what a call took and wrote
  pub took_front : {p : Progress} {E : Type 0} (r : Result (ℕ × Bool) E) (place : ℕ)
      (a b : OutLog) → IfOk r (λ went. went.0 ≡ n) → Took t octets n d' p →
      Writes r a b (Text t octets n place) →
      TakesFront (λ went. went.0) (λ xs. header_ends phase number header s xs ≡ [])
      (λ xs. Writes r a b (more_lines_text (S t) number place header s xs)) r octets
  took_front r place a b counted k wrote = search (arith, none_sooner)

  -- a put failed after the lines of the octets
  pub failed_front : {p : Progress} {E : Type 0} (r : Result (ℕ × Bool) E) (place : ℕ)
      {a b c : OutLog} {x y : List ℕ} → IsErr r → Took t octets n d' p →
      Text t octets n place ≡ x ++ y → Wrote a b x → WroteFront b c y →
      TakesFront (λ went. went.0) (λ xs. header_ends phase number header s xs ≡ [])
      (λ xs. Writes r a c (more_lines_text (S t) number place header s xs)) r octets
  failed_front r place {a} {b} {c} {x} {y} failed k text wrote front =
      took_front r place a c (if_err _ r failed) k
      (writes_failed r a c _ failed (rw text (wrote-front a b c x y wrote front)))

  done_ends : Took t octets n d' progress.Done →
      header_ends phase number header s (take n octets)
      ≡ section_ends section number header (ReadWith t (take n octets))
  done_ends k =
      let xs = take n octets in
      let l = last progress.Done k in
      let a = last_answer (begun t) s (octets_of t) (inside t) xs progress.Done l in
      here_ends t xs progress.Done l ∙ ap (map (header_end_at number header))
      (answer_ended section a.0 a.1 (ReadWith t xs) a.2)

  one_ends : Took t octets n d' progress.Done → section ≡ sections.Header →
      header_ends phase number header s (take n octets)
      ≡ Header_end number header (noted_of true (ReadWith t (take n octets))) ∷ []
  one_ends k in_it =
      done_ends k ∙ ap (λ x. section_ends x number header (ReadWith t (take n octets))) in_it

  module _ {St : Type 0} (answer : St → Answer) (notified : St → CallEvent → St) (st : St) where
    -- if a header ends, the operations of its message are those that the correspondent's state
    -- before that gives
    pub answered_here : (a : Answers) → Took t octets n d' progress.Done →
        AgreesAtEnds answer notified C st a (header_ends phase number header s octets) →
        is_header section ≡ true → a number ≡ answer st
    answered_here a k h e =
        let split = ap (header_ends phase number header s) (sym (take-append-drop n octets))
        ∙ header_ends_both phase number header s (take n octets) (drop n octets) in
        let whole_list = subst (AgreesAtEnds answer notified C st a) split h in
        let front = answers_first answer notified C st a
        (header_ends phase number header s (take n octets))
        (header_ends phase number header (s ++ take n octets) (drop n octets)) whole_list in
        let here = subst (AgreesAtEnds answer notified C st a) (one_ends k (header_only section e))
        front in
        here.0

    -- the correspondent is told of the header, or of the name
    pub told_here : (now : St) → Took t octets n d' progress.Done →
        now ≡ after_event notified st (section_event section m.number m.header
        (ReadWith t (take n octets))
        (operation_of C m.header (noted_of true (ReadWith t (take n octets))))) →
        now ≡ after_ends notified C st (header_ends phase number header s (take n octets))
    told_here now k told =
        let r = ReadWith t (take n octets) in
        told
        ∙ (ap (λ x. after_event notified st (section_event section x m.header r
        (operation_of C m.header (noted_of true r)))) follows.same_number
        ∙ (ap (λ x. after_event notified st (section_event section number x r
        (operation_of C x (noted_of true r)))) follows.same_header
        ∙ (event_ends C number header notified st section r
        ∙ sym (ap (after_ends notified C st) (done_ends k)))))

-- ---- padding, and a rest

module _ {C : Table} {answers : Answers} {phase : Phase} {number : ℕ} {header : List ℕ}
    {m : Struct_of} {s : List ℕ}
    (f : Follows C answers phase number header m s) where
  pub padding_none : {body_type_id : BodyTypeId} → m.part ≡ parts.Padding body_type_id → (x : ℕ) →
      header_ends phase number header s (x ∷ []) ≡ []
  unfolding message_marks
  padding_none {body_type_id} is x =
      let S = signatures_of C (answers number) phase in
      let stands = subst (PartFollows C answers phase number header s m.decoder) is f.stands in
      unmarked C (answers number) phase number header s (x ∷ [])
      (ap message_marks (comes_more S header s x stands.0 (12 + length s) _ stands.1)
      ∙ (marks_front stands.0 _ ∙ (ap (λ (ms : List Mark). stands.0.marks ++ ms)
      (padding_step_marks S header (12 + length s)
      (body_type (in_version (minor header) C) body_type_id) x)
      ∙ (append-nil stands.0.marks ∙ sym (ap message_marks stands.1)))))

  pub rest_none : {r : Rest} → m.part ≡ parts.Rest r → (more : List ℕ) →
      header_ends phase number header s more ≡ []
  unfolding message_marks
  rest_none {r} is more =
      let S = signatures_of C (answers number) phase in
      let stands = subst (PartFollows C answers phase number header s m.decoder) is f.stands in
      unmarked C (answers number) phase number header s more
      (ap message_marks (message_resumes S header s more
      ∙ ap (λ x. read_more S header x more) stands.1)
      ∙ (rest_goes_unmarked S header more stands.0 (12 + length s) r.offset r.held.items
      ∙ sym (ap message_marks stands.1)))

  -- what a call took of a rest and wrote
  pub rest_front : {r : Rest} → m.part ≡ parts.Rest r → (octets : List ℕ) (place : ℕ) {E : Type 0}
      (result : Result (ℕ × Bool) E) (n : ℕ) (a b : OutLog) → IfOk result (λ went. went.0 ≡ n) →
      n ≤ length octets → (0 < length octets → 0 < n) →
      Writes result a b (more_lines_text (signatures_of C
      (answers number) phase) number place header s
      (take n octets)) →
      TakesFront (λ went. went.0) (λ xs. header_ends phase number header s xs ≡ [])
      (λ xs. Writes result a b (more_lines_text (signatures_of C
      (answers number) phase) number place
      header s
      xs)) result octets
  rest_front is octets place result n a b counted within some wrote = search (arith, rest_none)
