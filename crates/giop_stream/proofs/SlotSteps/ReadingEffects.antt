-- The lines of a message's events if it is read by a table; and the calls of a message write these
-- lines.
use Rattle.std.proofs.Common.{arith, inl, inr, ◌⊎◌, ◌≡◌, ℕ, suc, ◌+◌, Bool, true, false, List, [], ◌∷◌, ◌++◌, length, map, refl, append-nil, sym, ap, ◌∙◌, Option, Some, None, Result, Ok, Err}
use Rattle.std.specs.Prelude.{◌||◌, if◌then◌else◌, is_some, IfOk}
use Rattle.std.specs.List.{list_any}
use Rattle.std.proofs.lemmas.Bool.{eq-eqb}
use Rattle.giop_print.specs.Lines.{fault_line, cancelled_line}
use Rattle.giop_print.specs.Output.{OutLog, Wrote, WroteFront, Writes}
use Rattle.giop_sig.specs.Table.{Table}
use Rattle.giop_message.specs.Phases.{Phase, seamed}
use Rattle.giop_message.specs.declared.message.Message.{Message}
use Rattle.giop_message.specs.MessageReader.{LineClass, Value, Call, Rest, Fault, End, TimedLine, MessageReader, AreInLineOrder, AreCloseClasses, next_lines, is_fault_class, is_last_class}
use Rattle.giop_message.specs.Text.{numbered_lines}
use Rattle.giop_message.specs.Signatures.{Answers, signatures_of}
use Rattle.giop_message.specs.Messages.{read_message, stage_of, lines_of_close}
use Rattle.giop_message.specs.ReaderOfTable.{message_reader}
use Rattle.giop_message.specs.MessageState.{more_lines_text, closing_text, closes_text, is_short_close, Follows}
use Rattle.giop_message.proofs.MessageLaws.{is_ordered, octet_text, close_short, is_closing, close_is}
use Rattle.giop_stream.specs.declared.fault.FramingFault.{FramingFault}
use Rattle.giop_stream.specs.Events.{MessageKey, Event, Takes, Seams, Faults, Cancelled, Closes, octets_of_event}
use Rattle.giop_stream.specs.Lines.{StreamLine, Kept, Said, CancelledBy, Faulted, line, lines_of_event, is_last_line_of, up_to_last_line}
use Rattle.giop_stream.specs.Text.{framing_fault_word, line_text, lines_text}
use Rattle.giop_stream.specs.Stream.{fault_count}
use Rattle.giop_stream.specs.Effects.{kept_after_event, lines_of, message_kept_after, message_effect, no_message_effect, lines_for, event}
use Rattle.giop_stream.specs.SlotsRepresent.{RepresentsMessage}
use Rattle.giop_stream.specs.DoesEffect.{WritesLines, count_one_if}

-- ---- Lines that a reader gives.

abbrev pub reader_lines : (at number : ℕ) (rs : List TimedLine) → List StreamLine
reader_lines at number rs = map (λ r. record {
  place = at;
  number = number;
  content =
      Said r.line_class r.text;
}) rs

abbrev close_lines : (at number : ℕ) (cs : List (LineClass × List ℕ)) → List StreamLine
close_lines at number cs = map (λ c. record { place = at; number = number; content = Said c.0 c.1 })
    cs

said_is : (at number : ℕ) (rs : List TimedLine) →
    lines_text (reader_lines at number rs) ≡ numbered_lines at number rs
unfolding lines_text numbered_lines
said_is at number [] = refl
said_is at number (r ∷ rs) = search (arith, said_is at number rs)

closed_is : (at number : ℕ) (cs : List (LineClass × List ℕ)) →
    lines_text (close_lines at number cs) ≡ closes_text number at cs
unfolding lines_text closes_text
closed_is at number [] = refl
closed_is at number (c ∷ cs) = search (arith, closed_is at number cs)

-- if an octet has two lines, they are a value and its call, or a value and a fault
two_values : (s t : LineClass) → AreInLineOrder (s ∷ t ∷ []) → (s ≡ Value)
    × ((t ≡ Call) ⊎ (t ≡ Fault))
two_values s t (inl e) = absurd cc
two_values s t (inr (inl e)) = absurd cc
two_values s t (inr (inr (inl e))) = (cc, inl cc)
two_values s t (inr (inr (inr (inl e)))) = absurd cc
two_values s t (inr (inr (inr (inr (inl e))))) = absurd cc
two_values s t (inr (inr (inr (inr (inr e))))) = (cc, inr cc)

few_in_turn : (a b c : LineClass) (more : List LineClass) → AreInLineOrder (a ∷ b ∷ c ∷ more) → ⊥
few_in_turn a b c more (inl e) = absurd cc
few_in_turn a b c more (inr (inl e)) = absurd cc
few_in_turn a b c more (inr (inr (inl e))) = absurd cc
few_in_turn a b c more (inr (inr (inr (inl e)))) = absurd cc
few_in_turn a b c more (inr (inr (inr (inr (inl e))))) = absurd cc
few_in_turn a b c more (inr (inr (inr (inr (inr e))))) = absurd cc

no_end : AreInLineOrder (End ∷ []) → ⊥
no_end (inl e) = absurd cc
no_end (inr (inl e)) = absurd cc
no_end (inr (inr (inl e))) = absurd cc
no_end (inr (inr (inr (inl e)))) = absurd cc
no_end (inr (inr (inr (inr (inl e))))) = absurd cc
no_end (inr (inr (inr (inr (inr e))))) = absurd cc

-- if a close has two lines, they are those of the rest and the end
two_closes : (s t : LineClass) → AreCloseClasses (s ∷ t ∷ []) → (s ≡ Rest) × (t ≡ End)
two_closes s t (inl e) = absurd cc
two_closes s t (inr (inl e)) = absurd cc
two_closes s t (inr (inr e)) = (cc, cc)

few_at_close : (a b c : LineClass) (more : List LineClass) → AreCloseClasses (a ∷ b ∷ c ∷ more) → ⊥
few_at_close a b c more (inl e) = absurd cc
few_at_close a b c more (inr (inl e)) = absurd cc
few_at_close a b c more (inr (inr e)) = absurd cc

turn_stands : (at n : ℕ) (rs : List TimedLine) → AreInLineOrder (map (λ r. r.line_class) rs) →
    up_to_last_line (λ i. false) (reader_lines at n rs) ≡ reader_lines at n rs
unfolding up_to_last_line is_last_line_of
turn_stands at n (r ∷ s ∷ []) h = search (arith, two_values, eq-eqb)
turn_stands at n (r ∷ s ∷ t ∷ rs) h = search (arith, few_in_turn, map)
turn_stands at n _ h = refl

one_fault : (at n : ℕ) (s : LineClass) (text : List ℕ) →
    fault_count (record { place = at; number = n; content = Said s text } ∷ [])
    ≡ (if is_fault_class s || false then 1 else 0)
unfolding fault_count
one_fault at n Value text = refl
one_fault at n _ text = refl

turn_faults : (at n : ℕ) (rs : List TimedLine) → AreInLineOrder (map (λ r. r.line_class) rs) →
    fault_count (reader_lines at n rs) ≡ (if list_any (λ r. is_fault_class r.line_class) rs then 1
    else 0)
unfolding fault_count
turn_faults at n [] h = refl
turn_faults at n (r ∷ []) h = search (arith, one_fault)
turn_faults at n (r ∷ s ∷ []) h = search (arith, two_values)
turn_faults at n (r ∷ s ∷ t ∷ rs) h = search (arith, few_in_turn, map)

one_last : (s : LineClass) → AreInLineOrder (s ∷ []) → is_last_class s ≡ is_fault_class s
one_last End h = absurd (no_end h)
one_last _ h = refl

turn_last : (at n : ℕ) (rs : List TimedLine) → AreInLineOrder (map (λ r. r.line_class) rs) →
    list_any (is_last_line_of n) (reader_lines at n rs) ≡ list_any
    (λ r. is_fault_class r.line_class) rs
unfolding is_last_line_of
turn_last at n [] h = refl
turn_last at n (r ∷ []) h = search (arith, eq-eqb, one_last)
turn_last at n (r ∷ s ∷ []) h = search (arith, two_values, eq-eqb)
turn_last at n (r ∷ s ∷ t ∷ rs) h = search (arith, few_in_turn, map)

close_stands : (at n : ℕ) (cs : List (LineClass × List ℕ)) → AreCloseClasses (map (λ c. c.0) cs) →
    up_to_last_line (λ i. false) (close_lines at n cs) ≡ close_lines at n cs
unfolding up_to_last_line is_last_line_of
close_stands at n (c ∷ d ∷ []) h = search (arith, two_closes, eq-eqb)
close_stands at n (c ∷ d ∷ e ∷ cs) h = search (arith, few_at_close, map)
close_stands at n _ h = refl

close_faults : (at n : ℕ) (cs : List (LineClass × List ℕ)) → AreCloseClasses (map (λ c. c.0) cs) →
    fault_count (close_lines at n cs) ≡ (if list_any (λ c. is_fault_class c.0) cs then 1 else 0)
unfolding fault_count
close_faults at n [] h = refl
close_faults at n (c ∷ []) h = search (arith, one_fault)
close_faults at n (c ∷ d ∷ []) h = search (arith, two_closes)
close_faults at n (c ∷ d ∷ e ∷ cs) h = search (arith, few_at_close, map)

pub no_message : (message : Option Message) → is_some message ≡ false → message ≡ None
no_message None h = refl
no_message (Some m) h = absurd cc

-- ---- The lines of an event, and what is kept after it.

module _ (R : MessageReader) where
  pub over_lines : (e : Event) → lines_of R e None ≡ []
  unfolding lines_of lines_for up_to_last_line
  over_lines e = refl

  pub over_then : (e : Event) → message_kept_after R e None ≡ None
  unfolding message_kept_after
  over_then e = rw (over_lines e) refl

  faulted_lines : (at : ℕ) (w : MessageKey) (fault : FramingFault) (kept : Kept) →
      lines_of R (event at w (Faults fault)) (Some kept) ≡
      record { place = at; number = w.number; content = Faulted fault } ∷ []
  unfolding lines_of lines_for lines_of_event line up_to_last_line
  faulted_lines at w fault kept = refl

  faulted_then : (w : MessageKey) (o : Option Kept) (at : ℕ) (fault : FramingFault) →
      message_kept_after R (event at w (Faults fault)) o ≡ None
  unfolding message_kept_after is_last_line_of
  faulted_then w (Some kept) at fault = search (arith, faulted_lines, eq-eqb)
  faulted_then w None at fault = search (arith, over_then)

  cancelled_lines : (at : ℕ) (w : MessageKey) (j : ℕ) (kept : Kept) →
      lines_of R (event at w (Cancelled j)) (Some kept) ≡
      record { place = at; number = w.number; content = CancelledBy j } ∷ []
  unfolding lines_of lines_for lines_of_event line up_to_last_line
  cancelled_lines at w j kept = refl

  pub seam_lines : (at : ℕ) (w : MessageKey) (o : Option Kept) →
      lines_of R (event at w Seams) o ≡ []
  unfolding lines_of lines_for lines_of_event up_to_last_line
  seam_lines at w None = refl
  seam_lines at w (Some kept) = refl

  seamed_then : (at : ℕ) (w : MessageKey) (kept : Kept) →
      message_kept_after R (event at w Seams) (Some kept) ≡ Some (record {
        octets = kept.octets;
        phase = seamed kept.phase (12 + length kept.octets);
      })
  unfolding message_kept_after octets_of_event
  seamed_then at w kept = search (arith, seam_lines, append-nil)

module _ (C : Table) (l : Answers) where
  abbrev pub R_of : MessageReader
  R_of = message_reader C l

  -- what an octet adds to what is said of a message, and what a close says of it
  abbrev pub next_lines_of : (key : MessageKey) (kept : Kept) (octet : ℕ) → List TimedLine
  next_lines_of w kept x = next_lines R_of kept.phase w.number w.header kept.octets x

  abbrev closes_of : (key : MessageKey) (kept : Kept) → List (LineClass × List ℕ)
  closes_of w kept = R_of.closes kept.phase w.number w.header kept.octets

  in_turn : (w : MessageKey) (kept : Kept) (x : ℕ) →
      AreInLineOrder (map (λ r. r.line_class) (next_lines_of w kept x))
  in_turn w kept x =
      (is_ordered (λ phase number. signatures_of C (l number) phase)).ordered kept.phase w.number
      w.header (kept.octets ++ x ∷ []) (suc (length kept.octets))

  at_close : (w : MessageKey) (kept : Kept) → AreCloseClasses (map (λ c. c.0) (closes_of w kept))
  at_close w kept =
      (is_closing (λ phase number. signatures_of C (l number) phase)).closed kept.phase w.number
      w.header kept.octets

  pub take_lines : (at : ℕ) (w : MessageKey) (kept : Kept) (x : ℕ) →
      lines_of R_of (event at w (Takes x)) (Some kept) ≡ reader_lines at w.number
      (next_lines_of w kept x)
  unfolding lines_of lines_for lines_of_event line octets_of_event
  take_lines at w kept x = search (arith, turn_stands, in_turn)

  closing_lines : (at : ℕ) (w : MessageKey) (kept : Kept) →
      lines_of R_of (event at w Closes) (Some kept) ≡ close_lines at w.number (closes_of w kept)
  unfolding lines_of lines_for lines_of_event line
  closing_lines at w kept = search (arith, close_stands, at_close)

  -- ---- An octet.

  abbrev pub is_faulted_by : (key : MessageKey) (kept : Kept) (octet : ℕ) → Bool
  is_faulted_by w kept x = list_any (λ r. is_fault_class r.line_class) (next_lines_of w kept x)

  pub take_text : (before : ℕ) (w : MessageKey) (kept : Kept) (x : ℕ) →
      lines_text (lines_of R_of (event (suc before) w (Takes x)) (Some kept))
      ≡ more_lines_text (signatures_of C (l w.number) kept.phase) w.number before w.header
      kept.octets
      (x ∷ [])
  take_text before w kept x = search (arith, take_lines, said_is, octet_text)

  pub then_by : (at : ℕ) (w : MessageKey) (kept : Kept) (x : ℕ) →
      message_kept_after R_of (event at w (Takes x)) (Some kept)
      ≡ (if is_faulted_by w kept x then None else Some (kept_after_event (Takes x) kept))
  unfolding message_kept_after
  then_by at w kept x = search (arith, take_lines, turn_last, in_turn)

  pub faults_by : (at : ℕ) (w : MessageKey) (kept : Kept) (x : ℕ) →
      fault_count (lines_of R_of (event at w (Takes x)) (Some kept))
      ≡ (if is_faulted_by w kept x then 1 else 0)
  faults_by at w kept x = search (arith, take_lines, turn_faults, in_turn)

  -- ---- A close.

  close_text : (P : List ℕ → Type 0) (w : MessageKey) (at : ℕ) (kept : Kept) →
      P (closing_text w.number at (lines_of_close (stage_of
      (read_message (signatures_of C (l w.number) kept.phase) w.header kept.octets))))
      → P (lines_text (lines_of R_of (event at w Closes) (Some kept)))
  close_text P w at kept p = search (arith, closing_lines, closed_is, close_is)

  close_by : (at : ℕ) (w : MessageKey) (kept : Kept) →
      fault_count (lines_of R_of (event at w Closes) (Some kept))
      ≡ count_one_if (is_short_close (lines_of_close (stage_of
      (read_message (signatures_of C (l w.number) kept.phase) w.header kept.octets))))
  close_by at w kept = search (arith, closing_lines, close_short, close_faults, at_close)

  pub close_writes : {E : Type 0} (m : Message) (w : MessageKey) (o : Option Kept) (at : ℕ)
      (r : Result Bool E) (a b : OutLog) → RepresentsMessage C l (Some m) w o
      → ((phase : Phase) (number : ℕ) (header s : List ℕ) → Follows C l phase number header m s →
      Writes r a b (closing_text number at
      (lines_of_close (stage_of (read_message (signatures_of C (l number) phase) header s)))))
      → IfOk r (λ short. (answers : Answers) (phase : Phase) (number : ℕ) (header s : List ℕ) →
      Follows C answers phase number header m s → short
      ≡ is_short_close (lines_of_close (stage_of (read_message (signatures_of C
      (answers number) phase) header s))))
      → WritesLines count_one_if r a b (lines_of R_of (event at w Closes) o)
  close_writes m w None at r a b k text short = absurd k
  close_writes m w (Some kept) at (Err e) a b k text short = record {
    text = close_text (WroteFront a b) w at kept
        (text kept.phase w.number w.header kept.octets k);
    faults = tt;
    kept = tt;
  }
  close_writes m w (Some kept) at (Ok answer) a b k text short = record {
    text = close_text (Wrote a b) w at kept (text kept.phase w.number w.header kept.octets k);
    faults = close_by at w kept
        ∙ ap count_one_if (sym (short l kept.phase w.number w.header kept.octets k));
    kept = tt;
  }

  -- ---- A seam.

  pub seam_keeps : (m n : Message) (w : MessageKey) (o : Option Kept) (at : ℕ) →
      RepresentsMessage C l (Some m) w o
      → ((phase : Phase) (number : ℕ) (header s : List ℕ) → Follows C l phase number header m s →
      Follows C l (seamed phase (12 + length s)) number header n s)
      → RepresentsMessage C l (Some n) w (message_kept_after R_of (event at w Seams) o)
  seam_keeps m n w None at k f = absurd k
  seam_keeps m n w (Some kept) at k f = rw (seamed_then R_of at w kept)
      (f kept.phase w.number w.header kept.octets k)

  pub seam_over : (w : MessageKey) (o : Option Kept) (at : ℕ) → RepresentsMessage C l None w o →
      RepresentsMessage C l None w (message_kept_after R_of (event at w Seams) o)
  seam_over w None at k = rw (over_then R_of (event at w Seams)) tt
  seam_over w (Some kept) at k = absurd k

  -- ---- A framing fault, a cancel, and events of a message that is over.

  pub no_lines : (w : MessageKey) (o : Option Kept) (e : Event) →
      RepresentsMessage C l None w o → lines_of R_of e o ≡ []
  no_lines w None e k = over_lines R_of e
  no_lines w (Some kept) e k = absurd k

  pub over_part : (w : MessageKey) (o : Option Kept) (e : Event) →
      RepresentsMessage C l None w o → message_effect R_of e o ≡ no_message_effect None
  unfolding message_effect
  over_part w None e k = search (arith, over_then, over_lines)
  over_part w (Some kept) e k = absurd k

  pub faulted_part : (message : Option Message) (w : MessageKey) (o : Option Kept) (at : ℕ)
      (fault : FramingFault) → is_some message ≡ true → RepresentsMessage C l message w o
      → message_effect R_of (event at w (Faults fault)) o ≡
      record {
        kept = None;
        lines = record {
          place = at;
          number = w.number;
          content =
              Faulted fault;
        } ∷ [];
      }
  unfolding message_effect
  faulted_part (Some m) w (Some kept) at fault h k = search (arith, faulted_then, faulted_lines)
  faulted_part (Some m) w None at fault h k = absurd k
  faulted_part None w o at fault h k = absurd cc

  pub cancel_says : (message : Option Message) (w : MessageKey) (o : Option Kept) (at j : ℕ) →
      is_some message ≡ true → RepresentsMessage C l message w o
      → lines_of R_of (event at w (Cancelled j)) o ≡
      record { place = at; number = w.number; content = CancelledBy j } ∷ []
  cancel_says (Some m) w (Some kept) at j h k = cancelled_lines R_of at w j kept
  cancel_says (Some m) w None at j h k = absurd k
  cancel_says None w o at j h k = absurd cc

pub faulted_text : (at number : ℕ) (fault : FramingFault) (w : MessageKey) → w.number ≡ number →
    line_text (record { place = at; number = w.number; content = Faulted fault })
    ≡ fault_line number (framing_fault_word fault) at
faulted_text at number fault w e = search (arith)

pub faulted_one : (at number : ℕ) (fault : FramingFault) →
    fault_count (record { place = at; number = number; content = Faulted fault } ∷ []) ≡ 1
unfolding fault_count
faulted_one at number fault = refl

pub cancelled_text : (at number j : ℕ) (w : MessageKey) → w.number ≡ number →
    line_text (record { place = at; number = w.number; content = CancelledBy j })
    ≡ cancelled_line number j
cancelled_text at number j w e = search (arith)

pub cancelled_none : (at number j : ℕ) →
    fault_count (record { place = at; number = number; content = CancelledBy j } ∷ []) ≡ 0
unfolding fault_count
cancelled_none at number j = refl
