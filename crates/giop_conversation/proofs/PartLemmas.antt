-- The lines of a stream in a capture as parts of the capture's text.
use Rattle.std.proofs.Common.{arith, ◌≡◌, ℕ, ◌==◌, true, false, List, [], ◌∷◌, ◌++◌, drop, map, flat_map, Option, Some, None, refl, subst, append-nil}
use Rattle.std.specs.List.{AllByRecursion as Each}
use Rattle.std.proofs.Math.Seq.{drop-length}
use Rattle.std.proofs.lemmas.Bool.{eq-eqb}
use Rattle.std.proofs.lemmas.Grind.{flat_map-append}
use Rattle.giop_sig.specs.Table.{Table}
use Rattle.giop_message.specs.Signatures.{Answers}
use Rattle.giop_stream.specs.Rules.{Rules, rules_by}
use Rattle.giop_stream.specs.Stream.{closing}
use Rattle.giop_stream.specs.EngineHolds.{added}
use Rattle.giop_stream.proofs.StreamLaws.{added_both_by}
use Rattle.tcp_flow.specs.declared.flow.CloseCause.{CloseCause}
use Rattle.tcp_segment.specs.declared.endpoint.Flow.{Flow}
use Rattle.tcp_waiting.specs.declared.arrival.Arrival.{Arrival}
use Rattle.giop_conversation.specs.declared.lines.Opening.{Opening}
use Rattle.giop_conversation.specs.Tags.{tagged, with_tags, stream_tag}
use Rattle.giop_conversation.specs.TaggedText.{is_tag_due}
use Rattle.giop_conversation.specs.Lines.{closed_line}
use Rattle.giop_conversation.specs.Exchanges.{ExchangeView, Answering, Raising}
use Rattle.giop_stream.specs.DueOctets.{begun_in}
use Rattle.giop_conversation.specs.Stamped.{begin_lines, due_time_line, due_answers_line, due_raises_line, after_headers, reply_forgotten, lines_due, stamped}
use Rattle.giop_conversation.specs.CaptureParts.{StreamPart, Reads, Closing, StreamLine, TimeLine, AnswersLine, RaisesLine, ClosedLine, part_lines, giopdump_read_lines, giopdump_lines, CapturePart, OfStream, parts_text, IsWholeLines, lines_if_of_stream}
use Rattle.giop_conversation.proofs.TagLemmas.{joined}
use Rattle.giop_conversation.proofs.LineEnds.{added_ends, closing_ends, stream_line_ends, time_line_ends, answers_line_ends, raises_line_ends, closed_line_ends}

-- ---- the parts of lines

-- whole lines as parts, by the lines of the stream's octets and by all lines of the stream that
-- giopdump writes too
pub record AreParts (lines reads own : List ℕ) : Type 0 where
  pub parts : List StreamPart
  pub whole : Each (λ part. is_tag_due (part_lines part) ≡ true) parts
  pub lines_are : flat_map part_lines parts ≡ lines
  pub reads_are : flat_map giopdump_read_lines parts ≡ reads
  pub own_are : flat_map giopdump_lines parts ≡ own

pub none : AreParts [] [] []
none = search (arith)

pub one : (part : StreamPart) → is_tag_due (part_lines part) ≡ true →
    AreParts (part_lines part) (giopdump_read_lines part) (giopdump_lines part)
one part ends = record {
  parts = part ∷ [];
  whole = (ends, tt);
  lines_are = append-nil (part_lines part);
  reads_are = append-nil (giopdump_read_lines part);
  own_are = append-nil (giopdump_lines part);
}

each_both : {X : Type 0} (P : X → Type 0) (xs ys : List X) → Each P xs → Each P ys →
    Each P (xs ++ ys)
each_both P [] ys first second = second
each_both P (x ∷ xs) ys first second = (first.0, each_both P xs ys first.1 second)

flat_both : {X : Type 0} (f : X → List ℕ) (xs ys : List X) (a b : List ℕ) → flat_map f xs ≡ a →
    flat_map f ys ≡ b →
    flat_map f (xs ++ ys) ≡ a ++ b
flat_both f xs ys a b first second = search (arith, flat_map-append)

pub both : (l r o l' r' o' : List ℕ) → AreParts l r o → AreParts l' r' o' →
    AreParts (l ++ l') (r ++ r') (o ++ o')
both l r o l' r' o' a b = search (arith, each_both, flat_both)

-- ---- parts of the text

pub whole_both : (xs ys : List CapturePart) → Each IsWholeLines xs → Each IsWholeLines ys →
    Each IsWholeLines (xs ++ ys)
whole_both xs ys first second = search (arith, each_both)

pub are_whole : (number : ℕ) (parts : List StreamPart) →
    Each (λ part. is_tag_due (part_lines part) ≡ true) parts →
    Each IsWholeLines (map (OfStream number) parts)
are_whole number [] whole = tt
are_whole number (x ∷ xs) whole = (whole.0, are_whole number xs whole.1)

no_tags : (tag : List ℕ) → with_tags tag [] ≡ []
unfolding tagged
no_tags tag = refl

pub text_is : (number : ℕ) (parts : List StreamPart) →
    Each (λ part. is_tag_due (part_lines part) ≡ true) parts →
    parts_text (map (OfStream number) parts) ≡ with_tags (stream_tag number) (flat_map part_lines
    parts)
text_is number [] whole = search (arith, no_tags)
text_is number (x ∷ xs) whole = search (arith, joined, flat_map, text_is number xs whole.1)

-- the parts of a stream give all their lines to the number of the stream, and none to another
-- number
pub of_it : (f : StreamPart → List ℕ) (number : ℕ) (parts : List StreamPart) →
    flat_map (lines_if_of_stream f number) (map (OfStream number) parts) ≡ flat_map f parts
of_it f number [] = refl
of_it f number (x ∷ xs) = search (arith, eq-eqb, of_it f number xs)

pub of_another : (f : StreamPart → List ℕ) (number other : ℕ) (parts : List StreamPart) →
    (number == other) ≡ false →
    flat_map (lines_if_of_stream f other) (map (OfStream number) parts) ≡ []
of_another f number other [] apart = refl
of_another f number other (x ∷ xs) apart = rw apart (of_another f number other xs apart)

-- ---- what is written of a stream

pub begin_parts : (flow : Option Flow) (opening : Opening) →
    AreParts (begin_lines flow opening) [] []
begin_parts None opening = none
begin_parts (Some flow) opening = one (StreamLine flow opening) (stream_line_ends flow opening)

pub closed_parts : (R : Rules) (p : List ℕ) (cause : CloseCause) →
    AreParts (closed_line cause ++ closing R p) [] (closing R p)
closed_parts R p cause =
    both (closed_line cause) [] [] (closing R p) [] (closing R p)
    (one (ClosedLine cause) (closed_line_ends cause))
    (one (Closing (closing R p)) (closing_ends R p))

time_parts : (begun : Option ℕ) (arrival : Arrival) → AreParts (due_time_line begun arrival) [] []
time_parts None arrival = none
time_parts (Some message) arrival = one (TimeLine message arrival) (time_line_ends message arrival)

answers_parts : (answered : Option Answering) (time : Option ℕ) →
    AreParts (due_answers_line answered time) [] []
answers_parts None time = none
answers_parts (Some a) time = one (AnswersLine a.message a.call time)
    (answers_line_ends a.message a.call time)

raises_parts : (raised : Option Raising) → AreParts (due_raises_line raised) [] []
raises_parts None = none
raises_parts (Some r) = one (RaisesLine r.message r.name) (raises_line_ends r.message r.name)

due_parts : (R : Rules) (s : ExchangeView) (p octets : List ℕ) →
    AreParts (lines_due R s p octets) [] []
unfolding lines_due
due_parts R s p octets =
    let behind = after_headers R s p octets in
    both (due_time_line (begun_in p octets) s.arrival) [] [] (due_answers_line behind.answered
    s.arrival.time
    ++ due_raises_line behind.raised) [] []
    (time_parts (begun_in p octets) s.arrival)
    (both (due_answers_line behind.answered s.arrival.time) [] [] (due_raises_line behind.raised) []
    []
    (answers_parts behind.answered s.arrival.time) (raises_parts behind.raised))

module _ (C : Table) (a : Answers) (most : ℕ) where
  abbrev R : Rules
  R = rules_by C a most

  none_added : (p : List ℕ) → added R p [] ≡ []
  unfolding added
  none_added p = search (arith, drop, append-nil, drop-length)

  octet_parts : (s : ExchangeView) (p : List ℕ) (x : ℕ) →
      AreParts (added R p (x ∷ []) ++ lines_due R s p (x ∷ [])) (added R p (x ∷ []))
      (added R p (x ∷ []))
  octet_parts s p x =
      let first = added R p (x ∷ []) in
      subst (λ (t : List ℕ). AreParts (first ++ lines_due R s p (x ∷ [])) t t) (append-nil first)
      (both first first first (lines_due R s p (x ∷ [])) [] []
      (one (Reads first) (added_ends C a most p (x ∷ []))) (due_parts R s p (x ∷ [])))

  -- the lines of octets that come after others
  pub stamped_parts : (octets p : List ℕ) (s : ExchangeView) →
      AreParts (stamped R s p octets) (added R p octets) (added R p octets)
  unfolding stamped
  stamped_parts [] p s = rw (none_added p) none
  stamped_parts (x ∷ xs) p s =
      let s' = reply_forgotten (after_headers R s p (x ∷ [])) in
      let first = added R p (x ∷ []) in
      let rest = added R (p ++ x ∷ []) xs in
      rw (added_both_by C a most p (x ∷ []) xs)
      (both (first ++ lines_due R s p (x ∷ [])) first first (stamped R s' (p ++ x ∷ []) xs) rest
      rest
      (octet_parts s p x) (stamped_parts xs (p ++ x ∷ []) s'))
