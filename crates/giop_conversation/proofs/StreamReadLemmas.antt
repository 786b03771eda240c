-- What calls of a direction write, by what the calls in them do.
use Rattle.std.proofs.Common.{◌≡◌, ℕ, ◌+◌, true, false, ◌≤◌, List, [], ◌++◌, length, take, drop, Option, Some, None, Result, Ok, Err, refl, sym, ap, subst, ◌∙◌, arith, append-nil, append_assoc, take-add}
use Rattle.std.proofs.lemmas.List.{length-take-le, take-append-drop, take-take, take_all}
use Rattle.std.proofs.lemmas.Bool.{false≢true}
use Rattle.giop_print.specs.Output.{OutLog, Wrote, WroteFront, Writes}
use Rattle.giop_print.proofs.Writing.{wrote-nil, wrote-append, wrote-front, front-append}
use Rattle.giop_sig.specs.Table.{Table}
use Rattle.giop_message.specs.Signatures.{Answers}
use Rattle.giop_message.specs.HeaderEnds.{after_ends}
use Rattle.giop_stream.specs.Rules.{Rules, rules_by}
use Rattle.giop_stream.specs.HeaderOctets.{fronts, last_octet_fault, first_front_fault, first_wrong_octet}
use Rattle.giop_checkpoint.specs.declared.fault.StreamFault.{StreamFault}
use Rattle.giop_stream.specs.declared.status.Status.TheVariants.{Stopped}
use Rattle.giop_stream.specs.declared.status.Totals.{Totals}
use Rattle.giop_stream.specs.EngineState.{state_of}
use Rattle.giop_stream.specs.Stream.{totals_so_far}
use Rattle.giop_stream.specs.Framing.{limit, limited, cut_from, cut, messages, fault_of, octets_read}
use Rattle.giop_stream.specs.Events.{events_from, events}
use Rattle.giop_stream.specs.AnswersAgree.{AnswersAgree}
use Rattle.giop_stream.specs.DueOctets.{begun_in}
use Rattle.giop_stream.specs.HeaderEndsOfStream.{header_ends_from}
use Rattle.giop_stream.specs.declared.fault.Stop.{Stop}
use Rattle.giop_stream.specs.declared.fault.Stop.TheVariants as stop
use Rattle.giop_stream.specs.EngineView.{EngineView}
use Rattle.giop_stream.specs.EngineHolds.{HoldsBy, StopWrites, Leaves, added, rules_with, status_of}
use Rattle.giop_conversation.specs.Directions.{HasRead, fault_place}
use Rattle.tcp_segment.specs.declared.endpoint.Flow.{Flow}
use Rattle.tcp_waiting.specs.declared.arrival.Arrival.{Arrival}
use Rattle.giop_conversation.specs.Tags.{with_tags, tagged}
use Rattle.giop_conversation.specs.declared.lines.Opening.{Opening}
use Rattle.giop_conversation.specs.TaggedText.{next_begins_line, is_tag_due, tagged_until_due}
use Rattle.giop_conversation.specs.TaggedState.{Tagging, tagging_log, IsReady}
use Rattle.giop_conversation.specs.Exchanges.{ExchangeView, notified}
use Rattle.giop_conversation.specs.StreamReads.{AgreeWith, HasSameSetup, ReadAndWroteThrough, ReadAndWroteBelow, WritesTagged, exchange_for_reading}
use Rattle.giop_conversation.specs.Stamped.{begin_lines, due_time_line, due_answers_line, due_raises_line, after_headers, reply_forgotten, lines_due, after_octets, stamped}
use Rattle.giop_conversation.proofs.Tagging.{ready_wrote, ready_front, ready_with}
use Rattle.giop_conversation.proofs.StampedLemmas.{HasNoReplyLines, NoLineDueBefore, exchanged_both, stamped_both, exchanged_table, exchanged_arrival, exchanged_taken, agrees_behind, piece_text, piece_told}
use Rattle.giop_conversation.proofs.LineEnds.{none_ends, stream_line_ends, stamped_ends}

-- if a put fails in a call of an engine that hadn't failed, a front of what was due is written
pub stop_front : (A : Type 0) (why : Stop) (before after : OutLog) (due : List ℕ)
    (e e' : EngineView) →
    e.failed ≡ false → Leaves {A = A} (Err why) e e' →
    StopWrites {A = A} (Err why) before after due →
    WroteFront before after due
stop_front A (stop.Out f) before after due e e' sound leaves writes = writes
stop_front A stop.Failed before after due e e' sound leaves writes = search (arith, false≢true)

-- the same if the closing of the engine's stream is written
pub closing_front : (A : Type 0) (why : Stop) (before after : OutLog) (due : List ℕ)
    (e : EngineView) →
    e.failed ≡ false → ((let failed : Result A Stop = Err stop.Failed in Err why ≡ failed) →
    e.failed ≡ true) →
    StopWrites {A = A} (Err why) before after due → WroteFront before after due
closing_front A (stop.Out f) before after due e sound only writes = writes
closing_front A stop.Failed before after due e sound only writes = search (arith, false≢true)

-- one call writes lines, and then another call writes more
pub writes_both : {A E : Type 0} (r : Result A E) (a b c : OutLog) (x y : List ℕ) → Wrote a b x →
    Writes r b c y → Writes r a c (x ++ y)
writes_both (Ok v) a b c x y first second = search (arith, wrote-append)
writes_both (Err e) a b c x y first second = search (arith, wrote-front)

-- a call that writes whole lines leaves them, with their tags, in the out below
pub writes_below : {A E : Type 0} (r : Result A E) (t after : Tagging) (w lines : List ℕ) →
    IsReady t w → is_tag_due lines ≡ true →
    Writes r (tagging_log t) (tagging_log after) lines → WritesTagged r after w t.tag lines
writes_below (Ok v) t after w lines ready ends wrote = search (arith, ready_wrote)
writes_below (Err e) t after w lines ready ends wrote = search (arith, ready_front)

pub begin_lines_end : (flow : Option Flow) (opening : Opening) →
    is_tag_due (begin_lines flow opening) ≡ true
begin_lines_end None opening = none_ends
begin_lines_end (Some flow) opening = stream_line_ends flow opening

-- the same after a tag was set
pub below_tag : {A E : Type 0} (r : Result A E) (t set after : Tagging) (w lines tag due : List ℕ) →
    IsReady t w →
    set ≡ record t { tag = tag; due = length tag; since = 0 } → tag ≡ due → is_tag_due lines
    ≡ true →
    Writes r (tagging_log set) (tagging_log after) lines → WritesTagged r after w due lines
below_tag r t set after w lines tag due ready is same ends writes =
    let now = record t { tag = tag; due = length tag; since = 0 } in
    subst (λ (g : List ℕ). WritesTagged r after w g lines) same
    (writes_below r now after w lines (ready_with t w tag ready) ends
    (subst (λ (s : Tagging). Writes r (tagging_log s) (tagging_log after) lines) is writes))

-- a call that fails and has written a front of lines has written a front of these and more lines
pub front_of : {A E : Type 0} (r : Result A E) (a b : OutLog) (x y : List ℕ) (e : E) → r ≡ Err e →
    WroteFront a b x →
    Writes r a b (x ++ y)
front_of r a b x y e is front = search (arith, front-append)

-- ---- a piece

-- a front of the lines of the first n octets is a front of the lines of all octets
pub front_lines : (R : Rules) (s : ExchangeView) (p octets : List ℕ) (n : ℕ) (a b : OutLog) →
    WroteFront a b (stamped R s p (take n octets)) → WroteFront a b (stamped R s p octets)
front_lines R s p octets n a b front =
    let rest = stamped R (after_octets R s p (take n octets)) (p ++ take n octets)
    (drop n octets) in
    let both : stamped R s p octets ≡ stamped R s p (take n octets) ++ rest =
    ap (stamped R s p) (sym (take-append-drop n octets))
    ∙ stamped_both R (take n octets) s p (drop n octets) in
    subst (WroteFront a b) (sym both) (front-append a b (stamped R s p (take n octets)) rest front)

-- no line is due before the last of the first n octets, also if these are taken alone
pub undue_taken : (C : Table) (R : Rules) (s : ExchangeView) (p octets : List ℕ) (n : ℕ) →
    NoLineDueBefore C R s p octets n → NoLineDueBefore C R s p (take n octets) n
undue_taken C R s p octets n undue k few = search (arith, take-take)

module _ (C : Table) (a : Answers) (most : ℕ) (s : ExchangeView) (p octets : List ℕ) (n : ℕ)
    (table : s.table ≡ C) (none : HasNoReplyLines s)
    (undue : NoLineDueBefore C (rules_by C a most) s p octets n) (within : n ≤ length octets) where
  abbrev R : Rules
  R = rules_by C a most

  abbrev piece : List ℕ
  piece = take n octets

  piece_is : stamped R s p piece ≡ added R p piece ++ lines_due R s p piece
  piece_is = search (arith, piece_text, undue_taken, length-take-le)

  -- what the exchange was told of the piece
  tells : (s' : ExchangeView) → s' ≡ after_ends notified C s (header_ends_from R p piece) →
      s' ≡ after_headers R s p piece
  tells s' is = search (arith)

  pub piece_written : {A E : Type 0} (r : Result A E) (s' : ExchangeView) (begun : Option ℕ)
      (arrival : Arrival)
      (old fed new : OutLog) → s.arrival ≡ arrival → Wrote old fed (added R p piece) →
      s' ≡ after_ends notified C s (header_ends_from R p piece) → begun ≡ begun_in p piece →
      Writes r fed new (due_time_line begun arrival
      ++ (due_answers_line s'.answered arrival.time ++ due_raises_line s'.raised)) →
      Writes r old new (stamped R s p piece)
  unfolding lines_due
  piece_written r s' begun arrival old fed new now wrote is begins writes =
      let due : due_time_line begun arrival ++ (due_answers_line s'.answered arrival.time
      ++ due_raises_line
      s'.raised) ≡ lines_due R s p piece = rw (begins, tells s' is, now) refl in
      subst (Writes r old new) (sym piece_is)
      (writes_both r old fed new (added R p piece) (lines_due R s p piece) wrote
      (subst (Writes r fed new) due writes))

  pub piece_calls : (s' s'' : ExchangeView) →
      s' ≡ after_ends notified C s (header_ends_from R p piece) → s'' ≡ reply_forgotten s' →
      s'' ≡ after_octets R s p piece
  piece_calls s' s'' is behind = search (arith, tells, piece_told, undue_taken, length-take-le)

  -- what is written if the feeding of the piece failed
  pub piece_front : (old new : OutLog) → WroteFront old new (added R p piece) →
      WroteFront old new (stamped R s p octets)
  piece_front old new front =
      front_lines R s p octets n old new (subst (WroteFront old new) (sym piece_is)
      (front-append old new (added R p piece) (lines_due R s p piece) front))

-- ---- pieces, one after the other

same_rules : (e e' : EngineView) (a : Answers) → HasSameSetup e' e → rules_with e' a
    ≡ rules_with e a
same_rules e e' a same = search (arith)

-- how far the octets have been read
abbrev pub HasReadTo : (e e' : EngineView) (a : Answers) (p octets : List ℕ) (at : ℕ)
    (s s' : ExchangeView) (before after : Tagging) → Type 0
HasReadTo e e' a p octets at s s' before after =
    ReadAndWroteThrough e' a (p ++ take at octets) before after (stamped (rules_with e a) s p
    (take at octets))
    s'
    (after_octets (rules_with e a) s p (take at octets))

pub read_none : (e : EngineView) (a : Answers) (p octets : List ℕ) (s : ExchangeView) (t : Tagging)
    →
    HoldsBy e a p →
    HasReadTo e e a p octets 0 s s t t
unfolding stamped after_octets
read_none e a p octets s t holds = search (arith, append-nil, wrote-nil)

pub agree_on : (e e' : EngineView) (a : Answers) (p octets : List ℕ) (at : ℕ) (s s' : ExchangeView)
    →
    HasSameSetup e' e →
    s.table ≡ e.table → s' ≡ after_octets (rules_with e a) s p (take at octets) →
    AgreeWith e a s p octets →
    AgreeWith e' a s' (p ++ take at octets) (drop at octets)
agree_on e e' a p octets at s s' same table told agrees = search (
  arith,
  take,
  drop,
  take-append-drop,
  agrees_behind,
  same_rules,
)

-- what stays the same of the calls if more octets are read
pub table_on : (e e' : EngineView) (a : Answers) (p octets : List ℕ) (at : ℕ) (s s' : ExchangeView)
    →
    HasSameSetup e' e →
    s.table ≡ e.table → s' ≡ after_octets (rules_with e a) s p (take at octets) → s'.table
    ≡ e'.table
table_on e e' a p octets at s s' same table told = search (arith, exchanged_table, take)

pub arrival_on : (R : Rules) (p octets : List ℕ) (s s' : ExchangeView) (arrival : Arrival) →
    s.arrival ≡ arrival →
    s' ≡ after_octets R s p octets → s'.arrival ≡ arrival
arrival_on R p octets s s' arrival now told = search (arith, exchanged_arrival)

pub taken_on : (R : Rules) (p octets : List ℕ) (s s' : ExchangeView) → HasNoReplyLines s →
    s' ≡ after_octets R s p octets → HasNoReplyLines s'
taken_on R p octets s s' none told = search (arith, exchanged_taken)

-- the lines of a front of octets, and then those of the other octets
lines_on : (e e' : EngineView) (a : Answers) (p front more : List ℕ) (s s' : ExchangeView) →
    HasSameSetup e' e →
    s' ≡ after_octets (rules_with e a) s p front →
    stamped (rules_with e a) s p front ++ stamped (rules_with e' a) s' (p ++ front) more
    ≡ stamped (rules_with e a) s p (front ++ more)
lines_on e e' a p front more s s' same told = search (arith, same_rules, stamped_both)

calls_on : (e e' : EngineView) (a : Answers) (p front more : List ℕ) (s s' : ExchangeView) →
    HasSameSetup e' e →
    s' ≡ after_octets (rules_with e a) s p front →
    after_octets (rules_with e' a) s' (p ++ front) more
    ≡ after_octets (rules_with e a) s p (front ++ more)
calls_on e e' a p front more s s' same told = search (arith, same_rules, exchanged_both)

come_on : (e e' e'' : EngineView) (a : Answers) (p octets : List ℕ) (at n : ℕ)
    (s s' s'' : ExchangeView) (t t' t'' : Tagging) →
    HasSameSetup e' e → HasReadTo e e' a p octets at s s' t t' →
    ReadAndWroteThrough e'' a ((p ++ take at octets) ++ take n (drop at octets)) t' t''
    (stamped (rules_with e' a) s' (p ++ take at octets) (take n (drop at octets))) s''
    (after_octets (rules_with e' a) s' (p ++ take at octets) (take n (drop at octets))) →
    HasReadTo e e'' a p octets (at + n) s s'' t t''
come_on e e' e'' a p octets at n s s' s'' t t' t'' same so_far more =
    let front = take at octets in
    let piece = take n (drop at octets) in
    let both : front ++ piece ≡ take (at + n) octets = sym (take-add at n octets) in
    let lines = lines_on e e' a p front piece s s' same so_far.told
    ∙ ap (stamped (rules_with e a) s p) both in
    record {
      holds = subst (HoldsBy e'' a) (append_assoc p front piece ∙ ap (λ (f : List ℕ). p ++ f) both)
          more.holds;
      wrote = subst (λ (l : List ℕ). Wrote (tagging_log t) (tagging_log t'') l) lines
          (wrote-append (tagging_log t) (tagging_log t') (tagging_log t'')
          (stamped (rules_with e a) s p front)
          (stamped (rules_with e' a) s' (p ++ front) piece) so_far.wrote more.wrote);
      told = more.told ∙ (calls_on e e' a p front piece s s' same so_far.told
          ∙ ap (after_octets (rules_with e a) s p) both);
    }

-- how far the octets are read after the next n octets were read by calls that agree
pub read_on : (e e' e'' : EngineView) (a : Answers) (p octets : List ℕ) (at n : ℕ)
    (s s' s'' : ExchangeView) (t t' t'' : Tagging) (arrival : Arrival) →
    HasSameSetup e' e → HasReadTo e e' a p octets at s s' t t' → AgreeWith e a s p octets →
    s.table ≡ e.table → s.arrival ≡ arrival → HasNoReplyLines s →
    (HoldsBy e' a (p ++ take at octets) → AgreeWith e' a s' (p ++ take at octets) (drop at octets) →
    s'.table ≡ e'.table → s'.arrival ≡ arrival →
    s'.answered ≡ None → s'.raised ≡ None →
    ReadAndWroteThrough e'' a ((p ++ take at octets) ++ take n (drop at octets)) t' t''
    (stamped (rules_with e' a) s' (p ++ take at octets) (take n (drop at octets))) s''
    (after_octets (rules_with e' a) s' (p ++ take at octets) (take n (drop at octets)))) →
    HasReadTo e e'' a p octets (at + n) s s'' t t''
read_on e e' e'' a p octets at n s s' s'' t t' t'' arrival same so_far agrees table now none comes =
    let none_now = taken_on (rules_with e a) p (take at octets) s s' none so_far.told in
    come_on e e' e'' a p octets at n s s' s'' t t' t'' same so_far
    (comes so_far.holds (agree_on e e' a p octets at s s' same table so_far.told agrees)
    (table_on e e' a p octets at s s' same table so_far.told)
    (arrival_on (rules_with e a) p (take at octets) s s' arrival now so_far.told) none_now.answered
    none_now.raised)

pub front_on : (e e' : EngineView) (a : Answers) (p octets : List ℕ) (at : ℕ) (s s' : ExchangeView)
    (t t' t'' : Tagging) →
    HasSameSetup e' e → HasReadTo e e' a p octets at s s' t t' →
    WroteFront (tagging_log t') (tagging_log t'')
    (stamped (rules_with e' a) s' (p ++ take at octets) (drop at octets)) →
    WroteFront (tagging_log t) (tagging_log t'') (stamped (rules_with e a) s p octets)
front_on e e' a p octets at s s' t t' t'' same so_far front =
    let first = take at octets in
    let rest = drop at octets in
    let lines = lines_on e e' a p first rest s s' same so_far.told
    ∙ ap (stamped (rules_with e a) s p) (take-append-drop at octets) in
    subst (WroteFront (tagging_log t) (tagging_log t'')) lines
    (wrote-front (tagging_log t) (tagging_log t') (tagging_log t'')
    (stamped (rules_with e a) s p first)
    (stamped (rules_with e' a) s' (p ++ first) rest) so_far.wrote front)

-- if all octets have been read, their lines were written to the out below
pub stands_at_end : (e e' : EngineView) (a : Answers) (p octets w tag due : List ℕ) (at : ℕ)
    (s s' : ExchangeView) (old t t' : Tagging) →
    length octets ≤ at → HasReadTo e e' a p octets at s s' t t' → IsReady old w →
    t ≡ record old { tag = tag; due = length tag; since = 0 } → tag ≡ due →
    ReadAndWroteBelow e' a (p ++ octets) t' (w ++ with_tags due (stamped (rules_with e a) s p
    octets)) s'
    (after_octets (rules_with e a) s p octets)
stands_at_end e e' a p octets w tag due at s s' old t t' past so_far ready set same =
    let all : take at octets ≡ octets = take_all at octets past in
    let R = rules_with e a in
    let wrote : Wrote (tagging_log t) (tagging_log t') (stamped R s p octets) =
    subst (λ (f : List ℕ). Wrote (tagging_log t) (tagging_log t') (stamped R s p f)) all
    so_far.wrote in
    let done : Result ℕ ℕ = Ok 0 in
    record {
      holds = subst (λ (f : List ℕ). HoldsBy e' a (p ++ f)) all so_far.holds;
      ready = below_tag done old t t' w (stamped R s p octets) tag due ready set same
          (stamped_ends e.table a e.most octets p s) wrote;
      told = so_far.told ∙ ap (after_octets R s p) all;
    }

-- no lines
pub nothing : (w : List ℕ) → w ++ with_tags [] [] ≡ w
unfolding tagged
nothing w = append-nil w

pub nothing_stopped : (w : List ℕ) → w ++ tagged_until_due [] (take 0 []) 0 ≡ w
unfolding tagged_until_due tagged next_begins_line
nothing_stopped w = append-nil w

-- ---- the start

pub agree_start : (C : Table) (most : ℕ) (a b : Answers) → AnswersAgree C most [] a b
unfolding events events_from messages cut limited limit cut_from first_wrong_octet fronts
    first_front_fault last_octet_fault
agree_start C most a b = tt

pub reading_starts : (e : EngineView) (stream : ℕ) (arrival : Arrival) (s0 s1 s2 : ExchangeView)
    (C : Table) (number : ℕ) →
    s1 ≡ record s0 { table = C } → s2 ≡ record s1 {
      stream = number;
      arrival = arrival;
      replied = 0;
      answered = None;
      raised = None;
    } →
    e.table ≡ C → number ≡ stream → s2 ≡ exchange_for_reading e stream arrival s0
reading_starts e stream arrival s0 s1 s2 C number first second same numbered = search (arith)

-- ---- a stream fault

-- an engine has read up to the octet of its stream's fault
pub fault_place_is : (e : EngineView) (p : List ℕ) (fault : StreamFault) → HasRead e p →
    Stopped fault ≡ status_of (fault_of (cut p).stop) →
    Some e.stream.totals.octets ≡ fault_place (cut p).stop
unfolding state_of totals_so_far octets_read
fault_place_is e p fault read is =
    ap (λ (t : Totals). Some t.octets) read.holds.shows.totals ∙ by (cut p).stop is
  where
    by : (stop : Option (ℕ × StreamFault)) → Stopped fault ≡ status_of (fault_of stop) →
        Some (octets_read p stop) ≡ fault_place stop
    by None is = absurd cc
    by (Some found) is = refl
