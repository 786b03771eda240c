-- The same events lead to one text. Two dumps to which they lead differ at most in the answers of
-- their streams, and these agree at each header that ends in a stream.
use Rattle.std.proofs.Common.{inl, inr, ◌⊎◌, ◌≡◌, ℕ, zero, suc, ◌/◌, ◌||◌, List, [], ◌∷◌, ◌++◌, map, Option, Some, None, refl, sym, ap, subst, ◌∙◌, append_assoc, slice_get, set}
use Rattle.giop_print.specs.Output.{saturating_next}
use Rattle.giop_message.specs.Signatures.{Answers}
use Rattle.giop_message.specs.HeaderEnds.{after_ends, AgreesAtEnds}
use Rattle.giop_stream.specs.AnswersAgree.{AnswersAgree, AgreeAtHeaders}
use Rattle.giop_stream.specs.HeaderEndsOfStream.{header_ends_from}
use Rattle.giop_stream.specs.Stream.{closing, final}
use Rattle.giop_stream.proofs.StreamLaws.{closing_alike, final_alike, added_alike, ends_alike, alike_front, leads_on, back, both, itself, at_headers}
use Rattle.tcp_flow.specs.Flow.{Event, Opens, Begins, Delivers, Closes, OfCapture, ComesFrom, Passes, HasFault}
use Rattle.tcp_flow.specs.declared.flow.Start.{Start}
use Rattle.tcp_flow.specs.declared.flow.CloseCause.{CloseCause}
use Rattle.tcp_segment.specs.declared.endpoint.Flow.{Flow}
use Rattle.tcp_waiting.specs.declared.arrival.Arrival.{Arrival}
use Rattle.giop_conversation.specs.declared.conversation.Side.{Side}
use Rattle.giop_conversation.specs.declared.conversation.Side.TheVariants.{Even, Odd}
use Rattle.giop_conversation.specs.Tags.{stream_tag, with_tags}
use Rattle.giop_conversation.specs.Lines.{closed_line}
use Rattle.giop_conversation.specs.Followed.{side_of}
use Rattle.giop_conversation.specs.Exchanges.{ExchangeView, answer_of, notified}
use Rattle.giop_conversation.specs.Stamped.{begin_lines, after_headers, reply_forgotten, lines_due, after_octets, stamped}
use Rattle.giop_conversation.specs.Captured.{Setup, Half, Connection, Dump, Step, Leads, AnswersFitEvent, AnswersAreOfCalls, half, rules_in, next_stream_number, calls_in, flow_opened, stream_begun, stream_ended, opening, octets_delivered, lines_of_delivered, dump_after_open, dump_after_begin, dump_after_octets, dump_after_close, connection_of, saturating_sum, cuts_stream, dump_after_event, unanswered, without_answers}

-- ---- octets that are read by answers that agree

module _ (S : Setup) (a b : Answers) where
  abbrev Agree : (p : List ℕ) → Type 0
  Agree p = AgreeAtHeaders S.table S.messages p a b

  next : (p : List ℕ) (x : ℕ) (q : List ℕ) → Agree (p ++ x ∷ q) → Agree ((p ++ x ∷ []) ++ q)
  next p x q h = subst Agree (sym (append_assoc p (x ∷ []) q)) h

  first : (p : List ℕ) (x : ℕ) (q : List ℕ) → Agree (p ++ x ∷ q) → Agree (p ++ x ∷ [])
  first p x q h = alike_front S.table a b S.messages (p ++ x ∷ []) q (next p x q h)

  told_alike : (p : List ℕ) (x : ℕ) (s : ExchangeView) → Agree (p ++ x ∷ []) →
      after_headers (rules_in S a) s p (x ∷ []) ≡ after_headers (rules_in S b) s p (x ∷ [])
  told_alike p x s h = ap (after_ends notified s.table s)
      (ends_alike S.table a b S.messages p (x ∷ []) h)

  exchanged_alike : (q p : List ℕ) (s : ExchangeView) → Agree (p ++ q) →
      after_octets (rules_in S a) s p q ≡ after_octets (rules_in S b) s p q
  unfolding after_octets
  exchanged_alike [] p s h = refl
  exchanged_alike (x ∷ q) p s h =
      exchanged_alike q (p ++ x ∷ []) (reply_forgotten (after_headers (rules_in S a) s p (x ∷ [])))
      (next p x q h)
      ∙ ap (λ (t : ExchangeView). after_octets (rules_in S b) (reply_forgotten t) (p ++ x ∷ []) q)
      (told_alike p x s (first p x q h))

  due_alike : (p : List ℕ) (x : ℕ) (s : ExchangeView) → Agree (p ++ x ∷ []) →
      lines_due (rules_in S a) s p (x ∷ []) ≡ lines_due (rules_in S b) s p (x ∷ [])
  unfolding lines_due
  due_alike p x s h = rw (ends_alike S.table a b S.messages p (x ∷ []) h) refl

  stamped_alike : (q p : List ℕ) (s : ExchangeView) → Agree (p ++ q) →
      stamped (rules_in S a) s p q ≡ stamped (rules_in S b) s p q
  unfolding stamped
  stamped_alike [] p s h = refl
  stamped_alike (x ∷ q) p s h =
      let one = first p x q h in
      let add = added_alike S.table a b S.messages p (x ∷ []) one in
      let due = due_alike p x s one in
      let more = stamped_alike q (p ++ x ∷ []) (reply_forgotten (after_headers (rules_in S a) s p
      (x ∷ [])))
      (next p x q h)
      ∙ ap (λ (t : ExchangeView). stamped (rules_in S b) (reply_forgotten t) (p ++ x ∷ []) q)
      (told_alike p x s one) in
      λ j. (add j ++ due j) ++ more j

-- ---- two connections are the same except for the answers

abbrev with_answers : (x y : Answers) (c : Connection) → Connection
with_answers x y c = record {
  even = record c.even { answers = x };
  odd = record c.odd { answers = y };
}

abbrev AgreeOnStream : Setup → Half → Answers → Type 0
AgreeOnStream S h x = AgreeAtHeaders S.table S.messages h.octets h.answers x

record IsAlike (S : Setup) (c c' : Connection) : Type 0 where
  x : Answers
  y : Answers
  is : c' ≡ with_answers x y c
  even : AgreeOnStream S c.even x
  odd : AgreeOnStream S c.odd y

abbrev AreAlike : (S : Setup) (connections cs' : List Connection) → Type 0
AreAlike S [] [] = Unit {0}
AreAlike S [] (c' ∷ cs') = ⊥
AreAlike S (c ∷ cs) [] = ⊥
AreAlike S (c ∷ cs) (c' ∷ cs') = IsAlike S c c' × AreAlike S cs cs'

alike_all : (S : Setup) (cs : List Connection) → AreAlike S cs cs
alike_all S [] = tt
alike_all S (c ∷ cs) = (
  record {
    x = c.even.answers;
    y = c.odd.answers;
    is = refl;
    even = itself S.table S.messages c.even.octets c.even.answers;
    odd = itself S.table S.messages c.odd.octets c.odd.answers;
  },
  alike_all S cs,
)

-- the connections of two dumps at one index
record BothHaveAlike (S : Setup) (cs cs' : List Connection) (i : ℕ) : Type 0 where
  c : Connection
  c' : Connection
  is : slice_get cs i ≡ Some c
  is' : slice_get cs' i ≡ Some c'
  alike : IsAlike S c c'

abbrev AlikeOrNoneAt : (S : Setup) (cs cs' : List Connection) (i : ℕ) → Type 0
AlikeOrNoneAt S cs cs' i = ((slice_get cs i ≡ None) × (slice_get cs' i ≡ None)) ⊎ BothHaveAlike S cs
    cs' i

alike_at : (S : Setup) (cs cs' : List Connection) (i : ℕ) → AreAlike S cs cs' → AlikeOrNoneAt S cs
    cs' i
alike_at S [] [] i h = inl (refl, refl)
alike_at S [] (c' ∷ cs') i h = absurd h
alike_at S (c ∷ cs) [] i h = absurd h
alike_at S (c ∷ cs) (c' ∷ cs') zero h =
    inr (record { c = c; c' = c'; is = refl; is' = refl; alike = h.0 })
alike_at S (c ∷ cs) (c' ∷ cs') (suc i) h = go (alike_at S cs cs' i h.1)
  where
    go : AlikeOrNoneAt S cs cs' i → AlikeOrNoneAt S (c ∷ cs) (c' ∷ cs') (suc i)
    go (inl k) = inl k
    go (inr k) = inr (record { c = k.c; c' = k.c'; is = k.is; is' = k.is'; alike = k.alike })

alike_set : (S : Setup) (cs cs' : List Connection) (i : ℕ) (c c' : Connection) →
    AreAlike S cs cs' → IsAlike S c c' → AreAlike S (set cs i c) (set cs' i c')
alike_set S [] [] i c c' h k = tt
alike_set S [] (o' ∷ cs') i c c' h k = absurd h
alike_set S (o ∷ cs) [] i c c' h k = absurd h
alike_set S (o ∷ cs) (o' ∷ cs') zero c c' h k = (k, h.1)
alike_set S (o ∷ cs) (o' ∷ cs') (suc i) c c' h k = (h.0, alike_set S cs cs' i c c' h.1 k)

-- ---- what events do to it

opened_alike : (S : Setup) (side : Side) (flow : Flow) (c c' : Connection) → IsAlike S c c' →
    IsAlike S (flow_opened side flow c) (flow_opened side flow c')
opened_alike S Even flow c c' k = record {
  x = k.x;
  y = k.y;
  is = ap (flow_opened Even flow) k.is;
  even = k.even;
  odd = k.odd;
}
opened_alike S Odd flow c c' k = record {
  x = k.x;
  y = k.y;
  is = ap (flow_opened Odd flow) k.is;
  even = k.even;
  odd = k.odd;
}

begun_alike : (S : Setup) (side : Side) (stream : ℕ) (c c' : Connection) → IsAlike S c c' →
    IsAlike S (stream_begun side stream c) (stream_begun side stream c')
unfolding header_ends_from
begun_alike S Even stream c c' k = record {
  x = k.x;
  y = k.y;
  is = ap (stream_begun Even stream) k.is;
  even = tt;
  odd = k.odd;
}
begun_alike S Odd stream c c' k = record {
  x = k.x;
  y = k.y;
  is = ap (stream_begun Odd stream) k.is;
  even = k.even;
  odd = tt;
}

ended_alike : (S : Setup) (side : Side) (c c' : Connection) → IsAlike S c c' →
    IsAlike S (stream_ended side c) (stream_ended side c')
ended_alike S Even c c' k = record {
  x = k.x;
  y = k.y;
  is = ap (stream_ended Even) k.is;
  even = k.even;
  odd = k.odd;
}
ended_alike S Odd c c' k = record {
  x = k.x;
  y = k.y;
  is = ap (stream_ended Odd) k.is;
  even = k.even;
  odd = k.odd;
}

-- what is said of a stream that begins is the same for both
opening_alike : (S : Setup) (side : Side) (time : Option ℕ) (start : Start) (c c' : Connection) →
    IsAlike S c c' → opening side time start c' ≡ opening side time start c
opening_alike S Even time start c c' k = ap (opening Even time start) k.is
opening_alike S Odd time start c c' k = ap (opening Odd time start) k.is

-- what is written of a flow is the same for both
record WritesTheSame (S : Setup) (s s' : Half) : Type 0 where
  flow : s.flow ≡ s'.flow
  stream : s.stream ≡ s'.stream
  closing_is : closing (rules_in S s.answers) s.octets ≡ closing (rules_in S s'.answers) s'.octets
  final_is : final (rules_in S s.answers) s.octets ≡ final (rules_in S s'.answers) s'.octets

writes_by : (S : Setup) (s : Half) (x : Answers) → AgreeOnStream S s x →
    WritesTheSame S s (record s { answers = x })
writes_by S s x h = record {
  flow = refl;
  stream = refl;
  closing_is = closing_alike S.table s.answers x S.messages s.octets h;
  final_is = final_alike S.table s.answers x S.messages s.octets h;
}

writes_alike : (S : Setup) (side : Side) (c c' : Connection) → IsAlike S c c' →
    WritesTheSame S (half side c) (half side c')
writes_alike S Even c c' k = subst (λ (z : Connection). WritesTheSame S c.even z.even) (sym k.is)
    (writes_by S c.even k.x k.even)
writes_alike S Odd c c' k = subst (λ (z : Connection). WritesTheSame S c.odd z.odd) (sym k.is)
    (writes_by S c.odd k.y k.odd)

-- if answers agree for what was read before, those of both dumps agree for the octets that come
-- then
agree_now : (S : Setup) (p q : List ℕ) (s x a b : Answers) (e : ExchangeView) →
    AgreeAtHeaders S.table S.messages p s x → AnswersAgree S.table S.messages p s a →
    AnswersAgree S.table S.messages p x b →
    AgreesAtEnds answer_of notified S.table e a (header_ends_from (rules_in S a) p q) →
    AgreesAtEnds answer_of notified S.table e b (header_ends_from (rules_in S b) p q) →
    AgreeAtHeaders S.table S.messages (p ++ q) a b
agree_now S p q s x a b e h k l f g =
    let C = S.table in
    let n = S.messages in
    leads_on C a b n answer_of notified p q e
    (both C n p a s b (back C n p s a (at_headers C n s a p k))
    (both C n p s x b h (at_headers C n x b p l))) f g

-- the connections after the same octets differ only in their answers, and the lines of the octets
-- are the same
record AlikeAfterOctets (S : Setup) (a b : Answers) (side : Side) (q : List ℕ) (arrival : Arrival)
    (c c' : Connection) : Type 0 where
  connection : IsAlike S (octets_delivered S a side q arrival c) (octets_delivered S b side q
      arrival c')
  lines : lines_of_delivered S a side q arrival c ≡ lines_of_delivered S b side q arrival c'

behind_by : (S : Setup) (a b : Answers) (side : Side) (q : List ℕ) (arrival : Arrival)
    (c : Connection) (x y : Answers) → AgreeOnStream S c.even x → AgreeOnStream S c.odd y →
    AnswersAreOfCalls S a side q arrival c → AnswersAreOfCalls S b side q arrival
    (with_answers x y c) →
    AlikeAfterOctets S a b side q arrival c (with_answers x y c)
behind_by S a b Even q arrival c x y even odd f g =
    let e = calls_in S Even arrival c in
    let p = c.even.octets in
    let now = agree_now S p q c.even.answers x a b e even f.before g.before f.now g.now in
    let calls = exchanged_alike S a b q p e now in
    record {
      connection = record {
        x = b;
        y = y;
        is = ap (λ (t : ExchangeView). record {
          even = record c.even { octets = p ++ q; answers = b; calls = t.own };
          odd = record c.odd { answers = y; calls = t.opposite };
        }) (sym calls);
        even = now;
        odd = odd;
      };
      lines = stamped_alike S a b q p e now;
    }
behind_by S a b Odd q arrival c x y even odd f g =
    let e = calls_in S Odd arrival c in
    let p = c.odd.octets in
    let now = agree_now S p q c.odd.answers y a b e odd f.before g.before f.now g.now in
    let calls = exchanged_alike S a b q p e now in
    record {
      connection = record {
        x = x;
        y = b;
        is = ap (λ (t : ExchangeView). record {
          even = record c.even { answers = x; calls = t.opposite };
          odd = record c.odd { octets = p ++ q; answers = b; calls = t.own };
        }) (sym calls);
        even = even;
        odd = now;
      };
      lines = stamped_alike S a b q p e now;
    }

behind_alike : (S : Setup) (a b : Answers) (side : Side) (q : List ℕ) (arrival : Arrival)
    (c c' : Connection) → IsAlike S c c' → AnswersAreOfCalls S a side q arrival c →
    AnswersAreOfCalls S b side q arrival c' → AlikeAfterOctets S a b side q arrival c c'
behind_alike S a b side q arrival c c' k f g =
    subst (λ (z : Connection). AlikeAfterOctets S a b side q arrival c z) (sym k.is)
    (behind_by S a b side q arrival c k.x k.y k.even k.odd f
    (subst (λ (z : Connection). AnswersAreOfCalls S b side q arrival z) k.is g))

-- ---- two dumps are the same except for the answers

record IsSameButAnswers (S : Setup) (d d' : Dump) : Type 0 where
  connections : List Connection
  is : d' ≡ record d { connections = connections }
  alike : AreAlike S d.connections connections

module _ (S : Setup) (a b : Answers) (d : Dump) (cs' : List Connection)
    (h : AreAlike S d.connections cs') where
  abbrev twin : Dump
  twin = record d { connections = cs' }

  on_opened : (id : ℕ) (flow : Flow) → AlikeOrNoneAt S d.connections cs' (id / 2) →
      IsSameButAnswers S (dump_after_open d id flow (connection_of d id))
      (dump_after_open twin id flow (connection_of twin id))
  on_opened id flow (inl k) = rw (k.0, k.1) (record { connections = cs'; is = refl; alike = h })
  on_opened id flow (inr k) =
      rw (k.is, k.is') (record {
        connections = set cs' (id / 2) (flow_opened (side_of id) flow k.c');
        is = refl;
        alike = alike_set S d.connections cs' (id / 2) (flow_opened (side_of id) flow k.c)
            (flow_opened (side_of id) flow k.c') h
            (opened_alike S (side_of id) flow k.c k.c' k.alike);
      })

  on_begun : (id : ℕ) (start : Start) → AlikeOrNoneAt S d.connections cs' (id / 2) →
      IsSameButAnswers S (dump_after_begin S d id start (connection_of d id))
      (dump_after_begin S twin id start (connection_of twin id))
  on_begun id start (inl k) = rw (k.0, k.1) (record { connections = cs'; is = refl; alike = h })
  on_begun id start (inr k) =
      let number = next_stream_number S d.streams in
      let side = side_of id in
      let behind = set cs' (id / 2) (stream_begun side number k.c') in
      rw (k.is, k.is') (record {
        connections = behind;
        is = λ j. record d {
          connections = behind;
          streams = saturating_next d.streams;
          text = d.text ++ with_tags (stream_tag number)
              (begin_lines (sym (writes_alike S side k.c k.c' k.alike).flow j)
              (opening_alike S side d.arrival.time start k.c k.c' k.alike j));
        };
        alike = alike_set S d.connections cs' (id / 2) (stream_begun side number k.c)
            (stream_begun side number k.c') h
            (begun_alike S side number k.c k.c' k.alike);
      })

  on_delivered : (id : ℕ) (q : List ℕ) → AlikeOrNoneAt S d.connections cs' (id / 2) →
      AnswersFitEvent S a d (Delivers id q) → AnswersFitEvent S b twin (Delivers id q) →
      IsSameButAnswers S (dump_after_octets S a d id q (connection_of d id))
      (dump_after_octets S b twin id q (connection_of twin id))
  on_delivered id q (inl k) f g = rw (k.0, k.1) (record { connections = cs'; is = refl; alike = h })
  on_delivered id q (inr k) f g =
      let side = side_of id in
      let now = behind_alike S a b side q d.arrival k.c k.c' k.alike (rw k.is at f)
      (rw k.is' at g) in
      let behind = set cs' (id / 2) (octets_delivered S b side q d.arrival k.c') in
      let stream = (writes_alike S side k.c k.c' k.alike).stream in
      rw (k.is, k.is') (record {
        connections = behind;
        is = λ j. record d {
          connections = behind;
          text = d.text ++ with_tags (stream_tag (sym stream j)) (sym now.lines j);
        };
        alike = alike_set S d.connections cs' (id / 2) (octets_delivered S a side q d.arrival k.c)
            (octets_delivered S b side q d.arrival k.c') h now.connection;
      })

  on_closed : (id : ℕ) (cause : CloseCause) → AlikeOrNoneAt S d.connections cs' (id / 2) →
      IsSameButAnswers S (dump_after_close S d id cause (connection_of d id))
      (dump_after_close S twin id cause (connection_of twin id))
  on_closed id cause (inl k) = rw (k.0, k.1) (record { connections = cs'; is = refl; alike = h })
  on_closed id cause (inr k) =
      let w = writes_alike S (side_of id) k.c k.c' k.alike in
      let behind = set cs' (id / 2) (stream_ended (side_of id) k.c') in
      rw (k.is, k.is') (record {
        connections = behind;
        is = λ j. record d {
          connections = behind;
          messages = saturating_sum d.messages (sym w.final_is j).messages;
          faults = saturating_sum d.faults (sym w.final_is j).faults;
          is_cut = d.is_cut || cuts_stream cause;
          text = d.text ++ with_tags (stream_tag (sym w.stream j))
              (closed_line cause ++ sym w.closing_is j);
        };
        alike = alike_set S d.connections cs' (id / 2) (stream_ended (side_of id) k.c)
            (stream_ended (side_of id) k.c') h (ended_alike S (side_of id) k.c k.c' k.alike);
      })

  step_alike : (e : Event) → AnswersFitEvent S a d e → AnswersFitEvent S b twin e →
      IsSameButAnswers S (dump_after_event S a d e) (dump_after_event S b twin e)
  step_alike (Opens id flow) f g = on_opened id flow (alike_at S d.connections cs' (id / 2) h)
  step_alike (Begins id start) f g = on_begun id start (alike_at S d.connections cs' (id / 2) h)
  step_alike (Delivers id q) f g =
      on_delivered id q (alike_at S d.connections cs' (id / 2) h) f g
  step_alike (Closes id cause) f g = on_closed id cause (alike_at S d.connections cs' (id / 2) h)
  step_alike (OfCapture (ComesFrom arrival)) f g =
      record { connections = cs'; is = refl; alike = h }
  step_alike (OfCapture (HasFault word at)) f g =
      record { connections = cs'; is = refl; alike = h }
  step_alike (OfCapture (Passes octets)) f g =
      record { connections = cs'; is = refl; alike = h }

same_step : (S : Setup) (d d' : Dump) (e : Event) (m m' : Dump) → IsSameButAnswers S d d' →
    Step S d e m → Step S d' e m' → IsSameButAnswers S m m'
same_step S d d' e m m' same one two =
    subst (λ (z : Dump). IsSameButAnswers S z m') (sym one.is)
    (subst (λ (z : Dump). IsSameButAnswers S (dump_after_event S one.answers d e) z) (sym two.is)
    (subst (λ (z : Dump). AnswersFitEvent S two.answers z e →
    IsSameButAnswers S (dump_after_event S one.answers d e) (dump_after_event S two.answers z e))
    (sym same.is)
    (λ g. step_alike S one.answers two.answers d same.connections same.alike e one.answered g)
    two.answered))

same_leads : (S : Setup) (events : List Event) (d d' a b : Dump) → IsSameButAnswers S d d' →
    Leads S d events a → Leads S d' events b → IsSameButAnswers S a b
same_leads S [] d d' a b same f g =
    subst (λ (z : Dump). IsSameButAnswers S z b) (sym f) (subst (λ (z : Dump). IsSameButAnswers S d
    z) (sym g) same)
same_leads S (e ∷ es) d d' a b same f g =
    same_leads S es f.0 g.0 a b (same_step S d d' e f.0 g.0 same f.1 g.1) f.2 g.2

same : (S : Setup) (d : Dump) (events : List Event) (a b : Dump) → Leads S d events a →
    Leads S d events b → IsSameButAnswers S a b
same S d events a b f g =
    same_leads S events d d a b
    (record { connections = d.connections; is = refl; alike = alike_all S d.connections }) f g

pub one_text : (S : Setup) (d : Dump) (events : List Event) (a b : Dump) → Leads S d events a →
    Leads S d events b → a.text ≡ b.text
one_text S d events a b f g = sym (ap (λ (z : Dump). z.text) (same S d events a b f g).is)

unanswered_alike : (S : Setup) (cs cs' : List Connection) → AreAlike S cs cs' →
    map unanswered cs ≡ map unanswered cs'
unanswered_alike S [] [] h = refl
unanswered_alike S [] (c' ∷ cs') h = absurd h
unanswered_alike S (c ∷ cs) [] h = absurd h
unanswered_alike S (c ∷ cs) (c' ∷ cs') h =
    let one : unanswered c ≡ unanswered c' = sym (ap unanswered h.0.is) in
    let more = unanswered_alike S cs cs' h.1 in
    λ j. one j ∷ more j

pub one_dump : (S : Setup) (d : Dump) (events : List Event) (a b : Dump) → Leads S d events a →
    Leads S d events b → without_answers a ≡ without_answers b
one_dump S d events a b f g =
    let it = same S d events a b f g in
    ap (λ (cs : List Connection). record a { connections = cs })
    (unanswered_alike S a.connections it.connections it.alike)
    ∙ sym (ap without_answers it.is)
