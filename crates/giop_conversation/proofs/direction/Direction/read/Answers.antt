use Rattle.std.proofs.Common.{ℕ, ◌+◌, ◌++◌, ◌≤◌, length, take, drop, take-add, append-nil, append_assoc, ◌∙◌, arith, refl}
use Rattle.std.proofs.lemmas.List.{take_all}
use Rattle.giop_print.proofs.Writing.{rest_from}
use Rattle.giop_stream.specs.EngineHolds.{rules_with}
use Rattle.std.proofs.Common.{◌≡◌, List, Result, Err, subst, sym, ap}
use Rattle.std.proofs.lemmas.Result.{MatchResult-from_err}
use Rattle.giop_print.specs.Output.{WroteFront}
use Rattle.giop_conversation.specs.Tags.{stream_tag, with_tags}
use Rattle.giop_conversation.specs.TaggedState.{tagging_log, WroteTaggedFront}
use Rattle.giop_conversation.specs.Exchanges.{ExchangeView, answer_of}
use Rattle.giop_sig.specs.Table.{Table}
use Rattle.giop_message.specs.MessageState.{AreKnown}
use Rattle.giop_conversation.specs.Stamped.{stamped, after_octets}
use Rattle.giop_conversation.specs.StreamReads.{AgreeWith, ReadAndWroteBelow, exchange_for_reading}
use Rattle.giop_conversation.proofs.LineEnds.{stamped_ends}
use Rattle.giop_conversation.proofs.StampedLemmas.{HasNoReplyLines}
use Rattle.giop_conversation.proofs.StreamReadLemmas.{read_none, read_on, front_on, agree_on, table_on, arrival_on, taken_on, below_tag, stands_at_end, reading_starts}
use Rattle.giop_conversation.proofs.direction.Direction.read.Goals as goal

pub loop-size-preserved : goal.loop-size-preserved
loop-size-preserved g c =
    let at = c.loop-size.at in
    let octets = c.args.octets.now in
    let does = rw (rest_from at octets) at c.in_ok-size.ensures in
    let n = c.in_ok-size.size in
    record {
      within = omega arith;
      known = does.known;
      read = λ p read.
          let more = does.read (p ++ take at octets) (c.loop-size.invariant.read p read) in
          rw (take-add at n octets, ← append_assoc p (take at octets) (take n (drop at octets)))
          more;
      text = λ a p holds agrees table arrival unanswered unraised.
          read_on c.args.self.now.engine c.loop-size.self.engine c.read_until_due.new.self.engine a
          p
          octets at n c.note_packet.new.self c.loop-size.exchange
          c.read_until_due.new.exchange c.set_tag.new.self c.loop-size.out c.read_until_due.new.out
          c.args.arrival.now c.loop-size.invariant.same
          (c.loop-size.invariant.text a p holds agrees table arrival unanswered unraised) agrees
          table arrival
          (record { answered = unanswered; raised = unraised }) (does.text a (p ++ take at octets));
      same = record {
        table = does.same.table ∙ c.loop-size.invariant.same.table;
        most = does.same.most ∙ c.loop-size.invariant.same.most;
      };
      sound = does.fails ∙ c.loop-size.invariant.sound;
      stream = does.stream ∙ c.loop-size.invariant.stream;
      live = does.live ∙ c.loop-size.invariant.live;
      flow = does.flow ∙ c.loop-size.invariant.flow;
    }

pub loop-size-init : goal.loop-size-init
loop-size-init g c =
    let e = c.args.self.now.engine in
    let s = c.note_packet.new.self in
    let starts : s ≡ exchange_for_reading e c.args.self.now.stream c.args.arrival.now
    c.args.exchange.now =
    reading_starts e c.args.self.now.stream c.args.arrival.now c.args.exchange.now
    c.set_catalogue.new.self s c.self.inside.catalogue.now c.self.inside.stream
    c.set_catalogue.ensures c.note_packet.ensures (rw (← c.self.view_is) c.self.invariant.0.same)
    (rw (← c.self.view_is) refl) in
    record {
      within = omega arith;
      known = subst (λ (C : Table). AreKnown C (answer_of s))
          (ap (λ (x : ExchangeView). x.table) starts) (c.answers_are_known.ensures s);
      read = λ p read. rw (append-nil p) read;
      text = λ a p holds agrees table arrival unanswered unraised.
          read_none e a p c.args.octets.now s c.set_tag.new.self holds;
      same = record { table = refl; most = refl };
      sound = refl;
      stream = refl;
      live = refl;
      flow = refl;
    }

pub returns-in_err-size-clause-text : goal.returns-in_err-size-clause-text
returns-in_err-size-clause-text g c = λ a p w holds ready agrees.
    let e = c.args.self.now.engine in
    let e' = c.loop-size.self.engine in
    let R = rules_with e a in
    let at = c.loop-size.at in
    let octets = c.args.octets.now in
    let s = c.note_packet.new.self in
    let s' = c.loop-size.exchange in
    let same = c.loop-size.invariant.same in
    let due = stream_tag c.args.self.now.stream in
    let starts : s ≡ exchange_for_reading e c.args.self.now.stream c.args.arrival.now
    c.args.exchange.now =
    reading_starts e c.args.self.now.stream c.args.arrival.now c.args.exchange.now
    c.set_catalogue.new.self s c.self.inside.catalogue.now c.self.inside.stream
    c.set_catalogue.ensures c.note_packet.ensures (rw (← c.self.view_is) c.self.invariant.0.same)
    (rw (← c.self.view_is) refl) in
    let agree : AgreeWith e a s p octets =
    subst (λ (x : ExchangeView). AgreeWith e a x p octets) (sym starts) agrees in
    let table = ap (λ (x : ExchangeView). x.table) starts in
    let arrival = ap (λ (x : ExchangeView). x.arrival) starts in
    let none : HasNoReplyLines s = record {
      answered = ap (λ (x : ExchangeView). x.answered) starts;
      raised =
          ap (λ (x : ExchangeView). x.raised) starts;
    } in
    let so_far = c.loop-size.invariant.text a p holds agree table arrival none.answered none.raised
    in let more = rw (rest_from at octets) at c.in_err-size.ensures in
    let front : WroteFront (tagging_log c.set_tag.new.self) (tagging_log c.read_until_due.new.out)
    (stamped R s p octets) =
    front_on e e' a p octets at s s' c.set_tag.new.self c.loop-size.out c.read_until_due.new.out
    same
    so_far
    (more.text a (p ++ take at octets) so_far.holds
    (agree_on e e' a p octets at s s' same table so_far.told agree)
    (table_on e e' a p octets at s s' same table so_far.told)
    (arrival_on R p (take at octets) s s' c.args.arrival.now arrival so_far.told)
    (taken_on R p (take at octets) s s' none so_far.told).answered
    (taken_on R p (take at octets) s s' none so_far.told).raised) in
    let failed : Result ℕ ℕ = Err 0 in
    let below : WroteTaggedFront c.read_until_due.new.out w due (stamped R s p octets) =
    below_tag failed c.args.out.now c.set_tag.new.self c.read_until_due.new.out w
    (stamped R s p octets)
    c.copied.result due ready
    c.set_tag.ensures (rw (← c.self.view_is) (c.copied.ensures ∙ c.self.invariant.1))
    (stamped_ends e.table a e.most octets p s) front in
    MatchResult-from_err c.from_residual.result _ _ c.from_residual.ensures.0
    (λ _. subst (λ (x : ExchangeView). WroteTaggedFront c.read_until_due.new.out w due
    (stamped R x p octets)) starts below)

pub returns-then-at-octets-clause-fault : goal.returns-then-at-octets-clause-fault
returns-then-at-octets-clause-fault g c = λ p read.
    let at = c.loop-size.at in
    let n = c.in_ok-size.size in
    let octets = c.args.octets.now in
    let does = rw (rest_from at octets) at c.in_ok-size.ensures in
    let before = c.loop-size.invariant.read p read in
    let past : length octets ≤ at + n = omega arith in
    let all : (p ++ take at octets) ++ take n (drop at octets) ≡ p ++ octets =
    append_assoc p (take at octets) (take n (drop at octets))
    ∙ ap (λ (q : List ℕ). p ++ q) (sym (take-add at n octets) ∙ take_all (at + n) octets past) in
    let has = does.read (p ++ take at octets) before in
    let is = does.status (p ++ take at octets) before in
    c.fault_place.ensures (p ++ octets) (rw all at has) (rw all at is)

pub returns-then-at-octets-clause-text : goal.returns-then-at-octets-clause-text
returns-then-at-octets-clause-text g c = λ a p w holds ready agrees.
    let e = c.args.self.now.engine in
    let e' = c.read_until_due.new.self.engine in
    let R = rules_with e a in
    let at = c.loop-size.at in
    let n = c.in_ok-size.size in
    let octets = c.args.octets.now in
    let does = rw (rest_from at octets) at c.in_ok-size.ensures in
    let past : length octets ≤ at + n = omega arith in
    let s = c.note_packet.new.self in
    let out = c.read_until_due.new.out in
    let due = stream_tag c.args.self.now.stream in
    let starts : s ≡ exchange_for_reading e c.args.self.now.stream c.args.arrival.now
    c.args.exchange.now =
    reading_starts e c.args.self.now.stream c.args.arrival.now c.args.exchange.now
    c.set_catalogue.new.self s c.self.inside.catalogue.now c.self.inside.stream
    c.set_catalogue.ensures c.note_packet.ensures (rw (← c.self.view_is) c.self.invariant.0.same)
    (rw (← c.self.view_is) refl) in
    let agree : AgreeWith e a s p octets =
    subst (λ (x : ExchangeView). AgreeWith e a x p octets) (sym starts) agrees in
    let table = ap (λ (x : ExchangeView). x.table) starts in
    let arrival = ap (λ (x : ExchangeView). x.arrival) starts in
    let none : HasNoReplyLines s = record {
      answered = ap (λ (x : ExchangeView). x.answered) starts;
      raised =
          ap (λ (x : ExchangeView). x.raised) starts;
    } in
    let all =
    read_on e c.loop-size.self.engine e' a p octets at n s c.loop-size.exchange
    c.read_until_due.new.exchange c.set_tag.new.self c.loop-size.out out c.args.arrival.now
    c.loop-size.invariant.same (c.loop-size.invariant.text a p holds agree table arrival
    none.answered none.raised) agree table arrival none
    (does.text a (p ++ take at octets)) in
    subst (λ (x : ExchangeView). ReadAndWroteBelow e' a (p ++ octets) out
    (w ++ with_tags due (stamped R x p octets)) c.read_until_due.new.exchange
    (after_octets R x p octets))
    starts
    (stands_at_end e e' a p octets w c.copied.result due (at + n) s
    c.read_until_due.new.exchange c.args.out.now c.set_tag.new.self out past all ready
    c.set_tag.ensures (rw (← c.self.view_is) (c.copied.ensures ∙ c.self.invariant.1)))
