use Rattle.std.proofs.Common.{◌≡◌, inl, inr, ◌+◌, ◌<◌, [], take, take-add, drop, refl, sym, ◌∙◌, append-nil, length-drop, arith}
use Rattle.std.proofs.lemmas.Bool.{cases_lt}
use Rattle.std.proofs.lemmas.List.{take-append-drop}
use Rattle.std.proofs.lemmas.List.Elements.{All-take, All-from_get_or}
use Rattle.giop_print.proofs.Writing.{rest_from, writes_failed, wrote-append, wrote-front}
use Rattle.giop_stream.specs.HeaderEndsOfStream.{header_ends_from}
use Rattle.giop_stream.specs.Rules.{rules_by}
use Rattle.giop_stream.specs.FramingView.{framing_view}
use Rattle.giop_stream.specs.EngineStep.{lines_of_run, run_state}
use Rattle.giop_stream.specs.ViewOfState.{Shows}
use Rattle.giop_stream.proofs.SlotSteps.Performing.{nothing_text}
use Rattle.giop_stream.proofs.CodeSteps.MessageOctets.{messages_at, reached_on, reached_at}
use Rattle.giop_stream.proofs.CodeSteps.MessageEnds.{on_err}
use Rattle.giop_stream.proofs.CodeSteps.OwnerRuns.{if_err}
use Rattle.giop_stream.proofs.CodeSteps.DueSteps.{due_is, none_due, fronts_after}
use Rattle.giop_stream.proofs.CodeSteps.HeaderEndSteps.{run_agrees, told_on}
use Rattle.giop_stream.proofs.StreamLines.MoreOctets.{run_state_on, run_text_on}
use Rattle.giop_stream.proofs.framing.Framing.take_piece.Goals as goal

pub loop-taken-init : goal.loop-taken-init
unfolding lines_of_run run_state header_ends_from
loop-taken-init g c = record {
  within = omega arith;
  most = refl;
  known = c.requires.known;
  ready = c.requires.ready;
  so_far = λ a s r h agrees. record {
    shows = h;
    text = nothing_text _;
    told = refl;
    fronts = λ k few calm.
        let none : k ≡ 0 = omega (arith, few) in
        rw none (none_due g.Q.Correspondent.due g.Q.Correspondent.notified
        g.Q.Correspondent.awaits_messages c.args.catalogue.now
        (g.Q.Correspondent.state c.args.correspondent.now)
        (rules_by c.args.catalogue.now a c.args.self.now.slots.slots.most) r.stream calm);
  };
}

pub returns-in_err-count-clause-does : goal.returns-in_err-count-clause-does
returns-in_err-count-clause-does g c a s r h agrees =
    let C = c.args.catalogue.now in
    let most = c.args.self.now.slots.slots.most in
    let so_far = c.loop-taken.invariant.so_far a s r h agrees in
    let t = c.loop-taken.taken in
    let piece = c.args.piece.now in
    let past = take t piece in
    let R = rules_by C a most in
    let now = g.Q.Correspondent.state c.loop-taken.correspondent in
    let st = g.Q.Correspondent.state c.args.correspondent.now in
    let octets = All-take (λ x. x < 256) t piece (All-from_get_or (λ x. x < 256) piece 0
    (λ i below. omega (arith, c.type_inv.piece i))) in
    let here = reached_at C a _ _ _ (sym c.loop-taken.invariant.most)
    (reached_on C a most s past octets r) in
    let agree = run_agrees g.Q.Correspondent.answer g.Q.Correspondent.notified C a st now R r.stream
    past so_far.told (drop t piece) piece (drop t piece) [] (sym (take-append-drop t piece))
    (sym (append-nil (drop t piece))) agrees in
    let e = rw (rest_from t piece, c.loop-taken.invariant.most) at
    (c.in_err-count.ensures.does a (run_state R s past) here so_far.shows
    (rw (← rest_from t piece, ← c.loop-taken.invariant.most) at agree)) in
    let failed = c.from_residual.ensures.0 in
    record {
      n = t + e.n;
      counted = if_err _ c.from_residual.result failed;
      within = omega (arith, length-drop t piece, e.within, c.loop-taken.invariant.within);
      some = λ some. omega (
        arith,
        e.some (omega (
          arith,
          length-drop t piece,
          c.loop-taken-test.true,
        )),
      );
      fronts = λ k few calm. fronts_after g.Q.Correspondent.due g.Q.Correspondent.notified
          g.Q.Correspondent.awaits_messages C st R r.stream piece t now so_far.told
          (λ i less. so_far.fronts i less calm) e.n e.fronts k few;
      all = record {
        text = rw (take-add t e.n piece, run_text_on R s past (take e.n (drop t piece)))
            (writes_failed c.from_residual.result _ _ _ failed
            (wrote-front _ _ _ _ _ so_far.text e.all.text));
        shows = on_err _ c.from_residual.result failed;
      };
    }

pub loop-taken-preserved : goal.loop-taken-preserved
loop-taken-preserved g c =
    let n = c.in_ok-count.count in
    record {
      within = omega (
        arith,
        rw (rest_from c.loop-taken.taken c.args.piece.now) at c.in_ok-count.ensures.within,
        length-drop c.loop-taken.taken c.args.piece.now,
        c.loop-taken.invariant.within,
      );
      most = c.in_ok-count.ensures.most ∙ c.loop-taken.invariant.most;
      known = c.in_ok-count.ensures.known;
      ready = c.in_ok-count.ensures.ready;
      so_far = λ a s r h agrees.
          let C = c.args.catalogue.now in
          let most = c.args.self.now.slots.slots.most in
          let so_far = c.loop-taken.invariant.so_far a s r h agrees in
          let t = c.loop-taken.taken in
          let piece = c.args.piece.now in
          let past = take t piece in
          let R = rules_by C a most in
          let now = g.Q.Correspondent.state c.loop-taken.correspondent in
          let st = g.Q.Correspondent.state c.args.correspondent.now in
          let octets = All-take (λ x. x < 256) t piece (All-from_get_or (λ x. x < 256) piece 0
          (λ i below. omega (arith, c.type_inv.piece i))) in
          let here = reached_at C a _ _ _ (sym c.loop-taken.invariant.most)
          (reached_on C a most s past octets r) in
          let agree = run_agrees g.Q.Correspondent.answer g.Q.Correspondent.notified C a st now R
          r.stream
          past so_far.told (drop t piece) piece (drop t piece) [] (sym (take-append-drop t piece))
          (sym (append-nil (drop t piece))) agrees in
          let e = rw (rest_from t piece, c.loop-taken.invariant.most) at
          (c.in_ok-count.ensures.does a (run_state R s past) here so_far.shows
          (rw (← rest_from t piece, ← c.loop-taken.invariant.most) at agree)) in
          let more = rw (rest_from t piece, c.loop-taken.invariant.most) at
          (c.in_ok-count.ensures.told a (run_state R s past) here so_far.shows
          (rw (← rest_from t piece, ← c.loop-taken.invariant.most) at agree)) in
          let told = told_on g.Q.Correspondent.answer g.Q.Correspondent.notified C a st now R
          r.stream
          past so_far.told (take n (drop t piece)) _ more in
          let shows : Shows C a (framing_view c.take_some.new.self)
          (run_state R s (take (t + n) piece)) =
          rw (e.counted, take-add t e.n piece, run_state_on R s past (take e.n (drop t piece)))
          e.all.shows in
          record {
            shows = shows;
            text = rw (
              e.counted,
              take-add t e.n piece,
              run_text_on R s past (take e.n (drop t
                  piece)),
            )
                (wrote-append _ _ _ _ _ so_far.text e.all.text);
            told = rw (take-add t n piece) told;
            fronts = λ k few calm. elim (cases_lt k (t + n)) [
              | inl sooner ↦ fronts_after g.Q.Correspondent.due g.Q.Correspondent.notified
                  g.Q.Correspondent.awaits_messages C st R r.stream piece t now so_far.told
                  (λ i less. so_far.fronts i less calm) e.n e.fronts
                  k (omega (arith, sooner, e.counted))
              | inr last ↦
                  let at : k ≡ t + n = omega (arith, few, last) in
                  let is = due_is g.Q.Correspondent.due g.Q.Correspondent.notified
                  g.Q.Correspondent.awaits_messages C st R r.stream (take (t + n) piece) _
                  c.args.self.now.totals.messages c.take_some.new.self.totals.messages
                  (rw (take-add t n piece) told) (messages_at C a most s r (framing_view
                  c.args.self.now) h)
                  (messages_at C a most (run_state R s (take (t + n) piece))
                  (reached_on C a most s (take (t + n) piece) (All-take (λ x. x < 256) (t + n) piece
                  (All-from_get_or (λ x. x < 256) piece 0 (λ i below. omega (
                    arith,
                    c.type_inv.piece i,
                  )))) r)
                  (framing_view c.take_some.new.self) shows) in
                  rw at (sym is ∙ (sym c.is_due.ensures ∙ c.if-is_due.false))
            ];
          };
    }

pub returns-then-is_due-clause-does : goal.returns-then-is_due-clause-does
returns-then-is_due-clause-does g c a s r h agrees =
    let n = c.in_ok-count.count in
    let C = c.args.catalogue.now in
    let most = c.args.self.now.slots.slots.most in
    let so_far = c.loop-taken.invariant.so_far a s r h agrees in
    let t = c.loop-taken.taken in
    let piece = c.args.piece.now in
    let past = take t piece in
    let R = rules_by C a most in
    let now = g.Q.Correspondent.state c.loop-taken.correspondent in
    let st = g.Q.Correspondent.state c.args.correspondent.now in
    let octets = All-take (λ x. x < 256) t piece (All-from_get_or (λ x. x < 256) piece 0
    (λ i below. omega (arith, c.type_inv.piece i))) in
    let here = reached_at C a _ _ _ (sym c.loop-taken.invariant.most)
    (reached_on C a most s past octets r) in
    let agree = run_agrees g.Q.Correspondent.answer g.Q.Correspondent.notified C a st now R r.stream
    past so_far.told (drop t piece) piece (drop t piece) [] (sym (take-append-drop t piece))
    (sym (append-nil (drop t piece))) agrees in
    let e = rw (rest_from t piece, c.loop-taken.invariant.most) at
    (c.in_ok-count.ensures.does a (run_state R s past) here so_far.shows
    (rw (← rest_from t piece, ← c.loop-taken.invariant.most) at agree)) in
    let shows : Shows C a (framing_view c.take_some.new.self)
    (run_state R s (take (t + n) piece)) =
    rw (e.counted, take-add t e.n piece, run_state_on R s past (take e.n (drop t piece)))
    e.all.shows in
    record {
      n = t + n;
      counted = refl;
      within = omega (
        arith,
        length-drop t piece,
        e.within,
        e.counted,
        c.loop-taken.invariant.within,
      );
      some = λ some. omega (
        arith,
        e.counted,
        e.some (omega (arith, length-drop t piece, c.loop-taken-test.true)),
      );
      fronts = λ k few calm. fronts_after g.Q.Correspondent.due g.Q.Correspondent.notified
          g.Q.Correspondent.awaits_messages C st R r.stream piece t now so_far.told
          (λ i less. so_far.fronts i less calm) e.n e.fronts
          k (omega (arith, few, e.counted));
      all = record {
        text = rw (e.counted, take-add t e.n piece, run_text_on R s past (take e.n (drop t piece)))
            (wrote-append _ _ _ _ _ so_far.text e.all.text);
        shows = shows;
      };
    }

pub returns-then-is_due-clause-told : goal.returns-then-is_due-clause-told
returns-then-is_due-clause-told g c a s r h agrees =
    let n = c.in_ok-count.count in
    let C = c.args.catalogue.now in
    let most = c.args.self.now.slots.slots.most in
    let so_far = c.loop-taken.invariant.so_far a s r h agrees in
    let t = c.loop-taken.taken in
    let piece = c.args.piece.now in
    let past = take t piece in
    let R = rules_by C a most in
    let now = g.Q.Correspondent.state c.loop-taken.correspondent in
    let st = g.Q.Correspondent.state c.args.correspondent.now in
    let octets = All-take (λ x. x < 256) t piece (All-from_get_or (λ x. x < 256) piece 0
    (λ i below. omega (arith, c.type_inv.piece i))) in
    let here = reached_at C a _ _ _ (sym c.loop-taken.invariant.most)
    (reached_on C a most s past octets r) in
    let agree = run_agrees g.Q.Correspondent.answer g.Q.Correspondent.notified C a st now R r.stream
    past so_far.told (drop t piece) piece (drop t piece) [] (sym (take-append-drop t piece))
    (sym (append-nil (drop t piece))) agrees in
    let more = rw (rest_from t piece, c.loop-taken.invariant.most) at
    (c.in_ok-count.ensures.told a (run_state R s past) here so_far.shows
    (rw (← rest_from t piece, ← c.loop-taken.invariant.most) at agree)) in
    let told = told_on g.Q.Correspondent.answer g.Q.Correspondent.notified C a st now R r.stream
    past so_far.told (take n (drop t piece)) _ more in
    rw (take-add t n piece) told

pub returns-then-is_due-clause-last : goal.returns-then-is_due-clause-last
returns-then-is_due-clause-last g c a s r h agrees left =
    let n = c.in_ok-count.count in
    let C = c.args.catalogue.now in
    let most = c.args.self.now.slots.slots.most in
    let so_far = c.loop-taken.invariant.so_far a s r h agrees in
    let t = c.loop-taken.taken in
    let piece = c.args.piece.now in
    let past = take t piece in
    let R = rules_by C a most in
    let now = g.Q.Correspondent.state c.loop-taken.correspondent in
    let st = g.Q.Correspondent.state c.args.correspondent.now in
    let octets = All-take (λ x. x < 256) t piece (All-from_get_or (λ x. x < 256) piece 0
    (λ i below. omega (arith, c.type_inv.piece i))) in
    let here = reached_at C a _ _ _ (sym c.loop-taken.invariant.most)
    (reached_on C a most s past octets r) in
    let agree = run_agrees g.Q.Correspondent.answer g.Q.Correspondent.notified C a st now R r.stream
    past so_far.told (drop t piece) piece (drop t piece) [] (sym (take-append-drop t piece))
    (sym (append-nil (drop t piece))) agrees in
    let e = rw (rest_from t piece, c.loop-taken.invariant.most) at
    (c.in_ok-count.ensures.does a (run_state R s past) here so_far.shows
    (rw (← rest_from t piece, ← c.loop-taken.invariant.most) at agree)) in
    let more = rw (rest_from t piece, c.loop-taken.invariant.most) at
    (c.in_ok-count.ensures.told a (run_state R s past) here so_far.shows
    (rw (← rest_from t piece, ← c.loop-taken.invariant.most) at agree)) in
    let told = told_on g.Q.Correspondent.answer g.Q.Correspondent.notified C a st now R r.stream
    past so_far.told (take n (drop t piece)) _ more in
    let shows : Shows C a (framing_view c.take_some.new.self)
    (run_state R s (take (t + n) piece)) =
    rw (e.counted, take-add t e.n piece, run_state_on R s past (take e.n (drop t piece)))
    e.all.shows in
    let is = due_is g.Q.Correspondent.due g.Q.Correspondent.notified
    g.Q.Correspondent.awaits_messages C st R r.stream (take (t + n) piece) _
    c.args.self.now.totals.messages c.take_some.new.self.totals.messages
    (rw (take-add t n piece) told) (messages_at C a most s r (framing_view c.args.self.now) h)
    (messages_at C a most (run_state R s (take (t + n) piece))
    (reached_on C a most s (take (t + n) piece) (All-take (λ x. x < 256) (t + n) piece
    (All-from_get_or (λ x. x < 256) piece 0 (λ i below. omega (arith, c.type_inv.piece i)))) r)
    (framing_view c.take_some.new.self) shows) in
    sym is ∙ (sym c.is_due.ensures ∙ c.if-is_due.true)

pub returns-after-loop-taken-clause-does : goal.returns-after-loop-taken-clause-does
returns-after-loop-taken-clause-does g c a s r h agrees =
    let so_far = c.loop-taken.invariant.so_far a s r h agrees in
    record {
      n = c.loop-taken.taken;
      counted = refl;
      within = c.loop-taken.invariant.within;
      some = λ some. omega (arith, some, c.loop-taken.invariant.within, c.loop-taken-test.false);
      fronts = λ k few. so_far.fronts k (omega (arith, few));
      all = record { text = so_far.text; shows = so_far.shows };
    }

pub returns-after-loop-taken-clause-told : goal.returns-after-loop-taken-clause-told
returns-after-loop-taken-clause-told g c a s r h agrees =
    (c.loop-taken.invariant.so_far a s r h agrees).told
