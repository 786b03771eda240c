use Rattle.std.proofs.Common.{◌<◌, get_or, take, refl, sym, ap, subst, ◌∙◌, arith}
use Rattle.std.proofs.lemmas.Bool.{false≢true}
use Rattle.std.proofs.lemmas.List.{length-take-le, take-take}
use Rattle.std.proofs.lemmas.List.Elements.{All-take, All-from_get_or}
use Rattle.giop_print.proofs.Writing.{writes_failed}
use Rattle.giop_message.specs.HeaderEnds.{AgreesAtEnds, after_ends}
use Rattle.giop_stream.specs.Rules.{rules_by}
use Rattle.giop_stream.specs.Framing.{cut}
use Rattle.giop_stream.specs.EngineStep.{run_state}
use Rattle.giop_stream.specs.FramingView.{framing_view}
use Rattle.giop_stream.specs.HeaderEndsOfStream.{current_header_ends, header_ends_from}
use Rattle.giop_stream.proofs.SlotSteps.Performing.{nothing_text}
use Rattle.giop_stream.proofs.CodeSteps.MessageEnds.{on_err}
use Rattle.giop_stream.proofs.CodeSteps.MessageOctets.{messages_at, reached_on}
use Rattle.giop_stream.proofs.CodeSteps.OwnerRuns.{if_err}
use Rattle.giop_stream.proofs.CodeSteps.FragmentSteps.{continuation_untold}
use Rattle.giop_stream.proofs.CodeSteps.HeaderEndSteps.{AreWithoutEvents, if_ok_weaker, if_ok_both, untold_ends, told_ahead, from_one}
use Rattle.giop_stream.proofs.CodeSteps.TakenOctets.{first_alone, none_before, one_takes, front_agrees, front_untold, run_front, run_takes}
use Rattle.giop_stream.proofs.StreamLines.MoreOctets.{one_run}
use Rattle.giop_stream.proofs.framing.Framing.take_some.Goals as goal

pub returns-then-header_run-gt0-clause-does : goal.returns-then-header_run-gt0-clause-does
returns-then-header_run-gt0-clause-does g c a s r h agrees =
    let C = c.args.catalogue.now in
    let most = c.args.self.now.slots.slots.most in
    let m = framing_view c.args.self.now in
    let octets = c.args.octets.now in
    let n = c.header_run-header_run.result in
    let ahead = c.header_run-header_run.ensures in
    let some : 0 < n = omega (arith, c.if-header_run-gt0.true) in
    let ended = c.take_header_octets.ensures in
    record {
      n = n;
      counted = refl;
      within = ahead.within;
      some = λ _. some;
      fronts = λ k few. (
        λ calm. rw (told_ahead C a most s r m h (take k octets) (ahead.running some)
            (omega (
              arith,
              ahead.before_last some,
              length-take-le k octets (omega (arith, few, ahead.within)),
              few,
            ))) calm,
        λ awaits. none_before r.stream octets k n (omega (arith, few)) (
            sym (messages_at C a most (run_state (rules_by C a most) s (take n octets))
            (reached_on C a most s (take n octets) (All-take (λ x. x < 256) n octets
            (All-from_get_or (λ x. x < 256) octets 0 (λ i below. omega (
              arith,
              c.type_inv.octets
                  i,
            ))))
            r) (framing_view c.take_header_octets.new.self) (ended.shows C a s h))
            ∙ (ended.same ∙ messages_at C a most s r m h)
            ),
      );
      all = record {
        text = rw (ended.lines C a s h) (nothing_text _);
        shows = ended.shows C a s h;
      };
    }

pub returns-then-header_run-gt0-clause-told : goal.returns-then-header_run-gt0-clause-told
returns-then-header_run-gt0-clause-told g c a s r h agrees =
    let C = c.args.catalogue.now in
    let most = c.args.self.now.slots.slots.most in
    let m = framing_view c.args.self.now in
    let octets = c.args.octets.now in
    let n = c.header_run-header_run.result in
    let ahead = c.header_run-header_run.ensures in
    let some : 0 < n = omega (arith, c.if-header_run-gt0.true) in
    sym (ap (after_ends g.Q.Correspondent.notified C
    (g.Q.Correspondent.state c.args.correspondent.now))
    (told_ahead C a most s r m h (take n octets) (ahead.running some)
    (omega (arith, ahead.before_last some, length-take-le n octets ahead.within))))

pub returns-then-header_run-gt0-clause-ready : goal.returns-then-header_run-gt0-clause-ready
returns-then-header_run-gt0-clause-ready g c =
    c.take_header_octets.ensures.ready c.args.catalogue.now c.requires.ready

pub returns-then-payload_run-gt0-clause-does : goal.returns-then-payload_run-gt0-clause-does
returns-then-payload_run-gt0-clause-does g c a s r h agrees =
    let C = c.args.catalogue.now in
    let most = c.args.self.now.slots.slots.most in
    let m = framing_view c.args.self.now in
    let octets = c.args.octets.now in
    let run = c.payload_run-payload_run.result in
    let ahead = c.payload_run-payload_run.ensures in
    let some : 0 < run = omega (arith, c.if-payload_run-gt0.true) in
    let here = subst (AgreesAtEnds g.Q.Correspondent.answer g.Q.Correspondent.notified C
    (g.Q.Correspondent.state c.args.correspondent.now) a)
    (sym (ap (current_header_ends (rules_by C a most) r.stream (cut r.stream).current)
    (sym (take-take run run octets (omega arith)))
    ∙ run_front C a most s r m h (ahead.running some) (ahead.full some) octets run ahead.within
    (ahead.apart some) (ahead.few some) (ahead.limit some) run some (omega arith)))
    (front_agrees g.Q.Correspondent.answer g.Q.Correspondent.notified C a _ (rules_by C a most)
    r.stream octets run agrees) in
    run_takes C a most s r m h (ahead.running some) (ahead.full some) octets run ahead.within
    (ahead.apart some) (ahead.few some) (ahead.limit some) g.Q.Correspondent.due
    g.Q.Correspondent.notified (g.Q.Correspondent.state c.args.correspondent.now)
    g.Q.Correspondent.awaits_messages some
    (c.payload_octets.ensures.does a s r h here)

pub returns-then-payload_run-gt0-clause-told : goal.returns-then-payload_run-gt0-clause-told
returns-then-payload_run-gt0-clause-told g c =
    let ran = c.payload_octets.ensures in
    if_ok_weaker c.payload_octets.result (λ n (told, (positive, least)) a s r h agrees.
    let C = c.args.catalogue.now in
    let most = c.args.self.now.slots.slots.most in
    let m = framing_view c.args.self.now in
    let octets = c.args.octets.now in
    let run = c.payload_run-payload_run.result in
    let ahead = c.payload_run-payload_run.ensures in
    let some : 0 < run = omega (arith, c.if-payload_run-gt0.true) in
    let st = g.Q.Correspondent.state c.args.correspondent.now in
    let fronts = run_front C a most s r m h (ahead.running some) (ahead.full some) octets run
    ahead.within (ahead.apart some) (ahead.few some) (ahead.limit some) in
    let here = subst (AgreesAtEnds g.Q.Correspondent.answer g.Q.Correspondent.notified C st a)
    (sym (ap (current_header_ends (rules_by C a most) r.stream (cut r.stream).current)
    (sym (take-take run run octets (omega arith))) ∙ fronts run some (omega arith)))
    (front_agrees g.Q.Correspondent.answer g.Q.Correspondent.notified C a st (rules_by C a most)
    r.stream octets run agrees) in
    told a s r h here ∙ ap (after_ends g.Q.Correspondent.notified C st) (fronts n positive
    (omega (arith, least, length-take-le run octets ahead.within))))
    (if_ok_both _ _ c.payload_octets.result ran.told (if_ok_both _ _ c.payload_octets.result
    ran.some
    ran.within))

pub returns-in_err-take_continuation-clause-does :
    goal.returns-in_err-take_continuation-clause-does
returns-in_err-take_continuation-clause-does g c a s r h agrees =
    let C = c.args.catalogue.now in
    let most = c.args.self.now.slots.slots.most in
    let m = framing_view c.args.self.now in
    let octets = c.args.octets.now in
    let st = g.Q.Correspondent.state c.args.correspondent.now in
    let found = c.in-Some.found in
    let running = rw c.in-Some.is at c.continuation_for.ensures.running in
    let limit = rw c.in-Some.is at c.continuation_for.ensures.limit in
    let is = rw c.in-Some.is at c.continuation_for.ensures.is in
    let five = rw c.in-Some.is at c.continuation_for.ensures.within in
    let quick = rw c.in-Some.is at c.continuation_for.ensures.quick in
    let untold = continuation_untold C a most s r m h (take 5 octets) found running limit is in
    let failed = c.from_residual.ensures.0 in
    record {
      n = 5;
      counted = if_err _ c.from_residual.result failed;
      within = five;
      some = λ _. omega arith;
      fronts = λ k few. (
        λ calm.
            let front = subst (AreWithoutEvents C) (ap (header_ends_from
            (rules_by C a most) r.stream)
            (take-take k 5 octets (omega (arith, few))))
            (front_untold C (rules_by C a most) r.stream (take 5 octets) k untold) in
            rw (untold_ends g.Q.Correspondent.notified C st _ front) calm,
        λ awaits.
            absurd (false≢true (sym quick ∙ awaits)),
      );
      all = record {
        text = writes_failed c.from_residual.result _ _ _ failed
            (c.in_err-take_continuation.ensures.does a s r h).text;
        shows = on_err _ c.from_residual.result failed;
      };
    }

pub returns-in-Some-clause-does : goal.returns-in-Some-clause-does
returns-in-Some-clause-does g c a s r h agrees =
    let C = c.args.catalogue.now in
    let most = c.args.self.now.slots.slots.most in
    let m = framing_view c.args.self.now in
    let octets = c.args.octets.now in
    let st = g.Q.Correspondent.state c.args.correspondent.now in
    let found = c.in-Some.found in
    let running = rw c.in-Some.is at c.continuation_for.ensures.running in
    let limit = rw c.in-Some.is at c.continuation_for.ensures.limit in
    let is = rw c.in-Some.is at c.continuation_for.ensures.is in
    let five = rw c.in-Some.is at c.continuation_for.ensures.within in
    let quick = rw c.in-Some.is at c.continuation_for.ensures.quick in
    let untold = continuation_untold C a most s r m h (take 5 octets) found running limit is in
    let does = c.in_ok-take_continuation.ensures.does a s r h in
    record {
      n = 5;
      counted = refl;
      within = five;
      some = λ _. omega arith;
      fronts = λ k few. (
        λ calm.
            let front = subst (AreWithoutEvents C) (ap (header_ends_from
            (rules_by C a most) r.stream)
            (take-take k 5 octets (omega (arith, few))))
            (front_untold C (rules_by C a most) r.stream (take 5 octets) k untold) in
            rw (untold_ends g.Q.Correspondent.notified C st _ front) calm,
        λ awaits.
            absurd (false≢true (sym quick ∙ awaits)),
      );
      all = record { text = does.text; shows = does.shows };
    }

pub returns-in-Some-clause-told : goal.returns-in-Some-clause-told
returns-in-Some-clause-told g c a s r h agrees =
    let C = c.args.catalogue.now in
    let most = c.args.self.now.slots.slots.most in
    let m = framing_view c.args.self.now in
    let octets = c.args.octets.now in
    let st = g.Q.Correspondent.state c.args.correspondent.now in
    let found = c.in-Some.found in
    let running = rw c.in-Some.is at c.continuation_for.ensures.running in
    let limit = rw c.in-Some.is at c.continuation_for.ensures.limit in
    let is = rw c.in-Some.is at c.continuation_for.ensures.is in
    let five = rw c.in-Some.is at c.continuation_for.ensures.within in
    let quick = rw c.in-Some.is at c.continuation_for.ensures.quick in
    let untold = continuation_untold C a most s r m h (take 5 octets) found running limit is in
    sym (untold_ends g.Q.Correspondent.notified C st _ untold)

pub returns-in_err-step-clause-does : goal.returns-in_err-step-clause-does
returns-in_err-step-clause-does g c a s r h agrees =
    let C = c.args.catalogue.now in
    let most = c.args.self.now.slots.slots.most in
    let octets = c.args.octets.now in
    let st = g.Q.Correspondent.state c.args.correspondent.now in
    let R = rules_by C a most in
    let one = first_alone octets c.requires.some in
    let at = ap (header_ends_from R r.stream) one ∙ from_one R r.stream (get_or octets 0 0) in
    let here = subst (AgreesAtEnds g.Q.Correspondent.answer g.Q.Correspondent.notified C st a) at
    (front_agrees g.Q.Correspondent.answer g.Q.Correspondent.notified C a st R r.stream octets 1
    agrees) in
    let does = rw (← one_run R s (get_or octets 0 0), ← one) at
    (c.in_err-step.ensures.does a s r h here) in
    let failed = c.from_residual-in_err-step.ensures.0 in
    one_takes g.Q.Correspondent.due g.Q.Correspondent.notified C st
    g.Q.Correspondent.awaits_messages R r.stream octets _ _
    c.requires.some (if_err _ c.from_residual-in_err-step.result failed)
    (record {
      text = writes_failed c.from_residual-in_err-step.result _ _ _ failed does.text;
      shows = on_err _ c.from_residual-in_err-step.result failed;
    })

pub returns-clause-does : goal.returns-clause-does
returns-clause-does g c a s r h agrees =
    let C = c.args.catalogue.now in
    let most = c.args.self.now.slots.slots.most in
    let octets = c.args.octets.now in
    let st = g.Q.Correspondent.state c.args.correspondent.now in
    let R = rules_by C a most in
    let one = first_alone octets c.requires.some in
    let at = ap (header_ends_from R r.stream) one ∙ from_one R r.stream (get_or octets 0 0) in
    let here = subst (AgreesAtEnds g.Q.Correspondent.answer g.Q.Correspondent.notified C st a) at
    (front_agrees g.Q.Correspondent.answer g.Q.Correspondent.notified C a st R r.stream octets 1
    agrees) in
    let does = rw (← one_run R s (get_or octets 0 0), ← one) at
    (c.in_ok-step.ensures.does a s r h here) in
    one_takes g.Q.Correspondent.due g.Q.Correspondent.notified C st
    g.Q.Correspondent.awaits_messages R r.stream octets _ _
    c.requires.some refl (record { text = does.text; shows = does.shows })

pub returns-clause-told : goal.returns-clause-told
returns-clause-told g c a s r h agrees =
    let C = c.args.catalogue.now in
    let most = c.args.self.now.slots.slots.most in
    let octets = c.args.octets.now in
    let st = g.Q.Correspondent.state c.args.correspondent.now in
    let R = rules_by C a most in
    let one = first_alone octets c.requires.some in
    let at = ap (header_ends_from R r.stream) one ∙ from_one R r.stream (get_or octets 0 0) in
    let here = subst (AgreesAtEnds g.Q.Correspondent.answer g.Q.Correspondent.notified C st a) at
    (front_agrees g.Q.Correspondent.answer g.Q.Correspondent.notified C a st R r.stream octets 1
    agrees) in
    c.in_ok-step.ensures.told a s r h here ∙ sym (ap (after_ends g.Q.Correspondent.notified C st)
    at)
