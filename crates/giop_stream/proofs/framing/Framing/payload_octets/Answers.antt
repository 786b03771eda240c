use Rattle.std.proofs.Common.{◌≡◌, ℕ, suc, ◌+◌, List, length, take, arith, refl, sym, ap, subst, ◌∙◌}
use Rattle.std.proofs.lemmas.List.{length_push, length-take-le}
use Rattle.giop_message.specs.Headers.{size}
use Rattle.giop_message.specs.DueOctets.{StaysUndue}
use Rattle.giop_message.specs.HeaderEnds.{HeaderEnd, AgreesAtEnds, after_ends}
use Rattle.giop_stream.specs.declared.current.Current.{Current}
use Rattle.giop_stream.specs.Further.{current_after}
use Rattle.giop_stream.specs.Rules.{rules_by}
use Rattle.giop_stream.specs.OpenSlots.{tracked_after}
use Rattle.giop_stream.specs.FramingView.{framing_view}
use Rattle.giop_print.proofs.Writing.{writes_failed}
use Rattle.giop_stream.proofs.CodeSteps.MessageOctets.{has_current}
use Rattle.giop_stream.proofs.CodeSteps.MessageEnds.{on_err, ready_settled}
use Rattle.giop_stream.proofs.CodeSteps.OwnerRuns.{if_err}
use Rattle.giop_stream.proofs.CodeSteps.HeaderEndSteps.{run_ends}
use Rattle.giop_stream.proofs.CodeSteps.PayloadRunSteps.{octets_are, run_keeps, parts, taken_before, taken_does, taken_shows}
use Rattle.giop_stream.proofs.framing.Framing.payload_octets.Goals as goal

pub returns-in_err-count-clause-does : goal.returns-in_err-count-clause-does
unfolding tracked_after
returns-in_err-count-clause-does g c a s r h agrees =
    let C = c.args.catalogue.now in
    let most = c.args.self.now.slots.slots.most in
    let m = framing_view c.args.self.now in
    let octets = c.args.octets.now in
    let asks = c.requires in
    let here = has_current C a most s r m h asks.running asks.full in
    let ends = run_ends C a most s r m h asks.running here.0 here.1 in
    let known = c.current-before.ensures in
    let at : (c.current-before.result.number ≡ m.totals.messages)
    × (c.current-before.result.header ≡ m.header)
    × (c.current-before.result.place ≡ m.totals.octets)
    × (c.current-before.result.payload_count ≡ m.payload_count) =
    (known.number, known.header, known.place, known.payload_count) in
    let whole = taken_before C a most s r m h asks.running here.0 here.1 octets asks.apart asks.few
    asks.limit (length octets) asks.some (omega arith) c.current-before.result at in
    let t = c.in_err-count.ensures.does a (tracked_after (rules_by C a most) r.stream) here.0
    whole.keeps whole.rising (subst (AgreesAtEnds g.Q.Correspondent.answer
    g.Q.Correspondent.notified C (g.Q.Correspondent.state c.args.correspondent.now) a)
    (ends octets) agrees) in
    let failed = c.from_residual.ensures.0 in
    let some = t.some asks.some in
    let p = parts C a most s r m h asks.running here.0 here.1 octets asks.apart asks.few
    asks.limit t.n some t.within c.current-before.result at in
    let before = taken_before C a most s r m h asks.running here.0 here.1 octets asks.apart asks.few
    asks.limit t.n some t.within c.current-before.result at in
    record {
      n = t.n;
      counted = if_err _ c.from_residual.result failed;
      within = t.within;
      some = t.some;
      fronts = λ k few. subst (λ (of : List ℕ → List HeaderEnd). StaysUndue
          g.Q.Correspondent.due g.Q.Correspondent.notified C
          (g.Q.Correspondent.state c.args.correspondent.now) of (take k octets))
          (λ j xs. sym (ends xs) j) (t.fronts k few);
      all = taken_does C a most s r m h asks.running here.0 here.1 octets asks.apart asks.few
          asks.limit t.n some t.within c.current-before.result at _ _ _ _
          (writes_failed c.from_residual.result (g.O.Out.log c.args.out.now)
          (g.O.Out.log c.take_payload.new.out) _ failed (t.all p.0 p.1.0 p.1.1 before).text)
          (on_err _ c.from_residual.result failed);
    }

pub returns-clause-does : goal.returns-clause-does
unfolding tracked_after
returns-clause-does g c a s r h agrees =
    let C = c.args.catalogue.now in
    let most = c.args.self.now.slots.slots.most in
    let m = framing_view c.args.self.now in
    let octets = c.args.octets.now in
    let asks = c.requires in
    let here = has_current C a most s r m h asks.running asks.full in
    let ends = run_ends C a most s r m h asks.running here.0 here.1 in
    let known = c.current-before.ensures in
    let at : (c.current-before.result.number ≡ m.totals.messages)
    × (c.current-before.result.header ≡ m.header)
    × (c.current-before.result.place ≡ m.totals.octets)
    × (c.current-before.result.payload_count ≡ m.payload_count) =
    (known.number, known.header, known.place, known.payload_count) in
    let whole = taken_before C a most s r m h asks.running here.0 here.1 octets asks.apart asks.few
    asks.limit (length octets) asks.some (omega arith) c.current-before.result at in
    let t = c.in_ok-count.ensures.does a (tracked_after (rules_by C a most) r.stream) here.0
    whole.keeps whole.rising (subst (AgreesAtEnds g.Q.Correspondent.answer
    g.Q.Correspondent.notified C (g.Q.Correspondent.state c.args.correspondent.now) a)
    (ends octets) agrees) in
    let some = t.some asks.some in
    let p = parts C a most s r m h asks.running here.0 here.1 octets asks.apart asks.few
    asks.limit t.n some t.within c.current-before.result at in
    let before = taken_before C a most s r m h asks.running here.0 here.1 octets asks.apart asks.few
    asks.limit t.n some t.within c.current-before.result at in
    let does = t.all p.0 p.1.0 p.1.1 before in
    let faults = ap (λ (n : ℕ). m.totals.faults + n) (c.from.ensures ∙ sym does.faults) in
    let place = ap (λ (d : Current). d.place) c.after_octets-now.ensures in
    let count = ap (λ (d : Current). d.payload_count) c.after_octets-now.ensures in
    let head = ap (λ (d : Current). d.header) c.after_octets-now.ensures in
    let long : c.in_ok-count.count ≡ suc (length p.0) = omega (
      arith,
      t.counted,
      ap length p.1.1,
      length_push p.0 p.1.0,
      length-take-le t.n octets t.within,
    ) in
    let same_place = ap (λ (n : ℕ). c.current-before.result.place + n) long in
    let same_count = ap (λ (n : ℕ). (current_after c.current-before.result n).payload_count) long in
    record {
      n = t.n;
      counted = t.counted;
      within = t.within;
      some = t.some;
      fronts = λ k few. subst (λ (of : List ℕ → List HeaderEnd). StaysUndue
          g.Q.Correspondent.due g.Q.Correspondent.notified C
          (g.Q.Correspondent.state c.args.correspondent.now) of (take k octets))
          (λ j xs. sym (ends xs) j) (t.fronts k few);
      all = taken_does C a most s r m h asks.running here.0 here.1 octets asks.apart asks.few
          asks.limit t.n some t.within c.current-before.result at _ _ _ _ does.text
          (taken_shows C a most s r m h asks.running here.0 here.1 octets asks.apart asks.few
          asks.limit t.n some t.within c.current-before.result at
          _ (framing_view c.clear_if_complete.new.self) c.size_of.result
          c.clear_if_complete.ensures.state refl
          faults (place ∙ same_place) refl refl (count ∙ same_count)
          (c.size_of.ensures ∙ ap size (head ∙ known.header)) does.kept);
    }

pub returns-clause-ready : goal.returns-clause-ready
returns-clause-ready g c =
    ready_settled c.args.catalogue.now _
    (framing_view c.clear_if_complete.new.self) c.size_of.result c.after_octets-now.result.place
    c.clear_if_complete.ensures.state refl
    (rw c.after_octets-now.ensures c.in_ok-count.ensures.ready)

pub returns-clause-told : goal.returns-clause-told
unfolding tracked_after
returns-clause-told g c a s r h agrees =
    let C = c.args.catalogue.now in
    let most = c.args.self.now.slots.slots.most in
    let m = framing_view c.args.self.now in
    let octets = c.args.octets.now in
    let asks = c.requires in
    let here = has_current C a most s r m h asks.running asks.full in
    let ends = run_ends C a most s r m h asks.running here.0 here.1 in
    let st = g.Q.Correspondent.state c.args.correspondent.now in
    let (q, (x, e)) = octets_are octets asks.some in
    let keeps = run_keeps C a most s r m h asks.running here.0 here.1 octets q x e asks.apart
    asks.few asks.limit in
    c.in_ok-count.ensures.told a (tracked_after (rules_by C a most) r.stream) here.0 keeps
    (subst (AgreesAtEnds g.Q.Correspondent.answer g.Q.Correspondent.notified C st a) (ends octets)
    agrees)
    ∙ ap (after_ends g.Q.Correspondent.notified C st)
    (sym (ends (take c.in_ok-count.count octets)))
