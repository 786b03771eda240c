use Rattle.std.proofs.Common.{Ok, ℕ, suc, sym, ap, subst, ◌∙◌, ◌++◌, length, take, append_assoc, arith}
use Rattle.std.proofs.lemmas.List.{length_push, length-take-le}
use Rattle.giop_print.specs.declared.sink.OutFault.{OutFault}
use Rattle.giop_stream.specs.declared.current.Current.{Current}
use Rattle.giop_stream.specs.Rules.{rules_by}
use Rattle.giop_stream.specs.Framing.{with_payload}
use Rattle.giop_stream.specs.Effects.{with_octet}
use Rattle.giop_stream.specs.Further.{current_after}
use Rattle.giop_stream.specs.DoesEffect.{DoesEffect}
use Rattle.giop_stream.specs.PayloadOwner.{IsBeforeOctets, before_with, effect_before, octets_effect, owner_after}
use Rattle.giop_stream.proofs.SlotSteps.Parts.{in_parts, some_come, newest_come, more_come, come_is, taken_here, after_second, third_owner, at_last, takes_run}
use Rattle.giop_stream.proofs.SlotSteps.Performing.{performs_on, first_failed, call_failed, then_failed, done_then, counts_as}
use Rattle.giop_stream.proofs.SlotSteps.AtHeader.{ready_later}
use Rattle.giop_stream.proofs.CodeSteps.OwnerRuns.{if_err}
use Rattle.giop_stream.proofs.dispatch.take_payload.Goals as goal

pub at_last_octet-requires : goal.at_last_octet-requires
at_last_octet-requires g c =
    record {
      ready = c.at_fourth_octet.ensures.room.ready _ _
          (ready_later c.args.catalogue.now _ _ _
          (omega (arith, ap (λ (d : Current). d.place) c.after_octets-now.ensures))
          c.in_ok-count.ensures.ready);
    }

pub returns-in_err-count-clause-does : goal.returns-in_err-count-clause-does
returns-in_err-count-clause-does g c = λ a c' m keeps rising agrees.
    let C = c.args.catalogue.now in
    let most = c.args.slots.now.slots.most in
    let octets = c.args.octets.now in
    let t = c.in_err-count.ensures.does a c' _ keeps rising agrees in
    let failed = c.from_residual.ensures.0 in
    record {
      n = t.n;
      counted = if_err _ c.from_residual.result failed;
      within = t.within;
      some = t.some;
      fronts = t.fronts;
      all = λ q x split h.
          let now = current_after c.args.before (suc (length q)) in
          let ran = effect_before C a c' m now q in
          let m' = at_last C a most c.args.slots.now c' m now q x h in
          let parts = in_parts (rules_by C a most) ran.tracked (with_octet m' x)
          (some_come C a most ran.tracked m' now x h.last)
          (newest_come C a most ran.tracked m' now x h.last) in
          let as_run = takes_run C a most c.args.slots.now c' m now q x h (take t.n octets)
          c.args.before.place split (omega (arith, ap length split, length_push q x)) in
          rw parts (performs_on _ _ _ (sym (append_assoc ran.lines _ _)) (λ k. k)
          (first_failed _ _ c.from_residual.result _ _ failed (rw as_run at t.all)));
    }

pub returns-in_err-named-clause-does : goal.returns-in_err-named-clause-does
returns-in_err-named-clause-does g c = λ a c' m keeps rising agrees.
    let C = c.args.catalogue.now in
    let most = c.args.slots.now.slots.most in
    let octets = c.args.octets.now in
    let n = c.in_ok-count.count in
    let now = c.after_octets-now.result in
    let t = c.in_ok-count.ensures.does a c' _ keeps rising agrees in
    record {
      n = t.n;
      counted = if_err _ c.from_residual-in_err-named.result c.from_residual-in_err-named.ensures.0;
      within = t.within;
      some = t.some;
      fronts = t.fronts;
      all = λ q x split. subst (λ (now : Current). IsBeforeOctets C a c.args.slots.now c' m now q
          x →
          DoesEffect C a (λ (r : ℕ × ℕ). r.1) c.from_residual-in_err-named.result
          (g.O.Out.log c.args.out.now) (g.O.Out.log c.at_fourth_octet.new.out)
          c.at_fourth_octet.new.slots
          (octets_effect C a most c' m now q x)
          (owner_after (before_with C a (octets_effect C a most c' m now q x).tracked)
          (with_octet (with_payload m (m.payload ++ q)) x)))
          (c.after_octets-now.ensures ∙ ap (current_after c.args.before) (omega (
            arith,
            ap length split,
            length_push q x,
            length-take-le t.n octets t.within,
            t.counted,
          ))) (λ h.
          let ran = effect_before C a c' m now q in
          let m' = at_last C a most c.args.slots.now c' m now q x h in
          let parts = in_parts (rules_by C a most) ran.tracked (with_octet m' x)
          (some_come C a most ran.tracked m' now x h.last)
          (newest_come C a most ran.tracked m' now x h.last) in
          let as_run = takes_run C a most c.args.slots.now c' m now q x h (take t.n octets)
          c.args.before.place split (omega (
            arith,
            ap (λ (d : Current). d.place) c.after_octets-now.ensures,
            t.counted,
            length-take-le t.n octets t.within,
          )) in
          let took = rw as_run at t.all in
          let taken = taken_here C a most ran.tracked m' now x h.last c.take.new.self
          (rw h.same_owner took.kept) in
          let failed = c.from_residual-in_err-named.ensures.0 in
          rw parts (performs_on _ _ _ (sym (append_assoc ran.lines _ _)) (λ k. k)
          (then_failed _ c.from_residual-in_err-named.result _ _ _ failed took
          (first_failed _ _ c.from_residual-in_err-named.result _ _ failed
          (rw c.in_ok-count.ensures.most at (c.in_err-named.ensures.does C a _ _ taken
          (more_come C a most ran.tracked m' now x h.last)))))));
    }

pub returns-in_err-ended-clause-does : goal.returns-in_err-ended-clause-does
returns-in_err-ended-clause-does g c = λ a c' m keeps rising agrees.
    let C = c.args.catalogue.now in
    let most = c.args.slots.now.slots.most in
    let octets = c.args.octets.now in
    let n = c.in_ok-count.count in
    let now = c.after_octets-now.result in
    let t = c.in_ok-count.ensures.does a c' _ keeps rising agrees in
    record {
      n = t.n;
      counted = if_err _ c.from_residual-in_err-ended.result c.from_residual-in_err-ended.ensures.0;
      within = t.within;
      some = t.some;
      fronts = t.fronts;
      all = λ q x split. subst (λ (now : Current). IsBeforeOctets C a c.args.slots.now c' m now q
          x →
          DoesEffect C a (λ (r : ℕ × ℕ). r.1) c.from_residual-in_err-ended.result
          (g.O.Out.log c.args.out.now) (g.O.Out.log c.at_last_octet.new.out)
          c.at_last_octet.new.slots
          (octets_effect C a most c' m now q x)
          (owner_after (before_with C a (octets_effect C a most c' m now q x).tracked)
          (with_octet (with_payload m (m.payload ++ q)) x)))
          (c.after_octets-now.ensures ∙ ap (current_after c.args.before) (omega (
            arith,
            ap length split,
            length_push q x,
            length-take-le t.n octets t.within,
            t.counted,
          ))) (λ h.
          let ran = effect_before C a c' m now q in
          let m' = at_last C a most c.args.slots.now c' m now q x h in
          let parts = in_parts (rules_by C a most) ran.tracked (with_octet m' x)
          (some_come C a most ran.tracked m' now x h.last)
          (newest_come C a most ran.tracked m' now x h.last) in
          let as_run = takes_run C a most c.args.slots.now c' m now q x h (take t.n octets)
          c.args.before.place split (omega (
            arith,
            ap (λ (d : Current). d.place) c.after_octets-now.ensures,
            t.counted,
            length-take-le t.n octets t.within,
          )) in
          let took = rw as_run at t.all in
          let taken = taken_here C a most ran.tracked m' now x h.last c.take.new.self
          (rw h.same_owner took.kept) in
          let named = rw c.in_ok-count.ensures.most at (c.in_ok-named.ensures.does C a _ _ taken
          (more_come C a most ran.tracked m' now x h.last)) in
          let at = after_second C a most ran.tracked m' now x h.last c.at_fourth_octet.new.slots
          named.kept in
          let failed = c.from_residual-in_err-ended.ensures.0 in
          let here = come_is C a most ran.tracked m' now x h.last in
          let ended = call_failed _ c.from_residual-in_err-ended.result _ _ failed
          (c.in_err-ended.ensures.does a _ _ at here) in
          rw parts (performs_on _ _ _ (sym (append_assoc ran.lines _ _)) (λ k. k)
          (then_failed _ c.from_residual-in_err-ended.result _ _ _ failed took
          (then_failed _ c.from_residual-in_err-ended.result _ _ _ failed named ended))));
    }

pub returns-clause-does : goal.returns-clause-does
returns-clause-does g c = λ a c' m keeps rising agrees.
    let C = c.args.catalogue.now in
    let most = c.args.slots.now.slots.most in
    let octets = c.args.octets.now in
    let n = c.in_ok-count.count in
    let now = c.after_octets-now.result in
    let t = c.in_ok-count.ensures.does a c' _ keeps rising agrees in
    record {
      n = t.n;
      counted = t.counted;
      within = t.within;
      some = t.some;
      fronts = t.fronts;
      all = λ q x split. subst (λ (now : Current). IsBeforeOctets C a c.args.slots.now c' m now q
          x →
          DoesEffect {E = OutFault} C a (λ (r : ℕ × ℕ). r.1) (Ok (n, c.count_faults.result))
          (g.O.Out.log c.args.out.now) (g.O.Out.log c.at_last_octet.new.out)
          c.at_last_octet.new.slots
          (octets_effect C a most c' m now q x)
          (owner_after (before_with C a (octets_effect C a most c' m now q x).tracked)
          (with_octet (with_payload m (m.payload ++ q)) x)))
          (c.after_octets-now.ensures ∙ ap (current_after c.args.before) (omega (
            arith,
            ap length split,
            length_push q x,
            length-take-le t.n octets t.within,
            t.counted,
          ))) (λ h.
          let ran = effect_before C a c' m now q in
          let m' = at_last C a most c.args.slots.now c' m now q x h in
          let parts = in_parts (rules_by C a most) ran.tracked (with_octet m' x)
          (some_come C a most ran.tracked m' now x h.last)
          (newest_come C a most ran.tracked m' now x h.last) in
          let as_run = takes_run C a most c.args.slots.now c' m now q x h (take t.n octets)
          c.args.before.place split (omega (
            arith,
            ap (λ (d : Current). d.place) c.after_octets-now.ensures,
            t.counted,
            length-take-le t.n octets t.within,
          )) in
          let took = rw as_run at t.all in
          let taken = taken_here C a most ran.tracked m' now x h.last c.take.new.self
          (rw h.same_owner took.kept) in
          let named = rw c.in_ok-count.ensures.most at (c.in_ok-named.ensures.does C a _ _ taken
          (more_come C a most ran.tracked m' now x h.last)) in
          let at = after_second C a most ran.tracked m' now x h.last c.at_fourth_octet.new.slots
          named.kept in
          let ended = c.in_ok-ended.ensures.does a _ _ at
          (come_is C a most ran.tracked m' now x h.last) in
          let all = done_then _ _ _ _ _ took (done_then _ _ _ _ _ named ended) in
          rw (parts, ← third_owner (rules_by C a most) ran.tracked (with_octet m' x))
          (performs_on _ _ _ (sym (append_assoc ran.lines _ _)) (λ k. k)
          (counts_as _ _ _ _ (sym c.count_faults.ensures.value) all)));
    }

pub returns-clause-told : goal.returns-clause-told
returns-clause-told g c = λ a c' m keeps agrees. c.in_ok-count.ensures.told a c' _ keeps agrees
