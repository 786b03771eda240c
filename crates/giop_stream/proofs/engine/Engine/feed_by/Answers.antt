use Rattle.std.proofs.Common.{ℕ, take, ◌++◌, ◌<◌, refl, sym, ap, subst, ◌∙◌, arith}
use Rattle.std.proofs.lemmas.List.Elements.{All-append, All-take, All-from_get_or}
use Rattle.giop_message.specs.Signatures.{signatures_of}
use Rattle.giop_message.proofs.MessageLaws.{is_causal}
use Rattle.giop_stream.specs.Rules.{rules_by}
use Rattle.giop_stream.specs.EngineState.{state_of}
use Rattle.giop_stream.specs.FramingView.{framing_view}
use Rattle.giop_stream.specs.ViewOfState.{IsReached, Shows}
use Rattle.giop_stream.specs.EngineHolds.{added, status_of}
use Rattle.giop_stream.proofs.SlotSteps.Parts.{in_turn}
use Rattle.giop_stream.proofs.SlotSteps.Adding.{added_text}
use Rattle.giop_stream.proofs.CodeSteps.EngineLaws.{run_holds, stop_is}
use Rattle.giop_stream.proofs.CodeSteps.MessageOctets.{messages_at}
use Rattle.giop_stream.proofs.CodeSteps.AnswersGoOn.{held_agree}
use Rattle.giop_stream.proofs.CodeSteps.AnswersGoOn.{goes_on}
use Rattle.giop_stream.proofs.engine.Engine.feed_by.Goals as goal

pub returns-in-Ok-clause-held : goal.returns-in-Ok-clause-held
returns-in-Ok-clause-held g c a p h agrees =
    let held = rw (← c.self.view_is) at h in
    let C = c.self.inside.catalogue.now in
    let most = c.self.inside.framing.slots.slots.most in
    let R = rules_by C a most in
    let reached : IsReached C a most (state_of R p) =
    record { stream = p; octets = held.octets; held = refl } in
    let t = c.in-Ok.ensures.does a (state_of R p) reached held.shows
    (rw (← c.self.view_is) at agrees) in
    let xs = take c.in-Ok.count c.args.piece.now in
    let does = rw (← t.counted) at t.all in
    let octets = All-take (λ x. x < 256) c.in-Ok.count c.args.piece.now
    (All-from_get_or (λ x. x < 256) c.args.piece.now 0
    (λ i below. omega (arith, c.type_inv.piece i))) in
    let now = rw (← run_holds R (is_causal (λ phase number. signatures_of C (a number) phase))
    (in_turn C a) p
    xs) at does.shows in
    record {
      sound = held.sound;
      octets = All-append (λ x. x < 256) p xs held.octets octets;
      shows = subst (λ (n : ℕ). Shows C a (framing_view c.take_piece.new.self)
          (state_of (rules_by C a n) (p ++ xs))) (sym c.in-Ok.ensures.most) now;
    }

pub returns-in-Ok-clause-status : goal.returns-in-Ok-clause-status
returns-in-Ok-clause-status g c a p h agrees =
    let held = rw (← c.self.view_is) at h in
    let C = c.self.inside.catalogue.now in
    let most = c.self.inside.framing.slots.slots.most in
    let R = rules_by C a most in
    let reached : IsReached C a most (state_of R p) =
    record { stream = p; octets = held.octets; held = refl } in
    let t = c.in-Ok.ensures.does a (state_of R p) reached held.shows
    (rw (← c.self.view_is) at agrees) in
    let xs = take c.in-Ok.count c.args.piece.now in
    let does = rw (← t.counted) at t.all in
    let octets = All-take (λ x. x < 256) c.in-Ok.count c.args.piece.now
    (All-from_get_or (λ x. x < 256) c.args.piece.now 0
    (λ i below. omega (arith, c.type_inv.piece i))) in
    let now = rw (← run_holds R (is_causal (λ phase number. signatures_of C (a number) phase))
    (in_turn C a) p
    xs) at does.shows in
    c.status.ensures ∙ ap status_of (now.stopped ∙ stop_is R (p ++ xs))

pub returns-in-Ok-clause-begun : goal.returns-in-Ok-clause-begun
returns-in-Ok-clause-begun g c a p h agrees =
    let held = rw (← c.self.view_is) at h in
    let C = c.self.inside.catalogue.now in
    let most = c.self.inside.framing.slots.slots.most in
    let R = rules_by C a most in
    let reached : IsReached C a most (state_of R p) =
    record { stream = p; octets = held.octets; held = refl } in
    let t = c.in-Ok.ensures.does a (state_of R p) reached held.shows
    (rw (← c.self.view_is) at agrees) in
    let xs = take c.in-Ok.count c.args.piece.now in
    let does = rw (← t.counted) at t.all in
    let octets = All-take (λ x. x < 256) c.in-Ok.count c.args.piece.now
    (All-from_get_or (λ x. x < 256) c.args.piece.now 0
    (λ i below. omega (arith, c.type_inv.piece i))) in
    let now = rw (← run_holds R (is_causal (λ phase number. signatures_of C (a number) phase))
    (in_turn C a) p
    xs) at does.shows in
    let after : IsReached C a most (state_of R (p ++ xs)) = record {
      stream = p ++ xs;
      octets = All-append (λ x. x < 256) p xs held.octets octets;
      held = refl;
    } in
    c.begun_since.ensures
    ∙ rw (
      messages_at C a most (state_of R p) reached (framing_view c.self.inside.framing) held.shows,
      messages_at C a most (state_of R (p ++ xs)) after (framing_view c.take_piece.new.self) now,
    ) refl

pub returns-in-Ok-clause-text : goal.returns-in-Ok-clause-text
unfolding added
returns-in-Ok-clause-text g c a p h agrees =
    let held = rw (← c.self.view_is) at h in
    let C = c.self.inside.catalogue.now in
    let most = c.self.inside.framing.slots.slots.most in
    let R = rules_by C a most in
    let reached : IsReached C a most (state_of R p) =
    record { stream = p; octets = held.octets; held = refl } in
    let t = c.in-Ok.ensures.does a (state_of R p) reached held.shows
    (rw (← c.self.view_is) at agrees) in
    record {
      n = t.n;
      counted = t.counted;
      within = t.within;
      some = t.some;
      fronts = λ k few. rw (← c.self.view_is) (t.fronts k few);
      all = rw (
        ← c.self.view_is,
        added_text R (is_causal (λ phase number. signatures_of C (a number) phase))
            (in_turn C a) p (take t.n c.args.piece.now),
      ) t.all.text;
    }

pub returns-in-Err-clause-text : goal.returns-in-Err-clause-text
unfolding added
returns-in-Err-clause-text g c a p h agrees =
    let held = rw (← c.self.view_is) at h in
    let C = c.self.inside.catalogue.now in
    let most = c.self.inside.framing.slots.slots.most in
    let R = rules_by C a most in
    let reached : IsReached C a most (state_of R p) =
    record { stream = p; octets = held.octets; held = refl } in
    let t = c.in-Err.ensures.does a (state_of R p) reached held.shows
    (rw (← c.self.view_is) at agrees) in
    record {
      n = t.n;
      counted = tt;
      within = t.within;
      some = t.some;
      fronts = λ k few. rw (← c.self.view_is) (t.fronts k few);
      all = rw (
        ← c.self.view_is,
        added_text R (is_causal (λ phase number. signatures_of C (a number) phase))
            (in_turn C a) p (take t.n c.args.piece.now),
      ) t.all.text;
    }

pub returns-in-Ok-clause-last : goal.returns-in-Ok-clause-last
returns-in-Ok-clause-last g c a p h agrees left =
    let held = rw (← c.self.view_is) at h in
    let C = c.self.inside.catalogue.now in
    let most = c.self.inside.framing.slots.slots.most in
    let R = rules_by C a most in
    let reached : IsReached C a most (state_of R p) =
    record { stream = p; octets = held.octets; held = refl } in
    rw (← c.self.view_is) (c.in-Ok.ensures.last a (state_of R p) reached held.shows
    (rw (← c.self.view_is) at agrees) left)

pub invariant_of-self-in-Err : goal.invariant_of-self-in-Err
invariant_of-self-in-Err g c = (
  c.self.invariant.0,
  c.clear.ensures.ready c.self.inside.catalogue.now,
)

pub returns-in-Ok-clause-told : goal.returns-in-Ok-clause-told
returns-in-Ok-clause-told g c a p h agrees =
    let held = rw (← c.self.view_is) at h in
    let C = c.self.inside.catalogue.now in
    let most = c.self.inside.framing.slots.slots.most in
    let R = rules_by C a most in
    let reached : IsReached C a most (state_of R p) =
    record { stream = p; octets = held.octets; held = refl } in
    rw (← c.self.view_is) (c.in-Ok.ensures.told a (state_of R p) reached held.shows
    (rw (← c.self.view_is) at agrees))

-- The clause holds by answers that agree with the correspondent, and with the answers by which the
-- stream was read. There are always such answers.
pub returns-in-Ok-clause-cause : goal.returns-in-Ok-clause-cause
returns-in-Ok-clause-cause g c a p h =
    let held = rw (← c.self.view_is) at h in
    let C = c.self.inside.catalogue.now in
    let most = c.self.inside.framing.slots.slots.most in
    let some = goes_on C most g.Q.Correspondent.answer g.Q.Correspondent.notified c.args.piece.now p
    a (g.Q.Correspondent.state c.args.correspondent.now) in
    let agreeing = held_agree _ a some.0 p some.1 held in
    let does = c.in-Ok.ensures.does some.0 (state_of (rules_by C some.0 most) p)
    (record { stream = p; octets = held.octets; held = refl }) agreeing.shows some.2 in
    (tt, does.all.text.failures)

pub returns-in-Err-clause-cause : goal.returns-in-Err-clause-cause
returns-in-Err-clause-cause g c a p h =
    let held = rw (← c.self.view_is) at h in
    let C = c.self.inside.catalogue.now in
    let most = c.self.inside.framing.slots.slots.most in
    let some = goes_on C most g.Q.Correspondent.answer g.Q.Correspondent.notified c.args.piece.now p
    a (g.Q.Correspondent.state c.args.correspondent.now) in
    let agreeing = held_agree _ a some.0 p some.1 held in
    let does = c.in-Err.ensures.does some.0 (state_of (rules_by C some.0 most) p)
    (record { stream = p; octets = held.octets; held = refl }) agreeing.shows some.2 in
    (does.all.text.failures, tt)
