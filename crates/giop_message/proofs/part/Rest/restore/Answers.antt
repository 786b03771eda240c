use Rattle.std.proofs.Common.{◌<◌, length, sym, ap, ◌∙◌, arith}
use Rattle.giop_message.specs.Stored.{IsSameRest}
use Rattle.giop_message.proofs.Storing.{not_both, rest_front, rest_held, same_octets}
use Rattle.giop_message.proofs.part.Rest.restore.Goals as goal

pub returns-then-not-can_have_rest-clause-again : goal.returns-then-not-can_have_rest-clause-again
returns-then-not-can_have_rest-clause-again c r within is =
    let few : length r.held.items < 32 = r.room in
    let offset = c.eight_at-offset.ensures r.offset _ is.range (rest_front _ r is) in
    let held = ap length (c.held_at-held.ensures r.held.items _ (omega arith) (rest_held _ r is)) in
    absurd (not_both c.if-not-can_have_rest.true (c.can_have_rest.ensures.1 (
      omega arith,
      omega arith,
    )))

pub returns-then-not-same-clause-again : goal.returns-then-not-same-clause-again
returns-then-not-same-clause-again c r within is =
    let few : length r.held.items < 32 = r.room in
    let again : IsSameRest _ r = record {
      offset = c.eight_at-offset.ensures r.offset _ is.range (rest_front _ r is);
      held = c.held_at-held.ensures r.held.items _ (omega arith) (rest_held _ r is);
    } in
    let same = c.same.ensures.1 (c.octets.ensures.is ∙ same_octets _ r again ∙ sym is.is) in
    absurd (not_both c.if-not-same.true same)

pub returns-clause-again : goal.returns-clause-again
returns-clause-again c r within is =
    let few : length r.held.items < 32 = r.room in
    record {
      offset = c.eight_at-offset.ensures r.offset _ is.range (rest_front _ r is);
      held = c.held_at-held.ensures r.held.items _ (omega arith) (rest_held _ r is);
    }
