use Rattle.std.proofs.Common.{arith}
use Rattle.giop_stream.specs.Rules.{rules_by}
use Rattle.giop_stream.proofs.SlotSteps.Performing.{first_failed, call_failed, then_failed, done_then, counts_as}
use Rattle.giop_stream.proofs.SlotSteps.AtHeader.{in_three, ended_owner, come_is, begun_at, placed_at}
use Rattle.giop_stream.proofs.dispatch.take_header_end.Goals as goal

pub at_last_octet-requires : goal.at_last_octet-requires
at_last_octet-requires g c =
    record { ready = c.at_header_1_1.ensures.room.ready _ _ c.in_ok-refused.ensures.ready }

pub returns-in_err-refused-clause-does : goal.returns-in_err-refused-clause-does
returns-in_err-refused-clause-does g c =
    λ l c' who m h.
    let three = in_three (rules_by c.args.catalogue.now l c.args.slots.now.slots.most) c' m
    h.none_come h.unknown in
    rw three (first_failed _ _ c.from_residual.result _ _ c.from_residual.ensures.0
    (c.in_err-refused.ensures.does l c' who m h))

pub returns-in_err-named-clause-does : goal.returns-in_err-named-clause-does
returns-in_err-named-clause-does g c =
    λ l c' who m h.
    let three = in_three (rules_by c.args.catalogue.now l c.args.slots.now.slots.most) c' m
    h.none_come h.unknown in
    let begun = c.in_ok-refused.ensures.does l c' who m h in
    let at = begun_at c.args.catalogue.now l c.args.slots.now c' who m c.args.now h
    c.begin_message.new.slots begun.kept in
    let failed = c.from_residual-in_err-named.ensures.0 in
    rw three (then_failed _ c.from_residual-in_err-named.result _ _ _ failed begun
    (first_failed _ _ c.from_residual-in_err-named.result _ _ failed
    (rw c.in_ok-refused.ensures.most at
    (c.in_err-named.ensures.does c.args.catalogue.now l _ m at))))

pub returns-in_err-ended-clause-does : goal.returns-in_err-ended-clause-does
returns-in_err-ended-clause-does g c =
    λ l c' who m h.
    let three = in_three (rules_by c.args.catalogue.now l c.args.slots.now.slots.most) c' m
    h.none_come h.unknown in
    let begun = c.in_ok-refused.ensures.does l c' who m h in
    let at = begun_at c.args.catalogue.now l c.args.slots.now c' who m c.args.now h
    c.begin_message.new.slots begun.kept in
    let placed = rw c.in_ok-refused.ensures.most at
    (c.in_ok-named.ensures.does c.args.catalogue.now l _ m at) in
    let last = placed_at c.args.catalogue.now l c.args.slots.now c' who m c.args.now h
    c.at_header_1_1.new.slots placed.kept in
    let failed = c.from_residual-in_err-ended.ensures.0 in
    let ended = c.in_err-ended.ensures.does l _ m last
    (come_is c.args.catalogue.now l c.args.slots.now c' who m c.args.now h) in
    rw three (then_failed _ c.from_residual-in_err-ended.result _ _ _ failed begun
    (then_failed _ c.from_residual-in_err-ended.result _ _ _ failed placed
    (call_failed _ c.from_residual-in_err-ended.result _ _ failed ended)))

pub returns-clause-does : goal.returns-clause-does
returns-clause-does g c =
    λ l c' who m h.
    let R = rules_by c.args.catalogue.now l c.args.slots.now.slots.most in
    let three = in_three R c' m h.none_come h.unknown in
    let begun = c.in_ok-refused.ensures.does l c' who m h in
    let at = begun_at c.args.catalogue.now l c.args.slots.now c' who m c.args.now h
    c.begin_message.new.slots begun.kept in
    let placed = rw c.in_ok-refused.ensures.most at
    (c.in_ok-named.ensures.does c.args.catalogue.now l _ m at) in
    let last = placed_at c.args.catalogue.now l c.args.slots.now c' who m c.args.now h
    c.at_header_1_1.new.slots placed.kept in
    let ended = c.in_ok-ended.ensures.does l _ m last
    (come_is c.args.catalogue.now l c.args.slots.now c' who m c.args.now h) in
    rw (three, ← ended_owner R c' m) (counts_as _ _ _ _ (omega (
      arith,
      c.count_faults.ensures.value,
    ))
    (done_then _ _ _ _ _ begun (done_then _ _ _ _ _ placed ended)))
