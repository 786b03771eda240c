use Rattle.std.proofs.Common.{◌+◌, is_some, sym, ap, ◌∙◌}
use Rattle.std.proofs.lemmas.Bool.{false≢true}
use Rattle.giop_stream.specs.SlotsRepresent.{current_of}
use Rattle.giop_stream.proofs.Restored.Loaded.{front_is, front_found, first_added}
use Rattle.giop_stream.proofs.loading.load_first.Goals as goal

pub returns-in_default-clause-again : goal.returns-in_default-clause-again
returns-in_default-clause-again c l count held w xs some left room bare =
    absurd (front_found c.args.catalogue.now l (c.args.octets + 1) count c.args.records.now w xs
    held left some c.in_default.ensures.again)

pub returns-then-not-load_record-clause-again : goal.returns-then-not-load_record-clause-again
returns-then-not-load_record-clause-again c l count held w xs some left room bare =
    let C = c.args.catalogue.now in
    let at = c.args.octets + 1 in
    let front = front_is C l at count c.args.records.now w xs c.in-Some.first some
    c.in-Some.ensures.again held left in
    let added = first_added C l at count w xs c.in-Some.first c.args.slots.now
    c.load_record.new.slots
    c.load_record.result
    (c.load_record.ensures.one_open l) (c.load_record.ensures.one_current l w xs) held front room in
    absurd (cc (added.0, c.if-not-load_record.true))

pub returns-clause-again : goal.returns-clause-again
returns-clause-again c l count held w xs some left room bare =
    let C = c.args.catalogue.now in
    let at = c.args.octets + 1 in
    let front = front_is C l at count c.args.records.now w xs c.in-Some.first some
    c.in-Some.ensures.again held left in
    (first_added C l at count w xs c.in-Some.first c.args.slots.now c.load_record.new.slots
    c.load_record.result
    (c.load_record.ensures.one_open l) (c.load_record.ensures.one_current l w xs) held front room).1

pub returns-then-is_some-clause-again : goal.returns-then-is_some-clause-again
returns-then-is_some-clause-again c l count held w xs some left room bare =
    absurd (false≢true (sym (ap (λ of. is_some (current_of of)) bare)
    ∙ sym c.current.ensures.variant ∙ sym c.is_some.ensures ∙ c.if-is_some.true))
