use Rattle.std.proofs.Common.{Some, ap, sym, ◌∙◌, ◌+◌, arith}
use Rattle.giop_checkpoint.specs.Layouts.{owner_octet}
use Rattle.giop_checkpoint.proofs.States.{fields_of, open_few, among_more, fixed_is, value_of}
use Rattle.giop_checkpoint.proofs.state.unchecked_state.Goals as goal

pub returns-in_default-clause-again : goal.returns-in_default-clause-again
returns-in_default-clause-again c f own h e =
    absurd (c.in_default.not-Some _ (c.place_at.ensures.again f.place
    (owner_octet c.args.layout f.owner) _ h.place
    (c.split_at.ensures.back ∙ (fields_of c.args.layout f _ h e).place)))

pub returns-clause-again : goal.returns-clause-again
returns-clause-again c f own h e =
    let p = fields_of c.args.layout f _ h e in
    let limits = c.split_at-2.ensures.back ∙ p.limits in
    let among = among_more f.records (f.most_open + 1) f.owner h.records h.owner in
    ap Some (fixed_is f _ _ _ _ _ _ _ _ _ (sym own)
    (c.most_open_at.ensures f.most_open f.owner f.is_mixed h.most_open limits)
    (c.four_at.ensures f.records _ (omega (
      arith,
      h.records,
      open_few c.args.layout f.most_open h.most_open,
    )) p.records)
    (c.eight_at.ensures f.octets _ (omega (arith, h.octets)) p.read)
    (c.eight_at-2.ensures f.messages _ (omega (arith, h.messages)) p.messages)
    (c.eight_at-3.ensures f.faults _ (omega (arith, h.faults)) p.faults)
    (value_of _ _ _ (c.place_at.ensures.again f.place (owner_octet c.args.layout f.owner) _ h.place
    (c.split_at.ensures.back ∙ p.place)) c.in-Some.is)
    (c.owner_at.ensures f.most_open f.owner f.is_mixed h.most_open among
    (c.octet_at.ensures _ _ p.owner_is) limits)
    (c.is_mixed_at.ensures c.args.layout f.most_open f.owner f.is_mixed h.mixed limits))
