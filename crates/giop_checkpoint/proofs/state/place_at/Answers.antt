use Rattle.giop_checkpoint.proofs.Places.{parts_of, left_small}
use Rattle.giop_checkpoint.proofs.state.place_at.Goals as goal

pub returns-clause-again : goal.returns-clause-again
returns-clause-again c place owner rest r e =
    let p = parts_of place owner _ rest r e in
    c.place_of.ensures.again place r (c.octet_at.ensures _ _ p.kind)
    (c.octet_at-2.ensures _ _ p.fault) (c.octet_at-3.ensures _ _ p.held)
    (c.octets_at.ensures _ _ p.header_long p.header)
    (c.eight_at.ensures _ _ (left_small place r) p.left)
