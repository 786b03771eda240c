use Rattle.std.proofs.Common.{Some, ap}
use Rattle.giop_checkpoint.proofs.RecordFields.{fields_of, id_small, record_same}
use Rattle.giop_checkpoint.proofs.States.{value_of}
use Rattle.giop_checkpoint.proofs.record.unchecked_record.Goals as goal

pub returns-in_default-clause-again : goal.returns-in_default-clause-again
returns-in_default-clause-again c r h e =
    let p = fields_of r _ h e in
    absurd (c.in_default.not-Some _ (c.record_kind_of.ensures.again r.record_kind
    (c.octet_at.ensures _ _ p.record_kind)
    (c.four_at.ensures _ _ (id_small r.record_kind h.typed.record_kind) p.id)))

pub returns-clause-again : goal.returns-clause-again
returns-clause-again c r h e =
    let p = fields_of r _ h e in
    ap Some (record_same _ r
    (c.octet_at-2.ensures _ _ p.frames)
    (value_of _ _ _ (c.record_kind_of.ensures.again r.record_kind
    (c.octet_at.ensures _ _ p.record_kind)
    (c.four_at.ensures _ _ (id_small r.record_kind h.typed.record_kind) p.id)) c.in-Some.is)
    (c.eight_at.ensures _ _ h.typed.number p.number)
    (c.octets_at.ensures _ _ h.typed.header p.header))
