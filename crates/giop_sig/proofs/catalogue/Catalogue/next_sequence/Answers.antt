use Rattle.std.proofs.Common.{◌+◌, length, arith}
use Rattle.giop_sig.proofs.HearingLaws.{not_below, past_next}
use Rattle.giop_sig.proofs.catalogue.Catalogue.next_sequence.Goals as goal
use Rattle.giop_sig.proofs.catalogue.Catalogue.next_sequence.Goals.{then-t-eq4294967295-via-then-t-eq4294967295, then-t-eq4294967295-via-else-t-eq4294967295+then-not-has}

pub returns-then-t-eq4294967295 : goal.returns-then-t-eq4294967295
returns-then-t-eq4294967295 c =
    let few = c.laws.ensures.types.placed.few in
    elim c.then-t-eq4294967295.branch [
      | then-t-eq4294967295-via-then-t-eq4294967295 w ↦ past_next c.args.self.now c.args.t.0
          (omega (arith, few, w.if-t-eq4294967295))
      | then-t-eq4294967295-via-else-t-eq4294967295+then-not-has w ↦
          past_next c.args.self.now c.args.t.0
          (not_below (c.args.t.0 + 1) (length c.args.self.now.types) w.if-not-has.ensures.1)
    ]
