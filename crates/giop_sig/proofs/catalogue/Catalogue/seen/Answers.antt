use Rattle.std.proofs.Common.{refl, ap, ◌∙◌}
use Rattle.giop_sig.specs.Table.{Table}
use Rattle.giop_sig.proofs.Tables.{seen_own, seen_table}
use Rattle.giop_sig.proofs.catalogue.Catalogue.seen.Goals as goal

pub invariant_of-result : goal.invariant_of-result
invariant_of-result c = record {
  table = seen_table c.args.forbids_wide c.args.self.now c.laws.ensures;
  entries = c.entries.ensures ∙ ap (λ (t : Table). t.types) c.self.view_is;
}

pub returns-clause-own : goal.returns-clause-own
returns-clause-own c e = seen_own _ c.args.self.now c.args.forbids_wide refl c.self.view_is e
