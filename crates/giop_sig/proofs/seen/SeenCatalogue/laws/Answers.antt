use Rattle.std.proofs.Common.{subst}
use Rattle.giop_sig.specs.HeaderTypes.{IsTable}
use Rattle.giop_sig.proofs.seen.SeenCatalogue.laws.Goals as goal

pub returns : goal.returns
returns c = subst IsTable c.self.view_is c.self.invariant.table
