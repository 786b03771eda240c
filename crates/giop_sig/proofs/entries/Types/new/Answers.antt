use Rattle.std.proofs.Common.{sym, subst}
use Rattle.giop_sig.specs.Views.{AreDepthsKept}
use Rattle.giop_sig.proofs.Kept.{kept_none}
use Rattle.giop_sig.proofs.entries.Types.new.Goals as goal

pub invariant_of-result : goal.invariant_of-result
invariant_of-result c = subst (λ ps. AreDepthsKept ps 0) (sym c.new.ensures.items) kept_none
