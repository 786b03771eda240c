use Rattle.giop_sig.proofs.Builtins.{builtin_is}
use Rattle.giop_sig.proofs.catalogue.Catalogue.builtin.Goals as goal

pub invariant_of-result : goal.invariant_of-result
invariant_of-result c =
    rw (
      c.in_ok-types.ensures,
      c.in_ok-fronts.ensures,
      c.new.ensures.empty,
      c.new-2.ensures.empty,
      c.new-3.ensures,
      c.new-4.ensures.empty,
    ) (builtin_is 1)
