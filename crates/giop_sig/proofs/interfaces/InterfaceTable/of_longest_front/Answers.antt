use Rattle.std.proofs.Common.{◌+◌, ◌∙◌, sym, arith}
use Rattle.giop_sig.proofs.InterfaceLaws.{longest_zero, longest_more}
use Rattle.giop_sig.proofs.interfaces.InterfaceTable.of_longest_front.Goals as goal

pub loop-size-init : goal.loop-size-init
loop-size-init c =
    c.of_front-found.ensures ∙ sym (longest_zero c.args.self.now c.args.key.now)

pub loop-size-preserved : goal.loop-size-preserved
loop-size-preserved c =
    rw c.or-found.ensures (longest_more c.args.self.now c.args.key.now (c.loop-size.size + 1)
    c.loop-size.size c.of_front.result c.loop-size.found (omega arith) c.of_front.ensures
    c.loop-size.invariant)
