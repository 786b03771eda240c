use Rattle.std.proofs.Common.{sym, ◌∙◌}
use Rattle.giop_stream.proofs.Cuts.Sizes.{size_is}
use Rattle.giop_stream.proofs.header.size_of.Goals as goal

pub returns : goal.returns
returns c = c.number_of.ensures ∙ rw c.order_of.ensures (sym (size_is c.args.header.now c.requires))
