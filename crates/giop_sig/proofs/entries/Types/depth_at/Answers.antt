use Rattle.giop_sig.proofs.Kept.{depth_read, small_read}
use Rattle.giop_sig.proofs.entries.Types.depth_at.Goals as goal

pub returns-clause-depth : goal.returns-clause-depth
returns-clause-depth c =
    depth_read c.self.inside.placed.items c.self.inside.deepest c.args.self.now c.args.t.0
    c.index.result.now c.self.invariant c.self.view_is
    c.requires c.index.ensures

pub returns-clause-small : goal.returns-clause-small
returns-clause-small c =
    small_read c.self.inside.placed.items c.self.inside.deepest c.args.self.now c.args.t.0
    c.index.result.now c.self.invariant c.self.view_is
    c.requires c.index.ensures
