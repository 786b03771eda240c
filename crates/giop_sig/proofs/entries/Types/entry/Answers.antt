use Rattle.giop_sig.proofs.Kept.{formed_read, sized_read}
use Rattle.giop_sig.proofs.entries.Types.entry.Goals as goal

pub returns-clause-formed : goal.returns-clause-formed
returns-clause-formed c =
    formed_read c.self.inside.placed.items c.self.inside.deepest c.args.self.now c.args.t.0
    c.index.result.now c.self.invariant c.self.view_is
    c.requires c.index.ensures

pub returns-clause-sized : goal.returns-clause-sized
returns-clause-sized c =
    sized_read c.self.inside.placed.items c.self.inside.deepest c.args.self.now c.args.t.0
    c.index.result.now c.self.invariant c.self.view_is
    c.requires c.index.ensures
