use Rattle.giop_sig.proofs.Kept.{wide_read}
use Rattle.giop_sig.proofs.entries.Types.has_wide_text.Goals as goal

pub returns : goal.returns
returns c =
    wide_read c.self.inside.placed.items c.self.inside.deepest c.args.self.now c.args.t.0
    c.index.result.now c.self.invariant c.self.view_is
    c.requires c.index.ensures
