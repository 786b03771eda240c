use Rattle.std.proofs.Common.{arith}
use Rattle.giop_sig.specs.Settling.{resolved_entry}
use Rattle.giop_sig.proofs.SettledEntries.{mapped_more}
use Rattle.giop_sig.proofs.entries.resolve_entries.Goals as goal

pub loop-one-preserved : goal.loop-one-preserved
loop-one-preserved c =
    mapped_more (resolved_entry c.args.targets.now) c.loop-one.one-index c.loop-one.one-items _ _ _
    c.loop-one.invariant (omega arith) c.resolve_entry.ensures
