use Rattle.giop_sig.specs.Settling.{resolved_entry}
use Rattle.giop_sig.proofs.SettledEntries.{IsMapped}
use Rattle.giop_sig.proofs.entries.resolve_entries.Given as goal

abbrev pub invariant-loop-one : goal.invariant-loop-one
invariant-loop-one l = IsMapped (resolved_entry l.targets) l.one-index l.one-items l.fn.placed.items
