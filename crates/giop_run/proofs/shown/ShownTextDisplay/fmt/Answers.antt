use Rattle.std.proofs.Common.{rules}
use Rattle.giop_run.proofs.MarkedLemmas.{shown_on_ok}
use Rattle.giop_run.proofs.shown.ShownTextDisplay.fmt.Goals as goal

pub returns-clause-writes : goal.returns-clause-writes
returns-clause-writes g c =
    shown_on_ok g.W.Write.write_str_gives (λ e. e.0.now) (λ e. e.0.ghost_name) _ _ _ _ _
    (λ same. search rules) c.write-written.ensures.writes
