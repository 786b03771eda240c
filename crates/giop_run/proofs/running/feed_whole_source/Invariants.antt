-- The stream goes on after each read and feed until now.
use Rattle.std.proofs.Common.{◌≡◌, ◌+◌, ◌≤◌, List, ℕ, false}
use Rattle.giop_stream.specs.EngineHolds.{Holds, rules_of}
use Rattle.giop_run.specs.RunSteps.{HasFedReads}
use Rattle.giop_run.proofs.running.feed_whole_source.Given as goal

abbrev pub invariant-loop-turn : goal.invariant-loop-turn
invariant-loop-turn g l =
    record {
      going : (p : List ℕ) → Holds l.fn.engine p
          → (s : List ℕ) × HasFedReads (rules_of l.fn.engine) p s l.engine l._turn
          (g.S.Source.log l.fn.source) (g.S.Source.log l.source) (g.O.Out.log l.fn.out)
          (g.O.Out.log l.out);
      sound : l.engine.failed ≡ false;
      same : (l.engine.table ≡ l.fn.engine.table)
          × (l.engine.request_table ≡ l.fn.engine.request_table)
          × (l.engine.most ≡ l.fn.engine.most);
      reads : (g.S.Source.log l.source).reads ≤ (g.S.Source.log l.fn.source).reads + l._turn;
    }
