-- The octets that were read until now. Each turn gave at least one.
use Rattle.std.proofs.Common.{◌≤◌, length}
use Rattle.std.specs.Io.KnownBytes.{Consumes}
use Rattle.std.specs.declared.io.ErrorKind.{ErrorKind}
use Rattle.giop_run.proofs.files.read_to_one_over.Given as goal

abbrev pub invariant-loop-turn : goal.invariant-loop-turn
invariant-loop-turn g l =
    record {
      read : Consumes (g.S.Source.log l.fn.source).left (g.S.Source.log l.source).left
          l.octets.items;
      many : l._turn ≤ length l.octets.items;
      few : length l.octets.items ≤ l.limit;
      fewer : (kind : ErrorKind) → g.S.Source.fails l.source kind →
          g.S.Source.fails l.fn.source kind;
    }
