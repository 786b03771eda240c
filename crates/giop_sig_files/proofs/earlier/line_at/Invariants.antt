use Rattle.std.proofs.Common.{◌≡◌}
use Rattle.giop_sig_files.specs.Names.{after_lines}
use Rattle.giop_sig_files.proofs.earlier.line_at.Given as goal

abbrev pub invariant-loop : goal.invariant-loop
invariant-loop l = l.rest ≡ after_lines l.counter l.text
