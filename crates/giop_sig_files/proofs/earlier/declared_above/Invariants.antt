use Rattle.std.proofs.Common.{◌≡◌, ◌<◌, ◌≤◌, ◌-◌, ℕ}
use Rattle.giop_sig_files.specs.Names.{after_lines, DeclareSameName}
use Rattle.giop_sig_files.proofs.earlier.declared_above.Given as goal

-- no line until now declares the name
abbrev pub invariant-loop-above : goal.invariant-loop-above
invariant-loop-above l = record {
  rest : l.rest ≡ after_lines (l.above - 1) l.text;
  none : (k : ℕ) → 1 ≤ k → k < l.above → DeclareSameName l.text k l.line → ⊥;
}
