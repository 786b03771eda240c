use Rattle.std.proofs.Common.{◌≡◌, false, drop}
use Rattle.giop_tokens.specs.Tokens.{after_gap}
use Rattle.giop_tokens.proofs.lexer.after_gap.Given as goal

abbrev pub invariant-loop-i : goal.invariant-loop-i
invariant-loop-i l = after_gap l.comment (drop l.i l.text) ≡ after_gap false l.text
