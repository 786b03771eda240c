use denote.Text.{Utf8}
use denote.Shadow.{shadow}
use Rattle.giop_decode_tests.proofs.tracing.told_at.Given as goal

abbrev pub invariant-loop-line : goal.invariant-loop-line
invariant-loop-line l = shadow (Utf8 l.last)
