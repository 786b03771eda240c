use Rattle.std.proofs.Common.{◌<◌}
use Rattle.giop_print.specs.Text.{escaped_octet}
use Rattle.giop_lines.proofs.Gone.{SpelledFront}
use Rattle.giop_lines.proofs.texts.is_escaped_text.Given as goal

abbrev pub invariant-loop-octet : goal.invariant-loop-octet
invariant-loop-octet l = SpelledFront (λ x. x < 256) escaped_octet l.text l.rest l._octet
