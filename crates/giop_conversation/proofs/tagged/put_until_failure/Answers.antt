use Rattle.std.proofs.Common.{◌∙◌, ap, length-drop, take-add, arith}
use Rattle.std.proofs.KnownBytes.{Appends-trans}
use Rattle.giop_print.specs.Output.{saturating_next}
use Rattle.giop_print.proofs.Writing.{rest_from}
use Rattle.giop_conversation.proofs.tagged.put_until_failure.Goals as goal

pub returns-else-taken-text-clause-written : goal.returns-else-taken-text-clause-written
returns-else-taken-text-clause-written g c =
    rw (take-add c.in-Ok.taken c.put_pieces_until_failure.result c.args.text.now)
    (Appends-trans _ _ _ _ _ c.in-Ok.ensures.written
    (rw (rest_from c.in-Ok.taken c.args.text.now) at c.put_pieces_until_failure.ensures.written))

pub returns-else-taken-text-clause-cause : goal.returns-else-taken-text-clause-cause
returns-else-taken-text-clause-cause g c = λ less.
    let rest = rw (rest_from c.in-Ok.taken c.args.text.now) at
    c.put_pieces_until_failure.ensures.cause in
    let size = length-drop c.in-Ok.taken c.args.text.now in
    rest (omega (arith, size, less)) ∙ ap saturating_next c.in-Ok.ensures.failures

pub returns-else-taken-text-clause-none : goal.returns-else-taken-text-clause-none
returns-else-taken-text-clause-none g c = λ all some.
    let rest = rw (rest_from c.in-Ok.taken c.args.text.now) at
    c.put_pieces_until_failure.ensures.none in
    let size = length-drop c.in-Ok.taken c.args.text.now in
    let within = c.in-Ok.ensures.within in
    rest (omega (arith, size, all)) (omega (arith, size, within, c.if-taken-text.false))
    ∙ c.in-Ok.ensures.failures
