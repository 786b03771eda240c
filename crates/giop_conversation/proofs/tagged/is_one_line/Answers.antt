use Rattle.std.proofs.Common.{◌∙◌, sym}
use Rattle.std.proofs.lemmas.Bool.{eq-eqb, not-true}
use Rattle.giop_conversation.proofs.WholeLines.{is_line}
use Rattle.giop_conversation.proofs.tagged.is_one_line.Goals as goal

pub returns-then-last-eq10 : goal.returns-then-last-eq10
returns-then-last-eq10 c = λ none.
    is_line c.args.octets.now c.in-Some.front.now c.in-Some.last.now c.in-Some.ensures.cases.0
    (eq-eqb c.in-Some.last.now 10 c.if-last-eq10.true)
    (sym c.contains.ensures.value ∙ not-true c.contains.result none)
