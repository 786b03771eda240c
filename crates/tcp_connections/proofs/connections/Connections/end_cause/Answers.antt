use Rattle.std.proofs.Common.{is_some, sym, ap, ◌∙◌}
use Rattle.std.proofs.lemmas.Bool.{cond-true, cond-false}
use Rattle.tcp_flow.specs.declared.flow.CloseCause.TheVariants.{Gap, End}
use Rattle.tcp_connections.specs.Connections.{end_cause}
use Rattle.tcp_connections.proofs.connections.Connections.end_cause.Goals as goal

pub returns-in-Some : goal.returns-in-Some
unfolding end_cause
returns-in-Some c =
    sym (ap end_cause (sym c.flow.ensures ∙ c.in-Some.is)
    ∙ cond-true (is_some c.in-Some.flow.fin) Gap End
    (sym c.has_fin.ensures ∙ c.if-has_fin.true))

pub returns-in_default : goal.returns-in_default
unfolding end_cause
returns-in_default c =
    sym (ap end_cause (sym c.flow.ensures ∙ c.in-Some.is)
    ∙ cond-false (is_some c.in-Some.flow.fin) Gap End
    (sym c.has_fin.ensures ∙ c.if-has_fin.false))

pub returns-in_default-2 : goal.returns-in_default-2
unfolding end_cause
returns-in_default-2 c = sym (ap end_cause (sym c.flow.ensures ∙ c.in_default.is))
