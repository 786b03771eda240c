use Rattle.std.proofs.Common.{sym, ap, ◌∙◌, arith}
use Rattle.std.proofs.lemmas.Bool.{ne_eqb}
use Rattle.tcp_flow.specs.Flow.{is_chain}
use Rattle.tcp_flow.proofs.Chains.{stream_none, stream_front, stream_later}
use Rattle.tcp_flow.proofs.Lefts.{whole_tail}
use Rattle.tcp_flow.proofs.looking.stream_begin_in.Goals as goal

pub returns-in_default-clause-at : goal.returns-in_default-clause-at
returns-in_default-clause-at c =
    sym (stream_none c.args.octets.now (sym c.index_of_header.ensures.at ∙ c.in_default.is))

pub returns-then-place-eq0-clause-at : goal.returns-then-place-eq0-clause-at
returns-then-place-eq0-clause-at c =
    sym (stream_front c.args.octets.now c.in-Some.place
    (sym c.index_of_header.ensures.at ∙ c.in-Some.is) c.if-place-eq0.true)

pub returns-then-is_chain-clause-at : goal.returns-then-is_chain-clause-at
returns-then-is_chain-clause-at c =
    sym (stream_later c.args.octets.now c.in-Some.place _
    (sym c.index_of_header.ensures.at ∙ c.in-Some.is)
    (ne_eqb c.in-Some.place 0 (λ o. absurd (omega (arith, c.if-place-eq0.false, o))))
    (ap is_chain (sym (whole_tail c.args.octets.now c.in-Some.place)) ∙ sym c.is_chain.ensures
    ∙ c.if-is_chain.true))

pub returns-clause-at : goal.returns-clause-at
returns-clause-at c =
    sym (stream_later c.args.octets.now c.in-Some.place _
    (sym c.index_of_header.ensures.at ∙ c.in-Some.is)
    (ne_eqb c.in-Some.place 0 (λ o. absurd (omega (arith, c.if-place-eq0.false, o))))
    (ap is_chain (sym (whole_tail c.args.octets.now c.in-Some.place)) ∙ sym c.is_chain.ensures
    ∙ c.if-is_chain.false))
