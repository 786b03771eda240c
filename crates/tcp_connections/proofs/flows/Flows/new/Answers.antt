use Rattle.std.proofs.Common.{arith}
use Rattle.tcp_connections.proofs.Ranked.{none_small}
use Rattle.tcp_connections.proofs.flows.Flows.new.Goals as goal

pub invariant_of-result-clause-at_most : goal.invariant_of-result-clause-at_most
invariant_of-result-clause-at_most c slot within =
    let none =
    c.in_ok-ranks.ensures.ranks slot (omega (arith, within, c.in_ok-ranks.ensures.slots)) in
    omega (arith, none)

pub invariant_of-result-clause-small : goal.invariant_of-result-clause-small
invariant_of-result-clause-small c =
    none_small c.in_ok-stamps.stamps.last.items c.args.slots c.in_ok-stamps.ensures
