use Rattle.std.proofs.Common.{sym, ◌∙◌}
use Rattle.tcp_connections.proofs.Ranked.{set_at_most}
use Rattle.tcp_connections.proofs.flows.Flows.set.Goals as goal

pub invariant_of-self-else-not-lives-clause-at_most :
    goal.invariant_of-self-else-not-lives-clause-at_most
invariant_of-self-else-not-lives-clause-at_most c =
    let f = c.args.self.now in
    set_at_most f.ranks.slots f.ranks.nodes.items f.states.items f.came.ids.items
    f.stamps.last.items c.args.id c.args.flow (sym c.lives.ensures ∙ c.if-not-lives.false) f.at_most
