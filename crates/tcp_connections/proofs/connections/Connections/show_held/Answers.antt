use Rattle.std.proofs.Common.{◌≡◌, ℕ, sym, ap, ◌∙◌}
use Rattle.tcp_streams.specs.Pairs.{flow_id, opposite}
use Rattle.tcp_connections.specs.Connections.{emptied, shown}
use Rattle.tcp_connections.proofs.States.{moved_ok}
use Rattle.tcp_connections.proofs.connections.Connections.show_held.Goals as goal

pub empty_flow-requires-2 : goal.empty_flow-requires-2
empty_flow-requires-2 g c = record {
  state = (_, c.in_ok-empty_flow.ensures.does c.requires.state.0 c.requires.state.1);
}

pub returns-clause-does : goal.returns-clause-does
unfolding shown
returns-clause-does g c w h =
    let F = g.L.Listener.reader in
    let own : c.flow_id.result ≡ flow_id c.args.slot c.args.side = c.flow_id.ensures.id in
    let other : c.flow_id-2.result ≡ flow_id c.args.slot (opposite c.args.side) =
    c.flow_id-2.ensures.id ∙ ap (flow_id c.args.slot) c.opposite_side.ensures in
    moved_ok c.empty_flow-2.result _ _ _ _ _
    (sym (ap (λ (i : ℕ). emptied F (emptied F w i) c.flow_id-2.result) own
    ∙ ap (emptied F (emptied F w (flow_id c.args.slot c.args.side))) other))
    (c.empty_flow-2.ensures.does _ (c.in_ok-empty_flow.ensures.does w h))
