use Rattle.std.proofs.Common.{sym, ap, ◌∙◌}
use Rattle.tcp_segment.specs.Segments.{segment_view}
use Rattle.tcp_flow.specs.Flow.{Passes}
use Rattle.tcp_connections.specs.Connections.{State, is_looked_through}
use Rattle.tcp_connections.proofs.Cases.{looked_none, looked_passes}
use Rattle.tcp_connections.proofs.States.{moved, told_capture}
use Rattle.tcp_connections.proofs.connections.Connections.tell_looked_through.Goals as goal

pub returns-then-is_looked_through : goal.returns-then-is_looked_through
returns-then-is_looked_through g c w h =
    let V = segment_view c.args.segment in
    let d = c.on_looked_through.ensures w.events (h.observed, h.live) in
    let t = told_capture (g.L.Listener.observed c.args.to.now.listener)
    (g.L.Listener.observed c.on_looked_through.new.self.listener) _ c.args.self.now w
    (Passes V.payload) h d.0
    in
    moved _ _ _ _ _ (looked_passes w V
    (sym (ap (λ (u : State). is_looked_through u.ports V) h.same)
    ∙ sym c.is_looked_through.ensures ∙ c.if-is_looked_through.true))
    (record {
      observed = d.0;
      live = d.1;
      same = t.same;
      told = t.told;
      sound = t.sound;
      blocks = t.blocks;
      free = t.free;
      room = t.room;
      ranked = t.ranked;
    })

pub returns-else-is_looked_through : goal.returns-else-is_looked_through
returns-else-is_looked_through g c w h =
    moved _ _ _ _ _ (looked_none w (segment_view c.args.segment)
    (sym (ap (λ (u : State). is_looked_through u.ports (segment_view c.args.segment)) h.same)
    ∙ sym c.is_looked_through.ensures ∙ c.if-is_looked_through.false)) h
