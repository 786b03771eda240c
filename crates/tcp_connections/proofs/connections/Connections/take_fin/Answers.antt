use Rattle.std.proofs.Common.{sym, ap, ◌∙◌}
use Rattle.tcp_segment.specs.Segments.{segment_view}
use Rattle.tcp_flow.specs.Flow.{End}
use Rattle.tcp_connections.specs.Connections.{arrived}
use Rattle.tcp_connections.proofs.Cases.{no_fin, a_fin}
use Rattle.tcp_connections.proofs.States.{moved, moved_ok}
use Rattle.tcp_connections.proofs.connections.Connections.take_fin.Goals as goal

pub returns-then-not-segment-clause-does : goal.returns-then-not-segment-clause-does
returns-then-not-segment-clause-does g c w h =
    moved _ _ _ _ _ (no_fin g.L.Listener.reader w c.args.id (segment_view c.args.segment)
    c.if-not-segment.true) h

pub returns-clause-does : goal.returns-clause-does
returns-clause-does g c w h = moved_ok c.take_fin_of_flow.result _ _ _ _ _
    (a_fin g.L.Listener.reader w c.args.id (segment_view c.args.segment) c.if-not-segment.false
    ∙ ap (λ n. arrived g.L.Listener.reader w c.args.id (End n)) (sym c.number_behind.ensures))
    (c.take_fin_of_flow.ensures.does w h)
