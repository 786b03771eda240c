-- The listener is told of the fault, and nothing else changes.
use Rattle.tcp_connections.proofs.States.{told_capture}
use Rattle.giop_capture.proofs.Arriving.{answered}
use Rattle.giop_capture.proofs.packets.PacketReader.on_fault.Goals as goal

pub returns-clause-does : goal.returns-clause-does
returns-clause-does g c =
    λ w h. answered _ _ c.as_out_result.ensures (c.on_fault.ensures.does w.events h.observed)
    (λ o. told_capture _ _ _ _ w _ h o)
