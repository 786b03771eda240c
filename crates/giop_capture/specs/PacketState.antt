-- What a reader of packets has read (state).
use Rattle.std.specs.Prelude.{◌≡◌, ℕ, ◌≤◌, List, length}
use Rattle.tcp_flow.specs.Flow.{Event, Reader}
use Rattle.tcp_connections.specs.declared.connections.Connections.{Connections}
use Rattle.tcp_connections.specs.Connections.{State}
use Rattle.tcp_connections.specs.State.{IsState}
use Rattle.giop_capture.specs.Packets.{PacketView}
use Rattle.giop_capture.specs.Arrivals.{after_packets, links_noticed, notices_due}
use Rattle.giop_capture.specs.declared.notices.Notice.{Notice}

-- From this start on, the connections have the state that these packets lead to, and the notices
-- that are due of them were given.
pub record HasRead (Observed : List Event → Type 0) (Told : List Notice → Type 0) (reader : Reader)
    (connections : Connections) (live_flow_ids links_with_notice : List ℕ)
    (start_state : State) (packets : List PacketView) : Type 0 where
  pub state : IsState Observed live_flow_ids connections (after_packets reader start_state packets)
  pub few : connections.segments ≤ length packets
  pub all : links_with_notice ≡ links_noticed packets
  pub told : Told (notices_due reader start_state packets)
