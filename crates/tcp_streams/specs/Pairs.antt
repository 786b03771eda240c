-- The endpoints of a connection, and the ids of its two flows (meaning).
use Rattle.std.specs.Prelude.{ℕ, ◌+◌, ◌*◌}
use Rattle.std.specs.declared.cmp.Ordering.{Ordering}
use Rattle.std.specs.declared.cmp.Ordering.TheVariants.{Less, Equal, Greater}
use Rattle.tcp_segment.specs.declared.endpoint.Endpoint.{Endpoint}
use Rattle.tcp_segment.specs.declared.endpoint.Flow.{Flow}
use Rattle.tcp_segment.specs.contracts.endpoint.EndpointOrd.TheImpl as endpoint_order
use Rattle.tcp_streams.specs.declared.pair.EndpointPair.{EndpointPair}
use Rattle.tcp_streams.specs.declared.pair.Side.{Side}
use Rattle.tcp_streams.specs.declared.pair.Side.TheVariants.{FromLesser, FromGreater}
use Rattle.tcp_streams.specs.contracts.pair.EndpointPairOrd.TheImpl as pair_order

-- compares endpoints by address, and then by port
abbrev pub compare_endpoints : (one other : Endpoint) → Ordering
compare_endpoints = (endpoint_order.ghosts).cmp

-- compares pairs by the lesser endpoints, and then by the greater ones
abbrev pub compare_pairs : (one other : EndpointPair) → Ordering
compare_pairs = (pair_order.ghosts).cmp

-- two endpoints, the lesser first
abbrev pub pair : (lesser greater : Endpoint) → EndpointPair
pair lesser greater = record { lesser = lesser; greater = greater }

-- the endpoints of a flow in their order, and which of them sends
abbrev pub pair_by_order : Ordering → Flow → EndpointPair × Side
pair_by_order Greater flow = (pair flow.to flow.from, FromGreater)
pair_by_order Less flow = (pair flow.from flow.to, FromLesser)
pair_by_order Equal flow = (pair flow.from flow.to, FromLesser)

-- the endpoints of a flow, the lesser first, and which of them sends
abbrev pub pair_of : Flow → EndpointPair × Side
pair_of flow = pair_by_order (compare_endpoints flow.from flow.to) flow

-- the side of the other flow
abbrev pub opposite : Side → Side
opposite FromLesser = FromGreater
opposite FromGreater = FromLesser

-- the id of a flow, from the slot of its connection and the side that sends
abbrev pub flow_id : (slot : ℕ) (side : Side) → ℕ
flow_id slot FromLesser = 2 * slot
flow_id slot FromGreater = 2 * slot + 1

-- the flow between two endpoints, if this side sends
abbrev pub flow_from : (pair : EndpointPair) (side : Side) → Flow
flow_from p FromLesser = record { from = p.lesser; to = p.greater }
flow_from p FromGreater = record { from = p.greater; to = p.lesser }
