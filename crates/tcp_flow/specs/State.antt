-- A flow as the code has it, together with what is held and what has happened.
use Rattle.std.specs.Prelude.{◌≡◌, List}
use Rattle.tcp_flow.specs.declared.flow.FlowState.{FlowState}
use Rattle.tcp_waiting.specs.Payload.{Payload}
use Rattle.tcp_flow.specs.Flow.{Flow, Event}

abbrev pub state : (flow_in_code : FlowState) (held_by_all_flows : List Payload)
    (events_so_far : List Event) → Flow
state s held events = record {
  id = s.id;
  next = s.next;
  live = s.live;
  waits = s.waits;
  fin = s.fin;
  since = s.since;
  has_begun = s.has_begun;
  is_found = s.is_found;
  tail = s.tail;
  held = held;
  events = events;
}

-- the code has this flow: what is held is what the flow holds, and the listener has observed all
-- that has happened
pub record IsState (Observed : List Event → Type 0) (flow_in_code : FlowState)
    (held_in_code : List Payload) (flow : Flow) : Type 0 where
  pub observed : Observed flow.events
  pub same : state flow_in_code held_in_code flow.events ≡ flow
