use Rattle.std.proofs.Common.{◌/◌, ◌<◌, ℕ, List, length, sym, ap, subst, ◌∙◌, arith}
use Rattle.tcp_segment.specs.Segments.{segment_view}
use Rattle.tcp_streams.specs.Pairs.{flow_id}
use Rattle.tcp_connections.specs.Connections.{State, flow_at, with_room, made_known, next_slot, index_of, is_first_payload, began, fin_taken, first_number}
use Rattle.tcp_connections.specs.State.{times}
use Rattle.tcp_connections.proofs.Cases.{unknown_nothing, unknown_first}
use Rattle.tcp_connections.proofs.Kept.{half}
use Rattle.tcp_connections.proofs.States.{known_of, moved, moved_ok}
use Rattle.tcp_connections.proofs.Unknown.{room_enough, next_below, next_vacant, next_taken, made_flows}
use Rattle.tcp_connections.proofs.connections.Connections.take_unknown.Goals as goal

pub returns-then-not-is_first_payload-clause-does :
    goal.returns-then-not-is_first_payload-clause-does
returns-then-not-is_first_payload-clause-does g c w h =
    moved _ _ _ _ _ (unknown_nothing g.L.Listener.reader w (segment_view c.args.segment)
    (sym (ap (λ (u : State). is_first_payload u.ports (segment_view c.args.segment)) h.same)
    ∙ sym c.is_first_payload.ensures ∙ c.if-not-is_first_payload.true))
    (c.tell_looked_through.ensures w h)

pub make_known-requires-clause-state : goal.make_known-requires-clause-state
make_known-requires-clause-state g c = (
  _,
  c.in_ok-make_room.ensures.does c.requires.state.0 c.requires.state.1,
)

pub make_known-requires-clause-new : goal.make_known-requires-clause-new
make_known-requires-clause-new g c =
    let w = c.requires.state.0 in
    let h = c.requires.state.1 in
    let n = c.in_ok-make_room.ensures.does w h in
    ap (index_of c.args.pair) (known_of _ _ _ _ n)
    ∙ (room_enough g.L.Listener.reader w c.args.pair h.sound
    (sym (ap (index_of c.args.pair) (known_of _ _ _ _ h)) ∙ c.requires.new)).0

pub make_known-requires-clause-room : goal.make_known-requires-clause-room
make_known-requires-clause-room g c =
    let w = c.requires.state.0 in
    let h = c.requires.state.1 in
    let n = c.in_ok-make_room.ensures.does w h in
    let less = (room_enough g.L.Listener.reader w c.args.pair h.sound
    (sym (ap (index_of c.args.pair) (known_of _ _ _ _ h)) ∙ c.requires.new)).1 in
    omega (
      arith,
      less,
      n.room,
      ap length (known_of _ _ _ _ n),
    )

pub flow_id-id-requires : goal.flow_id-id-requires
flow_id-id-requires g c =
    let w = c.requires.state.0 in
    let h = c.requires.state.1 in
    let n = c.in_ok-make_room.ensures.does w h in
    let less = (room_enough g.L.Listener.reader w c.args.pair h.sound
    (sym (ap (index_of c.args.pair) (known_of _ _ _ _ h)) ∙ c.requires.new)).1 in
    let slot = c.in_ok-slot.ensures.slot ∙ ap next_slot (ap (λ (u : State). u.free) n.same) in
    omega (arith, slot, next_below (with_room g.L.Listener.reader w) n.sound less, n.sound.most)

pub begin_flow-requires-clause-state : goal.begin_flow-requires-clause-state
begin_flow-requires-clause-state g c = (
  _,
  c.in_ok-slot.ensures.does _
      (c.in_ok-make_room.ensures.does c.requires.state.0 c.requires.state.1),
)

pub begin_flow-requires-clause-within : goal.begin_flow-requires-clause-within
begin_flow-requires-clause-within g c =
    let w = c.requires.state.0 in
    let h = c.requires.state.1 in
    let n = c.in_ok-make_room.ensures.does w h in
    let less = (room_enough g.L.Listener.reader w c.args.pair h.sound
    (sym (ap (index_of c.args.pair) (known_of _ _ _ _ h)) ∙ c.requires.new)).1 in
    let slot = c.in_ok-slot.ensures.slot ∙ ap next_slot (ap (λ (u : State). u.free) n.same) in
    let m = c.in_ok-slot.ensures.does _ n in
    omega (
      arith,
      slot,
      next_below (with_room g.L.Listener.reader w) n.sound less,
      n.sound.flows,
      c.flow_id-id.ensures.bound,
      ap (λ (u : State). length u.flows) m.same,
      made_flows (with_room g.L.Listener.reader w) c.args.pair,
      c.make_known.new.self.flows.states.ok.0,
    )

pub begin_flow-requires-clause-taken : goal.begin_flow-requires-clause-taken
begin_flow-requires-clause-taken g c =
    let w = c.requires.state.0 in
    let h = c.requires.state.1 in
    let n = c.in_ok-make_room.ensures.does w h in
    let less = (room_enough g.L.Listener.reader w c.args.pair h.sound
    (sym (ap (index_of c.args.pair) (known_of _ _ _ _ h)) ∙ c.requires.new)).1 in
    let slot = c.in_ok-slot.ensures.slot ∙ ap next_slot (ap (λ (u : State). u.free) n.same) in
    let m = c.in_ok-slot.ensures.does _ n in
    let id = ap (λ (k : ℕ). k / 2) c.flow_id-id.ensures.id ∙ half _ c.args.side ∙ slot in
    subst (λ (rs : List ℕ). 0 < times (c.flow_id-id.result / 2) rs)
    (sym (ap (λ (u : State). u.slots) m.same))
    (subst (λ (k : ℕ).
    0 < times k (made_known (with_room g.L.Listener.reader w) c.args.pair).slots) (sym id)
    (next_taken (with_room g.L.Listener.reader w) c.args.pair))

pub begin_flow-requires-clause-vacant : goal.begin_flow-requires-clause-vacant
begin_flow-requires-clause-vacant g c =
    let w = c.requires.state.0 in
    let h = c.requires.state.1 in
    let n = c.in_ok-make_room.ensures.does w h in
    let less = (room_enough g.L.Listener.reader w c.args.pair h.sound
    (sym (ap (index_of c.args.pair) (known_of _ _ _ _ h)) ∙ c.requires.new)).1 in
    let slot = c.in_ok-slot.ensures.slot ∙ ap next_slot (ap (λ (u : State). u.free) n.same) in
    let m = c.in_ok-slot.ensures.does _ n in
    let id = c.flow_id-id.ensures.id ∙ ap (λ (r : ℕ). flow_id r c.args.side) slot in
    ap (λ (u : State). flow_at u c.flow_id-id.result) m.same
    ∙ ap (flow_at (made_known (with_room g.L.Listener.reader w) c.args.pair)) id
    ∙ next_vacant (with_room g.L.Listener.reader w) c.args.pair c.args.side n.sound less

pub take_fin-requires : goal.take_fin-requires
take_fin-requires g c =
    record {
      state = (
        _,
        c.in_ok-begin_flow.ensures.does _
            (c.in_ok-slot.ensures.does _ (c.in_ok-make_room.ensures.does c.requires.state.0
            c.requires.state.1)),
      );
    }

pub returns-clause-does : goal.returns-clause-does
returns-clause-does g c w h =
    let F = g.L.Listener.reader in
    let V = segment_view c.args.segment in
    let v : State = with_room F w in
    let n = c.in_ok-make_room.ensures.does w h in
    let slot = c.in_ok-slot.ensures.slot ∙ ap next_slot (ap (λ (u : State). u.free) n.same) in
    let id = c.flow_id-id.ensures.id ∙ ap (λ (r : ℕ). flow_id r c.args.side) slot in
    let first = sym (ap (λ (u : State). is_first_payload u.ports V) h.same)
    ∙ sym c.is_first_payload.ensures
    ∙ c.if-not-is_first_payload.false in
    moved_ok c.take_fin.result _ _ _ _ _
    (unknown_first F w V first
    ∙ ap (λ q. fin_taken F (began F (made_known v q.0) (flow_id (next_slot v.free) q.1)
    (first_number V) V.payload) (flow_id (next_slot v.free) q.1) V) c.requires.flow
    ∙ ap (λ (i : ℕ). fin_taken F (began F (made_known v c.args.pair) i (first_number V) V.payload) i
    V) (sym id))
    (c.take_fin.ensures.does _ (c.in_ok-begin_flow.ensures.does _ (c.in_ok-slot.ensures.does _ n)))
