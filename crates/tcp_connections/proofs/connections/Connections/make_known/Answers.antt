use Rattle.std.proofs.Common.{◌≡◌, [], List, length, Option, refl, sym, ap, ◌∙◌, arith}
use Rattle.std.specs.List.{insert}
use Rattle.tcp_flow.specs.declared.flow.FlowState.{FlowState}
use Rattle.tcp_streams.specs.declared.pair.Side.TheVariants.{FromLesser, FromGreater}
use Rattle.tcp_streams.specs.Lives.{lives}
use Rattle.tcp_streams.specs.Pairs.{flow_id, flow_from}
use Rattle.tcp_connections.specs.Connections.{State, next_slot}
use Rattle.tcp_connections.specs.State.{state_of}
use Rattle.tcp_connections.proofs.Changes.{made, entered, state_without_lists, told_as, taken_below, taken_free}
use Rattle.tcp_connections.proofs.States.{sound_of}
use Rattle.tcp_connections.proofs.Times.{next_is}
use Rattle.tcp_connections.proofs.connections.Connections.make_known.Goals as goal

pub index_for-index-requires-clause-sound : goal.index_for-index-requires-clause-sound
index_for-index-requires-clause-sound g c = sound_of _ _ _ _ c.requires.state.1

pub add-requires-clause-slot : goal.add-requires-clause-slot
add-requires-clause-slot g c =
    let h = c.requires.state.1 in
    let b = taken_below (state_of c.args.self.now []) c.take.new.self.free.items c.in-Some.slot
    (sound_of _ _ _ _ h) (c.take.ensures.some c.in-Some.slot c.in-Some.is) in
    let lasts = ap (λ (w : State). length w.lasts) h.same in omega (arith, b, h.room, lasts)

pub add-requires-clause-free : goal.add-requires-clause-free
add-requires-clause-free g c =
    taken_free (state_of c.args.self.now []) c.take.new.self.free.items c.in-Some.slot
    (sound_of _ _ _ _ c.requires.state.1) (c.take.ensures.some c.in-Some.slot c.in-Some.is)

pub note-requires : goal.note-requires
note-requires g c =
    let sound = sound_of _ _ _ _ c.requires.state.1 in
    let b = taken_below (state_of c.args.self.now []) c.take.new.self.free.items c.in-Some.slot
    sound (c.take.ensures.some c.in-Some.slot c.in-Some.is) in
    omega (arith, b, sound.most)

pub open-requires : goal.open-requires
open-requires g c =
    let sound = sound_of _ _ _ _ c.requires.state.1 in
    let b = taken_below (state_of c.args.self.now []) c.take.new.self.free.items c.in-Some.slot
    sound (c.take.ensures.some c.in-Some.slot c.in-Some.is) in
    omega (arith, b, c.args.self.now.flows.stamps.last.ok.0)

pub flow_id-lesser-requires : goal.flow_id-lesser-requires
flow_id-lesser-requires g c =
    let sound = sound_of _ _ _ _ c.requires.state.1 in
    let b = taken_below (state_of c.args.self.now []) c.take.new.self.free.items c.in-Some.slot
    sound (c.take.ensures.some c.in-Some.slot c.in-Some.is) in
    omega (arith, b, sound.most)

pub returns-clause-does : goal.returns-clause-does
returns-clause-does g c w h =
    let pair = c.args.pair in
    let slot = c.in-Some.slot in
    let told = told_as (λ es. g.L.Listener.observed c.on_new_flow-2.new.self.listener es
    × (c.on_new_flow-2.new.self.live.items ≡ lives es)) w.events
    c.flow_id-lesser.result c.flow_id-greater.result (flow_id slot FromLesser)
    (flow_id slot FromGreater)
    c.flow_from.result c.flow_from-2.result (flow_from pair FromLesser) (flow_from pair FromGreater)
    c.flow_id-lesser.ensures.id c.flow_from.ensures c.flow_id-greater.ensures.id
    c.flow_from-2.ensures
    (c.in_ok-on_new_flow-2.ensures.does _ (c.in_ok-on_new_flow.ensures.does w.events (
      h.observed,
      h.live,
    ))) in
    made (g.L.Listener.observed c.args.to.now.listener)
    (g.L.Listener.observed c.on_new_flow-2.new.self.listener) c.args.to.now.live.items
    c.on_new_flow-2.new.self.live.items c.args.self.now
    (record c.args.self.now {
      table = c.add.new.self;
      guesses = c.note.new.self;
      free = c.take.new.self;
      flows = c.open.new.self;
      syns = c.set.new.self;
    }) w pair c.take.new.self.free.items slot h told.0 told.1
    (c.take.ensures.some slot c.in-Some.is) c.requires.new
    (λ es. entered c.args.self.now (record c.args.self.now {
      table = c.add.new.self;
      guesses = c.note.new.self;
      free = c.take.new.self;
      flows = c.open.new.self;
      syns = c.set.new.self;
    }) es (λ es. ap (λ (fs : List (Option FlowState)).
    record (state_without_lists c.args.self.now es) { flows = fs }) c.open.ensures.states) _ _ _ _ _
    _
    (c.add.ensures.keys ∙ ap (λ n. insert c.args.self.now.table.keys n pair)
    c.index_for-index.ensures.index)
    (c.add.ensures.slots ∙ ap (λ n. insert c.args.self.now.table.slots n slot)
    c.index_for-index.ensures.index)
    refl c.open.ensures.lasts c.set.ensures c.open.ensures.came)
    c.take.ensures.most c.add.ensures.most refl

pub returns-clause-slot : goal.returns-clause-slot
returns-clause-slot g c = sym (ap next_slot (c.take.ensures.some c.in-Some.slot c.in-Some.is)
    ∙ next_is c.take.new.self.free.items c.in-Some.slot)
