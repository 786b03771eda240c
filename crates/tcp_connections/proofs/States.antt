-- The code has a state: what a step of one flow, and each other change, leaves.
use Rattle.std.proofs.Common.{◌≡◌, ℕ, zero, suc, true, cond, ◌+◌, ◌*◌, ◌<◌, ◌≤◌, List, [], ◌∷◌, ◌++◌, length, set, get_or, Option, Some, None, is_some, refl, sym, ◌∙◌, ap, subst, arith, true≢false, get_or-set_same, get_or-set_other, length-set}
use Rattle.std.proofs.lemmas.Bool.{cases_eq}
use Rattle.std.proofs.lemmas.List.{length-replicate}
use Rattle.std.specs.List.{remove, last_or}
use Rattle.std.specs.Prelude.{Result, Ok, Err, OnOk}
use Rattle.tcp_waiting.specs.Payload.{Payload, blocks_of, load_of}
use Rattle.tcp_flow.specs.declared.flow.CloseCause.{CloseCause}
use Rattle.tcp_flow.specs.declared.flow.FlowState.{FlowState}
use Rattle.tcp_flow.specs.declared.flow.ListenerError.{ListenerError}
use Rattle.tcp_flow.specs.Flow.{Flow, Event, CaptureEvent, OfCapture, held_by_others}
use Rattle.tcp_flow.specs.Laws.{HoldsOnlyToCome}
use Rattle.tcp_flow.specs.State.{state, IsState as IsFlow}
use Rattle.tcp_flow.proofs.Others.{others_blocks}
use Rattle.tcp_connections.specs.declared.came.Came.{Came}
use Rattle.tcp_connections.specs.declared.connections.Connections.{Connections}
use Rattle.tcp_connections.specs.declared.flows.Flows.{Flows}
use Rattle.tcp_connections.specs.declared.givers.GapRanks.{GapRanks}
use Rattle.tcp_slots.specs.declared.stamps.Stamps.{Stamps}
use Rattle.tcp_waiting.specs.declared.pool.Pool.{Pool}
use Rattle.tcp_streams.specs.declared.pair.Side.{Side}
use Rattle.tcp_streams.specs.Lives.{lives, lives_behind, most_ids}
use Rattle.tcp_streams.proofs.Order.{lives_more}
use Rattle.tcp_connections.specs.Connections.{State, none_known, flow_at, stream_start_at, stream_start_of, with_flow, with_packet, with_capture_event, slot_at, flow_forgotten, forgotten, eldest}
use Rattle.tcp_connections.specs.Givers.{IsRankSet}
use Rattle.tcp_connections.specs.State.{AreRanked, IsSound, IsStateOver, IsState, IsAt, state_of, times}
use Rattle.tcp_connections.proofs.Before.{KeepsOrderBut, noted_ranked, others_twice, still_ranked}
use Rattle.tcp_connections.proofs.Living.{IsToldIfLive, MovesOnlyOwn, lives_ids, no_turn}
use Rattle.tcp_connections.proofs.Forgotten.{both_forgotten, forgotten_sound}
use Rattle.tcp_connections.proofs.Times.{no_flow, none_there}
use Rattle.tcp_connections.proofs.Sound.{IsOfNoFreeSlot, slot_below, some_within, apart_some, with_flow_sound, forgot_sound, sound_seen}

-- what is true of the code's state, whatever has happened, is true of each state that it has
pub by_state : {over : ℕ} (P : State → Type 0) (O : List Event → Type 0) (live : List ℕ)
    (c : Connections)
    (w : State) → IsStateOver over O live c w
    → ((es : List Event) → IsStateOver over O live c (state_of c es) → P (state_of c es)) → P w
by_state P O live c w h k = search (arith, is_some)

pub moved_ok : {X : Type 0} (r : Result X ListenerError) (O : List Event → Type 0) (live : List ℕ)
    (c : Connections) (v w : State) → v ≡ w → OnOk r (IsState O live c w) →
    OnOk r (IsState O live c v)
moved_ok r O live c v w e h = search (arith)

-- how many segments came in the code's state
pub segments_of : {X : Type 0} (r : Result X ListenerError) (O : List Event → Type 0)
    (live : List ℕ) (c : Connections) (w : State) (n : ℕ) → w.segments ≡ n →
    OnOk r (IsState O live c w) → OnOk r (c.segments ≡ n)
segments_of (Ok x) O live c w n e h = search (arith)
segments_of (Err x) O live c w n e h = tt

-- whether a state is sound doesn't depend on what has happened
pub sound_any : (c : Connections) (es fs : List Event) → IsSound (state_of c es) →
    IsSound (state_of c fs)
sound_any c es fs h = search (arith, sound_seen)

-- the state without what flows have
abbrev pub state_without_flows : (connections : Connections) (events : List Event) → State
state_without_flows c es = record (state_of c es) { flows = []; blocks = 0; held = [] }

-- a flow was set, and what waits has changed
pub set_rest : (c : Connections) (f : Flows) (p : Pool) (g : GapRanks) → f.came ≡ c.flows.came →
    f.stamps ≡ c.flows.stamps → (e : List Event) →
    state_without_flows (record c { flows = f; pool = p; givers = g }) e ≡ state_without_flows c e
set_rest c f p g came stamps e =
    ap (λ (k : Came). record (state_without_flows c e)
    { came = k.ids.items; lasts = f.stamps.last.items }) came
    ∙ ap (λ (s : Stamps). record (state_without_flows c e) { lasts = s.last.items }) stamps

-- a state is kept if it is the same whatever has happened
pub kept : (O : List Event → Type 0) (live : List ℕ) (c c' : Connections) (w : State)
    → ((es : List Event) → state_of c' es ≡ state_of c es) → c'.free.most ≡ c.free.most →
    c'.table.most ≡ c.table.most → c'.givers ≡ c.givers → IsState O live c w →
    IsState O live c' w
kept O live c c' w same free slot givers h = record {
  observed = h.observed;
  live = h.live;
  same = same w.events ∙ h.same;
  told = h.told;
  sound = h.sound;
  blocks = h.blocks;
  free = free ∙ h.free;
  room = slot ∙ h.room;
  ranked = still_ranked _ _ _ _ _ givers h.ranked;
}

-- if fewer blocks are missing
pub enough : {over rest : ℕ} (O : List Event → Type 0) (live : List ℕ) (c : Connections)
    (w : State) → IsStateOver over O live c w → blocks_of w.held ≤ w.blocks + rest →
    IsStateOver rest O live c w
enough O live c w h blocks = record {
  observed = h.observed;
  live = h.live;
  same = h.same;
  told = h.told;
  sound = h.sound;
  blocks = blocks;
  free = h.free;
  room = h.room;
  ranked = h.ranked;
}

-- only flows and what they hold have changed
pub changed : (c c' : Connections) (es : List Event) →
    ((e : List Event) → state_without_flows c' e ≡ state_without_flows c e) →
    (flows : List (Option FlowState)) (held : List Payload)
    → c'.flows.states.items ≡ flows → c'.pool.blocks ≡ c.pool.blocks → c'.pool.held ≡ held →
    state_of c' es ≡ record (state_of c es) { flows = flows; held = held }
changed c c' es rest flows held f b h =
    ap (λ (u : State). record u {
      flows = c'.flows.states.items;
      blocks = c'.pool.blocks;
      held =
          c'.pool.held;
    }) (rest es)
    ∙ ap (λ (fs : List (Option FlowState)).
    record (state_of c es) { flows = fs; blocks = c'.pool.blocks; held = c'.pool.held }) f
    ∙ ap (λ (n : ℕ). record (state_of c es) { flows = flows; blocks = n; held = c'.pool.held }) b
    ∙ ap (λ (ps : List Payload). record (state_of c es) { flows = flows; held = ps }) h

-- from the case of what has happened to any state
pub makes_by : {over rest : ℕ} (O O' : List Event → Type 0) (live live' : List ℕ)
    (c c' : Connections)
    (f : State → State)
    → ((es : List Event) → IsStateOver over O live c (state_of c es) →
    IsStateOver rest O' live' c' (f (state_of c es))) → (w : State) → IsStateOver over O live c w →
    IsStateOver rest O' live' c' (f w)
makes_by O O' live live' c c' f k w h = search (arith, by_state)

pub moved : {over : ℕ} (O : List Event → Type 0) (live : List ℕ) (c : Connections)
    (v w : State) → v ≡ w →
    IsStateOver over O live c w → IsStateOver over O live c v
moved O live c v w e h = search (arith)

pub beside_own : (id own : ℕ) (held held' : List Payload) → own ≡ id →
    held_by_others own held' ≡ held_by_others own held →
    held_by_others id held' ≡ held_by_others id held
beside_own id own held held' e h = search (arith)

-- the live streams are told after one flow and what has happened have changed
pub told_flow : (w : State) (id : ℕ) (o : Option FlowState) (events : List Event) →
    ((j : ℕ) → IsToldIfLive (is_some (stream_start_at w j)) (times j (lives w.events)))
    → id < length w.flows → IsToldIfLive (is_some (stream_start_of o)) (times id (lives events)) →
    ((j : ℕ) → (j ≡ id → ⊥) → times j (lives events) ≡ times j (lives w.events))
    → (j : ℕ) → IsToldIfLive (is_some (stream_start_of (get_or (set w.flows id o) j None)))
    (times j (lives events))
told_flow w id o events told l own beside j = search (
  arith,
  cases_eq,
  get_or,
  set,
  get_or-set_same,
  is_some,
  get_or-set_other,
)

-- a flow of the code before it does anything
pub turn_start : {over : ℕ} (O : List Event → Type 0) (live : List ℕ) (c : Connections)
    (es : List Event)
    (id : ℕ) (s : FlowState) → IsStateOver over O live c (state_of c es) →
    flow_at (state_of c es) id ≡ Some s
    → MovesOnlyOwn id es (state s c.pool.held es)
unfolding stream_start_of
turn_start O live c es id s h e = search (arith, no_turn, is_some)

pub small_id : (w : State) (id : ℕ) → IsSound w → id < length w.flows → id < most_ids
small_id w id h l = search (arith)

-- the ranks after a step of a flow
stepped_ranked : {over : ℕ} (O : List Event → Type 0) (live : List ℕ) (c : Connections)
    (es : List Event) (id : ℕ) (flows : List (Option FlowState)) (g : GapRanks) (live' : List ℕ)
    (held : List Payload) (events : List Event) → IsStateOver over O live c (state_of c es)
    → id < length c.flows.states.items → length flows ≡ length c.flows.states.items
    → live' ≡ lives events → IsRankSet c.givers g id (load_of id held) (last_or None live')
    → held_by_others id held ≡ held_by_others id c.pool.held
    → KeepsOrderBut id (lives es) (lives events) → AreRanked g (length flows) held (lives events)
stepped_ranked O live c es id flows g live' held events h l many lived noted beside order =
    subst (λ (n : ℕ). AreRanked g n held (lives events)) (sym many)
    (noted_ranked c.givers g id (length c.flows.states.items) c.pool.held held (lives es)
    (lives events) h.ranked l
    (subst (λ (xs : List ℕ). IsRankSet c.givers g id (load_of id held) (last_or None xs)) lived
    noted)
    beside order (lives_ids events).1)

-- a step of a flow, with all others
pub flow_done : {over rest : ℕ} (O O' : List Event → Type 0) (live live' : List ℕ)
    (c c' : Connections)
    (es : List Event) (id : ℕ) (s' : FlowState) (f : Flow)
    → IsStateOver over O live c (state_of c es) → id < length c.flows.states.items
    → IsFlow (λ e. O' e × (live' ≡ lives e)) s' c'.pool.held f
    → s'.id ≡ id → held_by_others id c'.pool.held ≡ held_by_others id c.pool.held →
    blocks_of c'.pool.held ≤ c.pool.blocks + rest → HoldsOnlyToCome (state s' c'.pool.held []) →
    IsOfNoFreeSlot (state_of c es) id → MovesOnlyOwn id es f
    → ((e : List Event) → state_without_flows c' e ≡ state_without_flows c e) →
    c'.flows.states.items ≡ set c.flows.states.items id (Some s') → c'.pool.blocks ≡ c.pool.blocks
    → c'.free.most ≡ c.free.most → c'.table.most ≡ c.table.most
    → IsRankSet c.givers c'.givers id (load_of id c'.pool.held) (last_or None live')
    → IsStateOver rest O' live' c' (with_flow (state_of c es) id f)
unfolding with_flow stream_start_of
flow_done {rest = most} O O' live live' c c' es id s' f h l n own beside blocks settled apart turn
    rest flows pool
    free slot noted =
    subst (λ (g : Flow). IsStateOver most O' live' c' (with_flow (state_of c es) id g)) n.same
    (record {
      observed = n.observed.0;
      live = n.observed.1;
      same = changed c c' f.events rest (set c.flows.states.items id (Some s')) c'.pool.held flows
          pool refl;
      told = told_flow (state_of c es) id (Some s') f.events h.told l
          (λ e. turn.own (sym (ap (λ (g : Flow). is_some g.live) n.same) ∙ e)) turn.beside;
      sound = with_flow_sound (state_of c es) id (state s' c'.pool.held f.events) h.sound l own
          beside settled apart;
      blocks = blocks;
      free = free ∙ h.free;
      room = slot ∙ h.room;
      ranked = stepped_ranked O live c es id (set c.flows.states.items id (Some s')) c'.givers live'
          c'.pool.held f.events h l (length-set c.flows.states.items id (Some s')) n.observed.1
          noted beside turn.order;
    })

-- what the code has of a flow, before it does anything
pub flow_start : {over : ℕ} (O : List Event → Type 0) (live : List ℕ) (c : Connections)
    (es : List Event)
    (s : FlowState) → IsStateOver over O live c (state_of c es) →
    IsFlow (λ e. O e × (live ≡ lives e)) s c.pool.held (state s c.pool.held es)
flow_start O live c es s h = search (arith)

-- a step of a flow of the code, from what it leaves
pub flow_turned : {over rest : ℕ} (O O' : List Event → Type 0) (live live' : List ℕ)
    (c c' : Connections)
    (es : List Event) (id : ℕ) (s s' : FlowState) (f : Flow) →
    IsStateOver over O live c (state_of c es) →
    flow_at (state_of c es) id ≡ Some s → IsFlow (λ e. O' e × (live' ≡ lives e)) s' c'.pool.held f
    → s'.id ≡ s.id → held_by_others s.id c'.pool.held ≡ held_by_others s.id c.pool.held →
    blocks_of c'.pool.held ≤ c.pool.blocks + rest → HoldsOnlyToCome (state s' c'.pool.held [])
    → (id < most_ids → MovesOnlyOwn id es (state s c.pool.held es) → MovesOnlyOwn id es f)
    → ((e : List Event) → state_without_flows c' e ≡ state_without_flows c e) →
    c'.flows.states.items ≡ set c.flows.states.items id (Some s') → c'.pool.blocks ≡ c.pool.blocks
    → c'.free.most ≡ c.free.most → c'.table.most ≡ c.table.most
    → IsRankSet c.givers c'.givers id (load_of id c'.pool.held) (last_or None live')
    → IsStateOver rest O' live' c' (with_flow (state_of c es) id f)
flow_turned O O' live live' c c' es id s s' f h e n own beside blocks settled turn =
    let same : s.id ≡ id = h.sound.ids id s e in
    let within : id < length c.flows.states.items = some_within c.flows.states.items id s e in
    flow_done O O' live live' c c' es id s' f h within n (own ∙ same)
    (beside_own id s.id c.pool.held c'.pool.held same beside) blocks settled
    (apart_some (state_of c es) id s h.sound e)
    (turn (small_id (state_of c es) id h.sound within) (turn_start O live c es id s h e))

-- a flow was forgotten, with all others
pub forgot_done : (O O' : List Event → Type 0) (live live' : List ℕ) (c c' : Connections)
    (es : List Event) (id : ℕ) (s' : FlowState) (f : Flow)
    → IsState O live c (state_of c es) → id < length c.flows.states.items
    → IsFlow (λ e. O' e × (live' ≡ lives e)) s' c.pool.held f
    → MovesOnlyOwn id es f
    → ((e : List Event) → state_without_flows c' e ≡ state_without_flows c e) →
    c'.flows.states.items ≡ set c.flows.states.items id None →
    c'.pool.blocks ≡ c.pool.blocks → c'.pool.held ≡ held_by_others id c.pool.held
    → c'.free.most ≡ c.free.most → c'.table.most ≡ c.table.most
    → IsRankSet c.givers c'.givers id (load_of id c'.pool.held) (last_or None live')
    → IsState O' live' c' (record (state_of c es) {
      flows = set c.flows.states.items id None;
      held =
          held_by_others id c.pool.held;
      events = f.events;
    })
unfolding stream_start_of
forgot_done O O' live live' c c' es id s' f h l n turn rest flows pool held free slot noted =
    record {
      observed = n.observed.0;
      live = n.observed.1;
      same = changed c c' f.events rest (set c.flows.states.items id None)
          (held_by_others id c.pool.held) flows pool held;
      told = told_flow (state_of c es) id None f.events h.told l (λ e. absurd (true≢false
          (sym e)))
          turn.beside;
      sound = forgot_sound (state_of c es) id f.events h.sound l;
      blocks = omega (arith, h.blocks, others_blocks id c.pool.held);
      free = free ∙ h.free;
      room = slot ∙ h.room;
      ranked = stepped_ranked O live c es id (set c.flows.states.items id None) c'.givers live'
          (held_by_others id c.pool.held) f.events h l (length-set c.flows.states.items id None)
          n.observed.1
          (subst (λ (ps : List Payload).
          IsRankSet c.givers c'.givers id (load_of id ps) (last_or None live')) held noted)
          (others_twice id c.pool.held) turn.order;
    }

pub sound_of : (O : List Event → Type 0) (live : List ℕ) (c : Connections) (w : State) →
    IsState O live c w → IsSound (state_of c [])
sound_of O live c w h = search (arith, sound_any)

-- the slot at an index is below 65,536
pub small_slot : (O : List Event → Type 0) (live : List ℕ) (c : Connections) (w : State)
    (index : ℕ) → IsState O live c w → index < length c.table.keys →
    get_or c.table.slots index 0 < 65536
small_slot O live c w index h l = search (arith, sound_of, slot_below)

-- which connection makes room doesn't depend on what has happened either
pub eldest_any : (c : Connections) (es fs : List Event) (n : ℕ) →
    eldest (state_of c es) n ≡ eldest (state_of c fs) n
unfolding eldest
eldest_any c es fs zero = refl
eldest_any c es fs (suc n) = search (arith, cond, eldest_any c es fs n)

-- ---- A connection is forgotten.

pub known_of : (O : List Event → Type 0) (live : List ℕ) (c : Connections) (w : State) →
    IsState O live c w → c.table.keys ≡ w.known
known_of O live c w h = search (arith)

pub connection_forgotten : (O' : List Event → Type 0) (live' : List ℕ) (c c' : Connections)
    (w : State) (index : ℕ) (side : Side) (cause : CloseCause) → IsSound w
    → IsState O' live' c (both_forgotten w (slot_at w index) side cause) → index < length w.known →
    2 * slot_at w index + 1 < length w.flows
    → ((e : List Event) → state_of c' e ≡ record (state_of c e) {
      known =
          remove c.table.keys index;
      slots = remove c.table.slots index;
      free =
          c.free.free.items ++ slot_at w index ∷ [];
    })
    → c'.free.most ≡ c.free.most → c'.table.most ≡ c.table.most → c'.givers ≡ c.givers
    → IsState O' live' c' (forgotten w index side cause)
unfolding forgotten
connection_forgotten O' live' c c' w index side cause sound h l m same free slot givers =
    let v : State = both_forgotten w (slot_at w index) side cause in
    record {
      observed = h.observed;
      live = h.live;
      same = same v.events ∙ ap (λ (u : State).
          record u {
            known = remove u.known index;
            slots = remove u.slots index;
            free =
                u.free ++ slot_at w index ∷ [];
          }) h.same;
      told = h.told;
      sound = forgotten_sound w index side cause sound h.sound l m;
      blocks = h.blocks;
      free = free ∙ h.free;
      room = slot ∙ h.room;
      ranked = still_ranked _ _ _ _ _ givers h.ranked;
    }

-- there are fewer free slots than slots if a connection is known
pub some_known : (O : List Event → Type 0) (live : List ℕ) (c : Connections) (w : State)
    (index : ℕ) → IsState O live c w → index < length w.known →
    length c.free.free.items < c.free.most
some_known O live c w index h l = search (arith)

pub forgot_at : (O : List Event → Type 0) (live : List ℕ) (c : Connections) (w : State) (a b : ℕ)
    (cause : CloseCause) → a ≡ b → IsState O live c (flow_forgotten w a cause) →
    IsState O live c (flow_forgotten w b cause)
forgot_at O live c w a b cause e h = search (arith)

-- ---- The capture ends.

pub ends_by : (O O' : List Event → Type 0) (live live' : List ℕ) (c c' : Connections)
    (f : State → State)
    → ((es : List Event) → IsAt O live c (state_of c es) → IsAt O' live' c' (f (state_of c es))) →
    (w : State) → IsAt O live c w → IsAt O' live' c' (f w)
ends_by O O' live live' c c' f k w h = search (arith)

pub moved_end : (O : List Event → Type 0) (live : List ℕ) (c : Connections) (v w : State) → v ≡ w →
    IsAt O live c w → IsAt O live c v
moved_end O live c v w e h = search (arith)

pub before_end : (O : List Event → Type 0) (live : List ℕ) (c : Connections) (w : State) →
    IsState O live c w → IsAt O live c w
before_end O live c w h = search (arith)

pub close_done : (O' : List Event → Type 0) (live' : List ℕ) (c c' : Connections) (es : List Event)
    (id : ℕ) (s' : FlowState) (f : Flow)
    → IsFlow (λ e. O' e × (live' ≡ lives e)) s' c.pool.held f
    → ((e : List Event) → state_without_flows c' e ≡ state_without_flows c e) →
    c'.flows.states.items ≡ set c.flows.states.items id (Some s') → c'.pool.blocks ≡ c.pool.blocks →
    c'.pool.held ≡ c.pool.held
    → IsAt O' live' c' (with_flow (state_of c es) id f)
unfolding with_flow
close_done O' live' c c' es id s' f n rest flows pool held =
    subst (λ (g : Flow). IsAt O' live' c' (with_flow (state_of c es) id g)) n.same
    (record {
      observed = n.observed.0;
      live = n.observed.1;
      same = changed c c' f.events rest (set c.flows.states.items id (Some s'))
          c.pool.held flows pool held;
    })

-- ---- No connection is known yet.

none_live : (ports : List ℕ) (blocks most : ℕ) (events : List Event) (id : ℕ) →
    is_some (stream_start_at (none_known ports blocks most events) id) ≡ true →
    0 < times id (lives events)
unfolding stream_start_of
none_live ports blocks most events id e = search (arith, true≢false, is_some, none_there)

-- the state that `new` makes, for a listener that has observed these events
pub starts : (O : List Event → Type 0) (live : List ℕ) (c : Connections) (ports : List ℕ)
    (blocks most : ℕ) (events : List Event) → O events → live ≡ lives events
    → state_of c events ≡ none_known ports blocks most events → IsSound (state_of c []) →
    c.free.most ≡ most → c.table.most ≡ most
    → ((xs : List ℕ) → AreRanked c.givers (2 * most) [] xs) → IsState O live c (state_of c events)
unfolding blocks_of
starts O live c ports blocks most events o lived same sound free slot ranked =
    let many : length (state_of c events).lasts ≡ most =
    ap (λ (w : State). length w.lasts) same ∙ length-replicate most 0 in
    record {
      observed = o;
      live = lived;
      same = refl;
      told = subst (λ (w : State). (id : ℕ) → is_some (stream_start_at w id) ≡ true →
          0 < times id (lives w.events)) (sym same) (none_live ports blocks most events);
      sound = sound_any c [] events sound;
      blocks = omega (arith, ap (λ (w : State). blocks_of w.held) same);
      free = free ∙ sym many;
      room = slot ∙ sym many;
      ranked = subst (λ (w : State). AreRanked c.givers (length w.flows) w.held (lives w.events))
          (sym same)
          (subst (λ (n : ℕ). AreRanked c.givers n [] (lives events))
          (sym (length-replicate (2 * most) no_flow)) (ranked (lives events)));
    }

-- ---- One more packet is read.

pub packet_read : (O : List Event → Type 0) (live : List ℕ) (c c' : Connections) (w : State)
    (time : Option ℕ) → ((e : List Event) → state_of c' e ≡ with_packet (state_of c e) time)
    → c'.free.most ≡ c.free.most → c'.table.most ≡ c.table.most → c'.givers ≡ c.givers
    → IsState O live c w → IsState O live c' (with_packet w time)
packet_read O live c c' w time same free table givers h =
    let a = (with_packet w time).arrival in
    record {
      observed = h.observed;
      live = h.live;
      same = same w.events ∙ ap (λ (u : State). with_packet u time) h.same;
      told = h.told;
      sound = sound_seen w w.lasts w.syns w.came w.segments w.events a refl h.sound;
      blocks = h.blocks;
      free = free ∙ h.free;
      room = table ∙ h.room;
      ranked = still_ranked _ _ _ _ _ givers h.ranked;
    }

-- ---- The listener is told of the capture.

pub told_capture : (O O' : List Event → Type 0) (live : List ℕ) (c : Connections) (w : State)
    (event : CaptureEvent) → IsState O live c w → O' (w.events ++ OfCapture event ∷ [])
    → IsState O' live c (with_capture_event w event)
unfolding lives_behind
told_capture O O' live c w event h o = search (arith, lives_more, sound_any)
