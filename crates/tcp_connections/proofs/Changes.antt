-- The code has a state after a segment was noted and after a connection became known.
use Rattle.std.proofs.Common.{◌≡◌, ℕ, ◌+◌, ◌<◌, cond, nat_eq, List, [], ◌∷◌, ◌++◌, length, get_or, set, Bool, true, false, Option, Some, None, refl, sym, ◌∙◌, ap, subst, arith, length-set}
use Rattle.std.specs.List.{insert}
use Rattle.tcp_segment.specs.declared.endpoint.Flow.{Flow as Endpoints}
use Rattle.tcp_segment.specs.Segments.{Segment}
use Rattle.tcp_waiting.specs.Numbers.{onward}
use Rattle.tcp_flow.specs.Flow.{Event, Opens}
use Rattle.tcp_streams.specs.declared.pair.EndpointPair.{EndpointPair}
use Rattle.tcp_streams.specs.declared.pair.Side.TheVariants.{FromLesser, FromGreater}
use Rattle.tcp_streams.specs.Lives.{lives, lives_behind}
use Rattle.tcp_streams.proofs.Order.{lives_more}
use Rattle.tcp_streams.specs.Pairs.{flow_id, flow_from}
use Rattle.tcp_connections.specs.declared.connections.Connections.{Connections}
use Rattle.tcp_connections.specs.declared.syns.KeptSyn.{KeptSyn}
use Rattle.tcp_connections.specs.Connections.{State, index_of, insertion_index, next_slot, rest_of_slots, made_known, syn_kept, with_segment}
use Rattle.tcp_connections.specs.State.{AreRanked, IsSound, IsState, state_of, times}
use Rattle.tcp_connections.proofs.Before.{still_ranked}
use Rattle.tcp_connections.proofs.Sound.{sound_seen, known_sound}
use Rattle.tcp_connections.proofs.Times.{next_is, rest_is, times_at, times_last, times_own}

pub noted : (O : List Event → Type 0) (live : List ℕ) (c c' : Connections) (w : State)
    (slot id : ℕ) → IsState O live c w
    → ((e : List Event) → state_of c' e ≡ with_segment (state_of c e) slot id)
    → c'.free.most ≡ c.free.most → c'.table.most ≡ c.table.most → c'.givers ≡ c.givers
    → IsState O live c' (with_segment w slot id)
noted O live c c' w slot id h same free table givers =
    let long : length (set w.lasts slot w.segments) ≡ length w.lasts =
    length-set w.lasts slot w.segments in
    record {
      observed = h.observed;
      live = h.live;
      same = same w.events ∙ ap (λ (u : State). with_segment u slot id) h.same;
      told = h.told;
      sound = sound_seen w (set w.lasts slot w.segments) w.syns (set w.came id true) w.segments
          w.events w.arrival
          long h.sound;
      blocks = h.blocks;
      free = free ∙ h.free ∙ sym long;
      room = table ∙ h.room ∙ sym long;
      ranked = still_ranked _ _ _ _ _ givers h.ranked;
    }

-- a SYN is kept
pub syn_noted : (O : List Event → Type 0) (live : List ℕ) (c c' : Connections) (w : State)
    (slot id : ℕ) (s : Segment) → IsState O live c w
    → ((e : List Event) → state_of c' e ≡ syn_kept (state_of c e) slot id s)
    → c'.free.most ≡ c.free.most → c'.table.most ≡ c.table.most → c'.givers ≡ c.givers
    → IsState O live c' (syn_kept w slot id s)
unfolding syn_kept
syn_noted O live c c' w slot id s h same free table givers =
    let long : length (set w.lasts slot w.segments) ≡ length w.lasts =
    length-set w.lasts slot w.segments in
    record {
      observed = h.observed;
      live = h.live;
      same = same w.events ∙ ap (λ (u : State). syn_kept u slot id s) h.same;
      told = h.told;
      sound = sound_seen w (set w.lasts slot w.segments)
          (set w.syns slot (Some (record { flow = id; number = onward s.sequence 1 })))
          (set w.came id true) w.segments w.events w.arrival long h.sound;
      blocks = h.blocks;
      free = free ∙ h.free ∙ sym long;
      room = table ∙ h.room ∙ sym long;
      ranked = still_ranked _ _ _ _ _ givers h.ranked;
    }

pub counted : (O : List Event → Type 0) (live : List ℕ) (c c' : Connections) (w : State) →
    IsState O live c w
    → ((e : List Event) → state_of c' e ≡ record (state_of c e) { segments = c.segments + 1 })
    → c'.free.most ≡ c.free.most → c'.table.most ≡ c.table.most → c'.givers ≡ c.givers
    → IsState O live c' (record w { segments = w.segments + 1 })
counted O live c c' w h same free table givers =
    record {
      observed = h.observed;
      live = h.live;
      same = same w.events ∙ ap (λ (u : State). record u { segments = u.segments + 1 }) h.same;
      told = h.told;
      sound = sound_seen w w.lasts w.syns w.came (w.segments + 1) w.events w.arrival refl h.sound;
      blocks = h.blocks;
      free = free ∙ h.free;
      room = table ∙ h.room;
      ranked = still_ranked _ _ _ _ _ givers h.ranked;
    }

-- no segment of the flows of a slot has come
abbrev pub with_none_come : (came : List Bool) (slot : ℕ) → List Bool
with_none_come came slot =
    set (set came (flow_id slot FromLesser) false) (flow_id slot FromGreater) false

abbrev pub with_both_opened : (slot : ℕ) (pair : EndpointPair) (events : List Event) → List Event
with_both_opened slot p events = (events ++ Opens (flow_id slot FromLesser) (flow_from p FromLesser)
    ∷ [])
    ++ Opens (flow_id slot FromGreater) (flow_from p FromGreater) ∷ []

opened_lives : (slot : ℕ) (p : EndpointPair) (events : List Event) →
    lives (with_both_opened slot p events) ≡ lives events
unfolding lives_behind
opened_lives slot p events =
    let lesser : Event = Opens (flow_id slot FromLesser) (flow_from p FromLesser) in
    let greater : Event = Opens (flow_id slot FromGreater) (flow_from p FromGreater) in
    lives_more [] (events ++ lesser ∷ []) greater ∙ lives_more [] events lesser

-- what the code made is what the definition makes
made_is : (w : State) (p : EndpointPair) (rest : List ℕ) (slot : ℕ) → w.free ≡ rest ++ slot ∷ []
    → (record w {
      known = insert w.known (insertion_index p w.known) p;
      slots =
          insert w.slots (insertion_index p w.known) slot;
      free = rest;
      lasts =
          set w.lasts slot w.segments;
      syns = set w.syns slot None;
      came = with_none_come w.came slot;
      events = with_both_opened slot p w.events;
    }) ≡ made_known w p
unfolding made_known
made_is w p rest slot e =
    let next : next_slot w.free ≡ slot = ap next_slot e ∙ next_is rest slot in
    let others : rest_of_slots w.free ≡ rest = ap rest_of_slots e ∙ rest_is rest slot in
    ap (λ (r : ℕ). record w {
      known = insert w.known (insertion_index p w.known) p;
      slots =
          insert w.slots (insertion_index p w.known) r;
      free = rest;
      lasts = set w.lasts r w.segments;
      syns = set w.syns r None;
      came = with_none_come w.came r;
      events = with_both_opened r p w.events;
    }) (sym next)
    ∙ ap (λ (rs : List ℕ). record w {
      known = insert w.known (insertion_index p w.known) p;
      slots =
          insert w.slots (insertion_index p w.known) (next_slot w.free);
      free = rs;
      lasts =
          set w.lasts (next_slot w.free) w.segments;
      syns = set w.syns (next_slot w.free) None;
      came = with_none_come w.came (next_slot w.free);
      events = with_both_opened (next_slot w.free) p w.events;
    })
    (sym others)

pub made : (O O' : List Event → Type 0) (live live' : List ℕ) (c c' : Connections) (w : State)
    (p : EndpointPair) (rest : List ℕ) (slot : ℕ) → IsState O live c w
    → O' (with_both_opened slot p w.events) → live' ≡ lives (with_both_opened slot p w.events)
    → c.free.free.items ≡ rest ++ slot ∷ [] → index_of p c.table.keys ≡ None
    → ((e : List Event) → state_of c' e ≡ record (state_of c e) {
      known =
          insert c.table.keys (insertion_index p c.table.keys) p;
      slots =
          insert c.table.slots (insertion_index p c.table.keys) slot;
      free = rest;
      lasts =
          set c.flows.stamps.last.items slot c.segments;
      syns = set c.syns.kept.items slot None;
      came = with_none_come c.flows.came.ids.items slot;
    })
    → c'.free.most ≡ c.free.most → c'.table.most ≡ c.table.most → c'.givers ≡ c.givers
    → IsState O' live' c' (made_known w p)
made O O' live live' c c' w p rest slot h observed living free new state most table givers =
    let long : length (set w.lasts slot w.segments) ≡ length w.lasts =
    length-set w.lasts slot w.segments in
    let had : w.free ≡ rest ++ slot ∷ [] = sym (ap (λ (u : State). u.free) h.same) ∙ free in
    let unknown : index_of p w.known ≡ None =
    sym (ap (λ (u : State). index_of p u.known) h.same) ∙ new in
    subst (IsState O' live' c') (made_is w p rest slot had)
    (record {
      observed = observed;
      live = living;
      same =
          state (with_both_opened slot p w.events)
          ∙ ap (λ (u : State). record u {
            known = insert u.known (insertion_index p u.known) p;
            slots =
                insert u.slots (insertion_index p u.known) slot;
            free = rest;
            lasts =
                set u.lasts slot u.segments;
            syns = set u.syns slot None;
            came = with_none_come u.came slot;
            events = with_both_opened slot p w.events;
          }) h.same;
      told = λ id e. subst (λ (xs : List ℕ). 0 < times id xs) (sym (opened_lives slot p w.events))
          (h.told id e);
      sound = known_sound w p rest slot (set w.lasts slot w.segments) (set w.syns slot None)
          (with_none_come w.came slot) (with_both_opened slot p w.events) h.sound had unknown long;
      blocks = h.blocks;
      free = most ∙ h.free ∙ sym long;
      room = table ∙ h.room ∙ sym long;
      ranked = subst (AreRanked c'.givers (length w.flows) w.held)
          (sym (opened_lives slot p w.events))
          (still_ranked _ _ _ _ _ givers h.ranked);
    })

-- ---- Which connections are known.

abbrev pub state_without_lists : (connections : Connections) (events : List Event) → State
state_without_lists c es =
    record (state_of c es) { known = []; slots = []; free = []; lasts = []; syns = []; came = [] }

-- only the known connections, and when they were seen, have changed
pub entered : (c c' : Connections) (es : List Event) →
    ((e : List Event) → state_without_lists c' e ≡ state_without_lists c e) →
    (known : List EndpointPair) (slots free lasts : List ℕ) (syns : List (Option KeptSyn))
    (came : List Bool) → c'.table.keys ≡ known → c'.table.slots ≡ slots
    → c'.free.free.items ≡ free →
    c'.flows.stamps.last.items ≡ lasts → c'.syns.kept.items ≡ syns → c'.flows.came.ids.items ≡ came
    → state_of c' es ≡ record (state_of c es) {
      known = known;
      slots = slots;
      free = free;
      lasts =
          lasts;
      syns = syns;
      came = came;
    }
entered c c' es others known slots free lasts syns came k r f l y o =
    ap (λ (u : State). record u {
      known = c'.table.keys;
      slots = c'.table.slots;
      free =
          c'.free.free.items;
      lasts = c'.flows.stamps.last.items;
      syns = c'.syns.kept.items;
      came = c'.flows.came.ids.items;
    }) (others es)
    ∙ ap (λ (ps : List EndpointPair). record (state_of c es) {
      known = ps;
      slots =
          c'.table.slots;
      free = c'.free.free.items;
      lasts = c'.flows.stamps.last.items;
      syns = c'.syns.kept.items;
      came = c'.flows.came.ids.items;
    }) k
    ∙ ap (λ (rs : List ℕ). record (state_of c es) {
      known = known;
      slots = rs;
      free =
          c'.free.free.items;
      lasts = c'.flows.stamps.last.items;
      syns = c'.syns.kept.items;
      came = c'.flows.came.ids.items;
    }) r
    ∙ ap (λ (rs : List ℕ). record (state_of c es) {
      known = known;
      slots = slots;
      free = rs;
      lasts =
          c'.flows.stamps.last.items;
      syns = c'.syns.kept.items;
      came = c'.flows.came.ids.items;
    }) f
    ∙ ap (λ (ns : List ℕ). record (state_of c es) {
      known = known;
      slots = slots;
      free = free;
      lasts = ns;
      syns = c'.syns.kept.items;
      came = c'.flows.came.ids.items;
    }) l
    ∙ ap (λ (ss : List (Option KeptSyn)). record (state_of c es) {
      known = known;
      slots = slots;
      free = free;
      lasts = lasts;
      syns = ss;
      came = c'.flows.came.ids.items;
    }) y
    ∙ ap (λ (bs : List Bool). record (state_of c es) {
      known = known;
      slots = slots;
      free = free;
      lasts = lasts;
      syns = syns;
      came = bs;
    }) o

-- the ids and flows that are told, after they were computed
pub told_as : (P : List Event → Type 0) (es : List Event) (a b a' b' : ℕ) (x y x' y' : Endpoints) →
    a ≡ a' → x ≡ x' → b ≡ b' → y ≡ y'
    → P ((es ++ Opens a x ∷ []) ++ Opens b y ∷ []) →
    P ((es ++ Opens a' x' ∷ []) ++ Opens b' y' ∷ [])
told_as P es a b a' b' x y x' y' d e f g h =
    (subst (λ (z : Endpoints). P ((es ++ Opens a' x' ∷ []) ++ Opens b' z ∷ [])) g
    (subst (λ (n : ℕ). P ((es ++ Opens a' x' ∷ []) ++ Opens n y ∷ [])) f
    (subst (λ (z : Endpoints). P ((es ++ Opens a' z ∷ []) ++ Opens b y ∷ [])) e
    (subst (λ (n : ℕ). P ((es ++ Opens n x ∷ []) ++ Opens b y ∷ [])) d h))))

-- the slot that is taken is one of the slots
pub taken_below : (w : State) (rest : List ℕ) (slot : ℕ) → IsSound w → w.free ≡ rest ++ slot ∷ [] →
    slot < length w.lasts
taken_below w rest slot h e =
    let own : ◌≡◌ {A = ℕ} (cond (nat_eq slot slot) 1 0) 1 = times_own slot in
    h.below slot (omega (arith, ap (times slot) e, times_last slot rest slot, own))

-- no connection has the slot that is taken
pub taken_free : (w : State) (rest : List ℕ) (slot : ℕ) → IsSound w → w.free ≡ rest ++ slot ∷ [] →
    (index : ℕ) → index < length w.slots → get_or w.slots index 0 ≡ slot → ⊥
taken_free w rest slot h e index l is =
    let own : ◌≡◌ {A = ℕ} (cond (nat_eq slot slot) 1 0) 1 = times_own slot in
    let some : 0 < times slot w.slots =
    subst (λ (n : ℕ). 0 < times n w.slots) is (times_at w.slots index l) in
    omega (arith, some, h.once slot, ap (times slot) e, times_last slot rest slot, own)
