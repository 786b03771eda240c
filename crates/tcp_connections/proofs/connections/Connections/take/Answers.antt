use Rattle.std.proofs.Common.{◌≡◌, ◌+◌, ◌/◌, ℕ, [], true, false, Some, None, get_or, refl, sym, ap, ◌∙◌, arith}
use Rattle.tcp_segment.specs.Segments.{segment_view}
use Rattle.tcp_flow.specs.declared.flow.CloseCause.TheVariants.{Syn}
use Rattle.tcp_streams.specs.Pairs.{pair_of, flow_id}
use Rattle.tcp_connections.specs.Connections.{State, index_of, flow_at, flow_of_side, syn_at, slot_at, is_syn_to_keep, begins_anew, ended_by, unknown_taken, syn_kept, step}
use Rattle.tcp_connections.specs.State.{state_of}
use Rattle.tcp_connections.proofs.Cases.{step_unknown, step_kept, step_anew, step_known}
use Rattle.tcp_connections.proofs.Changes.{counted, syn_noted}
use Rattle.tcp_connections.proofs.Counted.{step_segments}
use Rattle.tcp_connections.proofs.Search.{forgotten_unknown}
use Rattle.tcp_connections.proofs.Shown.{shown_known}
use Rattle.tcp_connections.proofs.Sound.{slot_below}
use Rattle.tcp_connections.proofs.Kept.{half}
use Rattle.tcp_connections.proofs.Slots.{same_index}
use Rattle.tcp_connections.proofs.States.{small_slot, sound_of, known_of, moved, moved_ok, segments_of}
use Rattle.tcp_connections.proofs.connections.Connections.take.Goals as goal

pub take_unknown-requires-clause-state : goal.take_unknown-requires-clause-state
take_unknown-requires-clause-state g c = (
  _,
  (counted (g.L.Listener.observed c.args.to.now.listener) c.args.to.now.live.items
      c.args.self.now (record c.args.self.now { segments = c.args.self.now.segments + 1 })
      c.requires.state.0 c.requires.state.1 (λ e. refl) refl refl refl),
)

pub returns-in_default-clause-does : goal.returns-in_default-clause-does
returns-in_default-clause-does g c w h =
    let F = g.L.Listener.reader in
    let V = segment_view c.args.segment in
    let pair = c.pair_of-side.result.0 in
    let known = known_of _ _ _ _ h in
    let none : index_of (pair_of V.flow).0 w.known ≡ None =
    ap (λ q. index_of q.0 w.known) (sym c.pair_of-side.ensures) ∙ ap (index_of pair) (sym known)
    ∙ c.slot_of.ensures.none c.in_default.is in
    moved_ok c.take_unknown.result _ _ _ _ _ (step_unknown F w V none)
    (c.take_unknown.ensures.does _ (counted (g.L.Listener.observed c.args.to.now.listener)
    c.args.to.now.live.items c.args.self.now
    (record c.args.self.now { segments = c.args.self.now.segments + 1 }) w h (λ e. refl) refl
    refl refl))

pub returns-in_default-clause-count : goal.returns-in_default-clause-count
returns-in_default-clause-count g c =
    segments_of c.take_unknown.result _ _ _ _ _
    (step_segments g.L.Listener.reader c.requires.state.0 (segment_view c.args.segment)
    ∙ ap (λ n. n + 1) (sym (ap (λ (u : State). u.segments) c.requires.state.1.same)))
    (returns-in_default-clause-does g c c.requires.state.0 c.requires.state.1)

pub note-requires : goal.note-requires
note-requires g c =
    let k = c.in-Some.ensures.some in
    let b = small_slot _ _ _ _ k.0 c.requires.state.1 k.1.within in omega (arith, k.1.slot_is, b)

pub flow_id-id-requires : goal.flow_id-id-requires
flow_id-id-requires g c =
    let k = c.in-Some.ensures.some in
    let b = small_slot _ _ _ _ k.0 c.requires.state.1 k.1.within in omega (arith, k.1.slot_is, b)

pub keep_syn-requires : goal.keep_syn-requires
keep_syn-requires g c =
    let sound = sound_of _ _ _ _ c.requires.state.1 in
    let k = c.in-Some.ensures.some in
    let b = slot_below (state_of c.args.self.now []) k.0 sound k.1.within in
    record {
      slot = omega (arith, b, k.1.slot_is, c.args.self.now.flows.stamps.last.ok.0);
      own = ap (λ (n : ℕ). n / 2) c.flow_id-id.ensures.id
          ∙ half c.in-Some.slot c.pair_of-side.result.1;
    }

pub returns-then-is_syn_to_keep-clause-does : goal.returns-then-is_syn_to_keep-clause-does
returns-then-is_syn_to_keep-clause-does g c w h =
    let F = g.L.Listener.reader in
    let V = segment_view c.args.segment in
    let pair = c.pair_of-side.result.0 in
    let known = known_of _ _ _ _ h in
    let k = c.in-Some.ensures.some in
    let index : ℕ = k.0 in
    let some : index_of (pair_of V.flow).0 w.known ≡ Some index =
    ap (λ q. index_of q.0 w.known) (sym c.pair_of-side.ensures) ∙ ap (index_of pair) (sym known)
    ∙ k.1.found in
    let at = sym k.1.slot_is ∙ ap (λ (u : State). get_or u.slots index 0) h.same in
    let id : c.flow_id-id.result ≡ flow_id (slot_at w index) (pair_of V.flow).1 =
    c.flow_id-id.ensures.id ∙ ap (λ (r : ℕ). flow_id r c.pair_of-side.result.1) at
    ∙ ap (λ q. flow_id (slot_at w index) q.1) c.pair_of-side.ensures in
    let flow = ap (λ (u : State). flow_at u c.flow_id-id.result) h.same ∙ ap (flow_at w) id in
    let kept : is_syn_to_keep (flow_of_side w index (pair_of V.flow).1) V ≡ true =
    ap (λ o. is_syn_to_keep o V) (sym flow) ∙ sym c.is_syn_to_keep.ensures
    ∙ c.if-is_syn_to_keep.true in
    let v : State = record w { segments = w.segments + 1 } in
    moved (g.L.Listener.observed c.args.to.now.listener) c.args.to.now.live.items
    c.keep_syn.new.self (step F w V) (syn_kept v c.in-Some.slot c.flow_id-id.result V)
    (step_kept F w V index some kept
    ∙ ap (λ (r : ℕ). syn_kept v r (flow_id (slot_at w index) (pair_of V.flow).1) V) (sym at)
    ∙ ap (λ (i : ℕ). syn_kept v c.in-Some.slot i V) (sym id))
    (syn_noted (g.L.Listener.observed c.args.to.now.listener) c.args.to.now.live.items
    (record c.args.self.now {
      segments = c.args.self.now.segments + 1;
      guesses = c.note.new.self;
    }) c.keep_syn.new.self v
    c.in-Some.slot c.flow_id-id.result V
    (counted (g.L.Listener.observed c.args.to.now.listener)
    c.args.to.now.live.items c.args.self.now
    (record c.args.self.now {
      segments = c.args.self.now.segments + 1;
      guesses = c.note.new.self;
    }) w h (λ e. refl) refl refl refl)
    c.keep_syn.ensures.kept c.keep_syn.ensures.free c.keep_syn.ensures.room
    c.keep_syn.ensures.givers)

pub returns-then-is_syn_to_keep-clause-count : goal.returns-then-is_syn_to_keep-clause-count
unfolding syn_kept
returns-then-is_syn_to_keep-clause-count g c =
    ap (λ (u : State). u.segments) (c.keep_syn.ensures.kept [])

pub index_of-requires : goal.index_of-requires
index_of-requires g c =
    let k = c.in-Some.ensures.some in
    record {
      sound = sound_of _ _ _ _ (counted (g.L.Listener.observed c.args.to.now.listener)
          c.args.to.now.live.items c.args.self.now
          (record c.args.self.now {
            segments = c.args.self.now.segments + 1;
            guesses = c.note.new.self;
          }) c.requires.state.0
          c.requires.state.1 (λ e. refl) refl refl refl);
      known = (k.0, k.1.found);
    }

pub end_connection-requires-clause-state : goal.end_connection-requires-clause-state
end_connection-requires-clause-state g c = (
  _,
  (counted (g.L.Listener.observed c.args.to.now.listener)
      c.args.to.now.live.items c.args.self.now
      (record c.args.self.now {
        segments = c.args.self.now.segments + 1;
        guesses = c.note.new.self;
      }) c.requires.state.0
      c.requires.state.1 (λ e. refl) refl refl refl),
)

pub take_unknown-requires-then-begins_anew-clause-state :
    goal.take_unknown-requires-then-begins_anew-clause-state
take_unknown-requires-then-begins_anew-clause-state g c = (
  _,
  c.in_ok-end_connection.ensures.does _ (counted (g.L.Listener.observed c.args.to.now.listener)
      c.args.to.now.live.items c.args.self.now
      (record c.args.self.now {
        segments = c.args.self.now.segments + 1;
        guesses = c.note.new.self;
      }) c.requires.state.0
      c.requires.state.1 (λ e. refl) refl refl refl),
)

pub take_unknown-requires-then-begins_anew-clause-new :
    goal.take_unknown-requires-then-begins_anew-clause-new
take_unknown-requires-then-begins_anew-clause-new g c =
    let w = c.requires.state.0 in
    let h = c.requires.state.1 in
    let pair = c.pair_of-side.result.0 in
    let v : State = record w { segments = w.segments + 1 } in
    let n = c.in_ok-end_connection.ensures.does _
    (counted (g.L.Listener.observed c.args.to.now.listener)
    c.args.to.now.live.items c.args.self.now
    (record c.args.self.now {
      segments = c.args.self.now.segments + 1;
      guesses = c.note.new.self;
    }) c.requires.state.0
    c.requires.state.1 (λ e. refl) refl refl refl) in
    let some : index_of pair w.known ≡ Some c.index_of.result =
    ap (index_of pair) (sym (known_of _ _ _ _ h)) ∙ c.index_of.ensures.index in
    ap (index_of pair) (known_of _ _ _ _ n
    ∙ shown_known g.L.Listener.reader v c.index_of.result (slot_at v c.index_of.result)
    c.pair_of-side.result.1 c.pair_of-side.result.1 Syn)
    ∙ forgotten_unknown pair w.known c.index_of.result h.sound.order some

pub returns-then-begins_anew-clause-does : goal.returns-then-begins_anew-clause-does
returns-then-begins_anew-clause-does g c w h =
    let F = g.L.Listener.reader in
    let V = segment_view c.args.segment in
    let pair = c.pair_of-side.result.0 in
    let known = known_of _ _ _ _ h in
    let k = c.in-Some.ensures.some in
    let index : ℕ = c.index_of.result in
    let some : index_of (pair_of V.flow).0 w.known ≡ Some index =
    ap (λ q. index_of q.0 w.known) (sym c.pair_of-side.ensures) ∙ ap (index_of pair) (sym known)
    ∙ c.index_of.ensures.index in
    let own : k.0 ≡ index =
    same_index k.0 index (sym k.1.found ∙ c.index_of.ensures.index) in
    let at = sym k.1.slot_is ∙ ap (λ (n : ℕ). get_or c.args.self.now.table.slots n 0) own
    ∙ ap (λ (u : State). get_or u.slots index 0) h.same in
    let id : c.flow_id-id.result ≡ flow_id (slot_at w index) (pair_of V.flow).1 =
    c.flow_id-id.ensures.id ∙ ap (λ (r : ℕ). flow_id r c.pair_of-side.result.1) at
    ∙ ap (λ q. flow_id (slot_at w index) q.1) c.pair_of-side.ensures in
    let flow = ap (λ (u : State). flow_at u c.flow_id-id.result) h.same ∙ ap (flow_at w) id in
    let syn = ap (λ (u : State). syn_at u c.in-Some.slot) h.same ∙ ap (syn_at w) at in
    let not_kept : is_syn_to_keep (flow_of_side w index (pair_of V.flow).1) V ≡ false =
    ap (λ o. is_syn_to_keep o V) (sym flow) ∙ sym c.is_syn_to_keep.ensures
    ∙ c.if-is_syn_to_keep.false in
    let anew : begins_anew (syn_at w (slot_at w index)) (flow_id (slot_at w index)
    (pair_of V.flow).1) V ≡ true =
    ap (λ o. begins_anew o (flow_id (slot_at w index) (pair_of V.flow).1) V) (sym syn)
    ∙ ap (λ i. begins_anew (syn_at (state_of c.args.self.now w.events) c.in-Some.slot) i V) (sym id)
    ∙ sym c.begins_anew.ensures ∙ c.if-begins_anew.true in
    moved_ok c.take_unknown-then-begins_anew.result _ _ _ _ _
    (step_anew F w V index some not_kept anew ∙ ap (λ q.
    unknown_taken F (ended_by F (record w { segments = w.segments + 1 }) index q.1 Syn) V)
    (sym c.pair_of-side.ensures))
    (c.take_unknown-then-begins_anew.ensures.does _
    (c.in_ok-end_connection.ensures.does _ (counted (g.L.Listener.observed c.args.to.now.listener)
    c.args.to.now.live.items c.args.self.now
    (record c.args.self.now {
      segments = c.args.self.now.segments + 1;
      guesses = c.note.new.self;
    }) w h (λ e. refl) refl
    refl refl)))

pub returns-then-begins_anew-clause-count : goal.returns-then-begins_anew-clause-count
returns-then-begins_anew-clause-count g c =
    segments_of c.take_unknown-then-begins_anew.result _ _ _ _ _
    (step_segments g.L.Listener.reader c.requires.state.0 (segment_view c.args.segment)
    ∙ ap (λ n. n + 1) (sym (ap (λ (u : State). u.segments) c.requires.state.1.same)))
    (returns-then-begins_anew-clause-does g c c.requires.state.0 c.requires.state.1)

pub take_known-requires-clause-state : goal.take_known-requires-clause-state
take_known-requires-clause-state g c = (
  _,
  (counted (g.L.Listener.observed c.args.to.now.listener) c.args.to.now.live.items c.args.self.now
      (record c.args.self.now {
        segments = c.args.self.now.segments + 1;
        guesses = c.note.new.self;
      }) c.requires.state.0
      c.requires.state.1 (λ e. refl) refl refl refl),
)

pub returns-clause-does : goal.returns-clause-does
returns-clause-does g c w h =
    let F = g.L.Listener.reader in
    let V = segment_view c.args.segment in
    let pair = c.pair_of-side.result.0 in
    let known = known_of _ _ _ _ h in
    let k = c.in-Some.ensures.some in
    let index : ℕ = k.0 in
    let some : index_of (pair_of V.flow).0 w.known ≡ Some index =
    ap (λ q. index_of q.0 w.known) (sym c.pair_of-side.ensures) ∙ ap (index_of pair) (sym known)
    ∙ k.1.found in
    let at = sym k.1.slot_is ∙ ap (λ (u : State). get_or u.slots index 0) h.same in
    let id : c.flow_id-id.result ≡ flow_id (slot_at w index) (pair_of V.flow).1 =
    c.flow_id-id.ensures.id ∙ ap (λ (r : ℕ). flow_id r c.pair_of-side.result.1) at
    ∙ ap (λ q. flow_id (slot_at w index) q.1) c.pair_of-side.ensures in
    let flow = ap (λ (u : State). flow_at u c.flow_id-id.result) h.same ∙ ap (flow_at w) id in
    let syn = ap (λ (u : State). syn_at u c.in-Some.slot) h.same ∙ ap (syn_at w) at in
    let not_kept : is_syn_to_keep (flow_of_side w index (pair_of V.flow).1) V ≡ false =
    ap (λ o. is_syn_to_keep o V) (sym flow) ∙ sym c.is_syn_to_keep.ensures
    ∙ c.if-is_syn_to_keep.false in
    let known : begins_anew (syn_at w (slot_at w index)) (flow_id (slot_at w index)
    (pair_of V.flow).1) V ≡ false =
    ap (λ o. begins_anew o (flow_id (slot_at w index) (pair_of V.flow).1) V) (sym syn)
    ∙ ap (λ i. begins_anew (syn_at (state_of c.args.self.now w.events) c.in-Some.slot) i V) (sym id)
    ∙ sym c.begins_anew.ensures ∙ c.if-begins_anew.false in
    moved_ok c.take_known.result _ _ _ _ _ (step_known F w V index some not_kept known)
    (c.take_known.ensures.does index k.1 _ (counted (g.L.Listener.observed c.args.to.now.listener)
    c.args.to.now.live.items c.args.self.now
    (record c.args.self.now {
      segments = c.args.self.now.segments + 1;
      guesses = c.note.new.self;
    }) w h (λ e. refl) refl
    refl refl))

pub returns-clause-count : goal.returns-clause-count
returns-clause-count g c =
    segments_of c.take_known.result _ _ _ _ _
    (step_segments g.L.Listener.reader c.requires.state.0 (segment_view c.args.segment)
    ∙ ap (λ n. n + 1) (sym (ap (λ (u : State). u.segments) c.requires.state.1.same)))
    (returns-clause-does g c c.requires.state.0 c.requires.state.1)
