use Rattle.std.proofs.Common.{◌≡◌, ◌/◌, ◌<◌, ℕ, List, [], length, get_or, sym, ap, subst, ◌∙◌, arith}
use Rattle.tcp_segment.specs.Segments.{segment_view}
use Rattle.tcp_streams.specs.Pairs.{flow_id}
use Rattle.tcp_connections.specs.Connections.{State, with_segment}
use Rattle.tcp_connections.specs.State.{state_of, times}
use Rattle.tcp_connections.proofs.Cases.{known_is}
use Rattle.tcp_connections.proofs.Changes.{noted}
use Rattle.tcp_connections.proofs.Kept.{acknowledgement_kept, half}
use Rattle.tcp_connections.proofs.Slots.{known_before}
use Rattle.tcp_connections.proofs.Sound.{slot_below}
use Rattle.tcp_connections.proofs.States.{small_slot, sound_of, moved_ok}
use Rattle.tcp_connections.proofs.Times.{times_at}
use Rattle.tcp_connections.proofs.connections.Connections.take_known.Goals as goal

pub flow_id-id-requires : goal.flow_id-id-requires
flow_id-id-requires g c =
    let k = c.requires.known in
    let b = small_slot _ _ _ _ k.0 c.requires.state.1 k.1.within in omega (arith, k.1.slot_is, b)

pub note-requires : goal.note-requires
note-requires g c =
    let sound = sound_of _ _ _ _ c.requires.state.1 in
    let k = c.requires.known in
    let b = slot_below (state_of c.args.self.now []) k.0 sound k.1.within in
    record {
      slot = omega (arith, b, k.1.slot_is, c.args.self.now.flows.stamps.last.ok.0);
      own = ap (λ (n : ℕ). n / 2) c.flow_id-id.ensures.id ∙ half c.args.slot c.args.side;
    }

pub tell_acknowledgement-requires : goal.tell_acknowledgement-requires
tell_acknowledgement-requires g c =
    record {
      state = (
        _,
        noted _ _ c.args.self.now _ c.requires.state.0 c.args.slot c.flow_id-id.result
            c.requires.state.1 c.note.ensures.noted c.note.ensures.free c.note.ensures.room
            c.note.ensures.givers,
      );
    }

pub take_payload-requires-clause-state : goal.take_payload-requires-clause-state
take_payload-requires-clause-state g c = (
  _,
  c.in_ok-tell_acknowledgement.ensures.does _
      (noted _ _ c.args.self.now _ c.requires.state.0 c.args.slot
      c.flow_id-id.result c.requires.state.1 c.note.ensures.noted
      c.note.ensures.free c.note.ensures.room c.note.ensures.givers),
)

pub take_payload-requires-clause-within : goal.take_payload-requires-clause-within
take_payload-requires-clause-within g c =
    let w = c.requires.state.0 in
    let h = c.requires.state.1 in
    let n = c.in_ok-tell_acknowledgement.ensures.does _
    (noted _ _ c.args.self.now _ w c.args.slot c.flow_id-id.result h
    c.note.ensures.noted c.note.ensures.free c.note.ensures.room c.note.ensures.givers) in
    let k = acknowledgement_kept g.L.Listener.reader
    (with_segment w c.args.slot c.flow_id-id.result) c.flow_id.result
    (segment_view c.args.segment) in
    let sound = sound_of _ _ _ _ h in
    let index = c.requires.known in
    let b = slot_below (state_of c.args.self.now []) index.0 sound index.1.within in
    omega (
      arith,
      b,
      index.1.slot_is,
      c.flow_id-id.ensures.bound,
      ap (λ (u : State). length u.flows) n.same,
      k.flows,
      ap (λ (u : State). length u.flows) h.same,
      sound.flows,
      c.tell_acknowledgement.new.self.flows.states.ok.0,
    )

pub take_payload-requires-clause-taken : goal.take_payload-requires-clause-taken
take_payload-requires-clause-taken g c =
    let w = c.requires.state.0 in
    let h = c.requires.state.1 in
    let n = c.in_ok-tell_acknowledgement.ensures.does _
    (noted _ _ c.args.self.now _ w c.args.slot c.flow_id-id.result h
    c.note.ensures.noted c.note.ensures.free c.note.ensures.room c.note.ensures.givers) in
    let k = acknowledgement_kept g.L.Listener.reader
    (with_segment w c.args.slot c.flow_id-id.result) c.flow_id.result
    (segment_view c.args.segment) in
    let sound = sound_of _ _ _ _ h in
    let slots : c.tell_acknowledgement.new.self.table.slots ≡ c.args.self.now.table.slots =
    ap (λ (u : State). u.slots) n.same ∙ k.slots ∙ sym (ap (λ (u : State). u.slots) h.same) in
    let index = c.requires.known in
    let own = times_at c.args.self.now.table.slots index.0
    (omega (arith, index.1.within, sound.pairs)) in
    let id : c.flow_id-id.result / 2 ≡ c.args.slot =
    ap (λ (n : ℕ). n / 2) c.flow_id-id.ensures.id ∙ half c.args.slot c.args.side in
    subst (λ (rs : List ℕ). 0 < times (c.flow_id-id.result / 2) rs) (sym slots)
    (subst (λ (n : ℕ). 0 < times n c.args.self.now.table.slots)
    (sym (id ∙ sym index.1.slot_is)) own)

pub take_fin-requires : goal.take_fin-requires
take_fin-requires g c =
    record {
      state = (
        _,
        c.in_ok-take_payload.ensures.does _
            (c.in_ok-tell_acknowledgement.ensures.does _
            (noted _ _ c.args.self.now _ c.requires.state.0 c.args.slot
            c.flow_id-id.result c.requires.state.1 c.note.ensures.noted
            c.note.ensures.free c.note.ensures.room c.note.ensures.givers)),
      );
    }

pub take_reset-requires-clause-state : goal.take_reset-requires-clause-state
take_reset-requires-clause-state g c = (
  _,
  c.in_ok-take_fin.ensures.does _ (c.in_ok-take_payload.ensures.does _
      (c.in_ok-tell_acknowledgement.ensures.does _
      (noted _ _ c.args.self.now _ c.requires.state.0 c.args.slot
      c.flow_id-id.result c.requires.state.1 c.note.ensures.noted
      c.note.ensures.free c.note.ensures.room c.note.ensures.givers))),
)

pub take_reset-requires-clause-known : goal.take_reset-requires-clause-known
take_reset-requires-clause-known g c =
    let h = c.requires.state.1 in
    let k = c.requires.known in
    let n = c.in_ok-take_fin.ensures.does _ (c.in_ok-take_payload.ensures.does _
    (c.in_ok-tell_acknowledgement.ensures.does _
    (noted _ _ c.args.self.now _ c.requires.state.0 c.args.slot c.flow_id-id.result h
    c.note.ensures.noted c.note.ensures.free c.note.ensures.room c.note.ensures.givers))) in (
      k.0,
      known_before g.L.Listener.reader c.requires.state.0 c.args.slot c.flow_id-id.result
          c.flow_id.result (segment_view c.args.segment) c.args.self.now c.take_fin.new.self _ _
          c.args.pair k.0 h.same n.same k.1,
    )

pub hear-requires : goal.hear-requires
hear-requires g c =
    let h = c.requires.state.1 in
    let k = c.requires.known in
    let n = c.in_ok-take_fin.ensures.does _ (c.in_ok-take_payload.ensures.does _
    (c.in_ok-tell_acknowledgement.ensures.does _
    (noted _ _ c.args.self.now _ c.requires.state.0 c.args.slot c.flow_id-id.result h
    c.note.ensures.noted c.note.ensures.free c.note.ensures.room c.note.ensures.givers))) in
    record {
      state = (
        _,
        c.in_ok-take_reset.ensures.does k.0 (known_before g.L.Listener.reader c.requires.state.0
            c.args.slot c.flow_id-id.result c.flow_id.result (segment_view c.args.segment)
            c.args.self.now c.take_fin.new.self _ _ c.args.pair k.0 h.same n.same k.1) _ n,
      );
    }

pub returns-clause-does : goal.returns-clause-does
returns-clause-does g c index k w h =
    let at = sym k.slot_is ∙ ap (λ (u : State). get_or u.slots index 0) h.same in
    let n = c.in_ok-take_fin.ensures.does _ (c.in_ok-take_payload.ensures.does _
    (c.in_ok-tell_acknowledgement.ensures.does _
    (noted _ _ c.args.self.now _ w c.args.slot c.flow_id-id.result h
    c.note.ensures.noted c.note.ensures.free c.note.ensures.room c.note.ensures.givers))) in
    moved_ok c.hear.result _ _ _ _ _
    (known_is g.L.Listener.reader w index (segment_view c.args.segment) c.args.slot
    c.args.side c.flow_id-id.result c.flow_id.result at (sym c.requires.flow)
    c.flow_id-id.ensures.id
    (c.flow_id.ensures.id ∙ ap (flow_id c.args.slot) c.opposite_side.ensures))
    (c.hear.ensures.does _ (c.in_ok-take_reset.ensures.does index
    (known_before g.L.Listener.reader w c.args.slot c.flow_id-id.result c.flow_id.result
    (segment_view c.args.segment) c.args.self.now c.take_fin.new.self _ _ c.args.pair index
    h.same n.same k) _ n))
