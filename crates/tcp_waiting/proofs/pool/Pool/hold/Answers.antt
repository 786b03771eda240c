use Rattle.std.proofs.Common.{◌≡◌, ◌<◌, ◌≤◌, ◌+◌, ◌/◌, ◌++◌, length, length-append, get_or, List, ℕ, Option, Some, None, IfSome, false, arith, refl, sym, subst, ◌∙◌, ap, inl, inr}
use Rattle.std.specs.List.{insert}
use Rattle.tcp_waiting.specs.declared.pool.KnownEnds.{KnownEnds}
use Rattle.tcp_waiting.specs.declared.pool.Waiting.{Waiting}
use Rattle.tcp_waiting.specs.Payload.{Payload, payload, blocks_of, key_of, place_of, put}
use Rattle.tcp_waiting.specs.Layout.{held_in, IsSmall, holds_beyond_window_but}
use Rattle.tcp_waiting.specs.Pool.{PoolView}
use Rattle.tcp_waiting.proofs.Held.{length_held, held_inserted, all_insert, within_more, ok_items}
use Rattle.tcp_waiting.proofs.Counts.{load_insert, load_most}
use Rattle.tcp_waiting.proofs.Ends.{far_insert, far_none_but, itself, another, set_cases}
use Rattle.tcp_waiting.proofs.Order.{place_within, ordered_insert}
use Rattle.tcp_waiting.proofs.Queries.{blocks_insert, since_before}
use Rattle.tcp_waiting.proofs.Packing.{counts_blocks, length_blocks}
use Rattle.tcp_waiting.proofs.pool.Pool.hold.Goals.{then-holds_beyond_window, else-holds_beyond_window}
use Rattle.tcp_waiting.proofs.pool.Pool.hold.Goals as goal

pub make_room-requires-clause-room : goal.make_room-requires-clause-room
make_room-requires-clause-room c =
    let a = c.self.inside in
    let room : blocks_of (held_in a.octets.items a.waiting.items) +
    (length c.args.octets.now + 1023) / 1024 ≤ a.blocks + 256 =
    rw (← c.self.view_is) at c.requires.room in
    omega (arith, counts_blocks a.octets.items a.waiting.items c.self.invariant.within)

pub add_load-requires : goal.add_load-requires
add_load-requires c at l =
    let a = c.self.inside in
    let before = held_in a.octets.items a.waiting.items in
    omega (
      arith,
      c.self.invariant.loads at l,
      load_most at before,
      rw (← c.self.view_is) at c.requires.room,
    )

pub insert-requires : goal.insert-requires
insert-requires c =
    let a = c.self.inside in
    let before = held_in a.octets.items a.waiting.items in
    let same = ap length c.make_room.ensures.held in
    let was = length_held a.octets.items a.waiting.items in
    let is = length_held c.make_room.new.octets.items c.make_room.new.waiting.items in
    record {
      place = omega (
        arith,
        place_within c.key.result c.args.self.now.held,
        ap (λ (v : PoolView). length v.held) c.self.view_is,
      );
      room = omega (
        arith,
        length_blocks before c.self.invariant.small,
        rw (← c.self.view_is) at c.requires.room,
      );
    }

-- the payloads after one more is held, from where they are in memory
record IsHeld (c : goal.After-insert) : Type 0 where
  octets : c.extend_from_slice-copied.new.self.items ≡ c.make_room.new.octets.items
      ++ c.args.octets.now
  waiting : c.insert.new.self.items
      ≡ insert c.make_room.new.waiting.items c.place-place.result (record {
        flow = c.args.flow;
        number = c.args.number;
        from = c.len-from.result;
        count = length c.args.octets.now;
        time = c.args.arrival.time;
        packet = c.args.arrival.packet;
      })
  held : held_in c.extend_from_slice-copied.new.self.items c.insert.new.self.items
      ≡ put (payload c.args.flow c.args.number c.args.octets.now c.args.arrival)
      (held_in c.self.inside.octets.items c.self.inside.waiting.items)

held_is : (c : goal.After-insert) → IsHeld c
held_is c =
    let a = c.self.inside in
    let mr = c.make_room.new in
    let before = held_in a.octets.items a.waiting.items in
    let room : blocks_of before + (length c.args.octets.now + 1023) / 1024 ≤ a.blocks + 256 =
    rw (← c.self.view_is) at c.requires.room in
    let p = payload c.args.flow c.args.number c.args.octets.now c.args.arrival in
    let v : Waiting = record {
      flow = c.args.flow;
      number = c.args.number;
      from = c.len-from.result;
      count = length c.args.octets.now;
      time = c.args.arrival.time;
      packet = c.args.arrival.packet;
    } in
    let octets : c.extend_from_slice-copied.new.self.items ≡ mr.octets.items ++ c.args.octets.now =
    ok_items c.extend_from_slice-copied.result _ _ _ (c.extend_from_slice-copied.ensures.succeeds
    (omega arith))
    c.extend_from_slice-copied.ensures.items in
    let place : c.place-place.result ≡ place_of (key_of p) before =
    rw (← c.self.view_is) at (c.place-place.ensures.place
    ∙ ap (λ (k : ℕ). place_of k c.args.self.now.held) c.key.ensures) in
    record {
      octets = octets;
      waiting = c.insert.ensures.items;
      held = rw (octets, c.insert.ensures.items) (held_inserted mr.octets.items c.args.octets.now
          mr.waiting.items c.place-place.result v c.make_room.ensures.within
          (omega arith) refl
          ∙ rw (c.make_room.ensures.held, place) refl);
    }

pub invariant_of-self : goal.invariant_of-self
invariant_of-self c =
    let a = c.self.inside in
    let mr = c.make_room.new in
    let before = held_in a.octets.items a.waiting.items in
    let room : blocks_of before + (length c.args.octets.now + 1023) / 1024 ≤ a.blocks + 256 =
    rw (← c.self.view_is) at c.requires.room in
    let p = payload c.args.flow c.args.number c.args.octets.now c.args.arrival in
    let place = place_of (key_of p) before in
    let h = held_is c in
    let top : length c.extend_from_slice-copied.new.self.items
    ≡ length mr.octets.items + length c.args.octets.now =
    ap length h.octets ∙ length-append mr.octets.items c.args.octets.now in
    let known : IfSome c.if-holds_beyond_window.near
    (λ m. holds_beyond_window_but c.args.flow m.base m.number m.count
    (put p before) ≡ false) = elim c.if-holds_beyond_window.branch [
      | then-holds_beyond_window b ↦ rw b.near-is tt
      | else-holds_beyond_window b ↦
          rw b.near-is (far_insert c.args.flow c.args.next c.args.number
          (length c.args.octets.now) before place p
          (far_none_but c.args.flow c.args.next c.args.number (length c.args.octets.now) before
          (rw (← c.self.view_is) at (sym c.holds_beyond_window.ensures
          ∙ b.if-holds_beyond_window.false)))
          (itself c.args.flow c.args.next p))
    ] in
    record {
      within = rw (h.waiting, top) (all_insert
          (λ (w : Waiting). w.from + w.count ≤ length mr.octets.items + length c.args.octets.now)
          mr.waiting.items c.place-place.result _ (within_more (length mr.octets.items)
          (length mr.octets.items + length c.args.octets.now) mr.waiting.items (omega arith)
          c.make_room.ensures.within) (omega arith));
      roomy = record {
        most = c.self.invariant.roomy.most;
        places = omega arith;
        octets = omega arith;
        spare = omega arith;
        fits = omega arith;
      };
      ordered = rw h.held (ordered_insert p before c.self.invariant.ordered);
      small = rw h.held (all_insert IsSmall before place p c.self.invariant.small (record {
        number = omega arith;
        some = c.requires.some;
        short = omega arith;
      }));
      used = omega (arith, ap blocks_of h.held, blocks_insert before place p);
      loads = λ flow l.
          (let l' : flow < length a.loads.items = omega arith in
          rw (
            c.add_load.ensures.loads flow l',
            c.self.invariant.loads flow l',
            h.held,
            load_insert flow before place p,
            c.blocks_for-2.ensures,
          ) refl);
      nears = λ flow n is. rw h.held (elim (set_cases a.nears.items c.args.flow flow
          c.if-holds_beyond_window.near n (ap (λ (xs : List (Option KnownEnds)). get_or xs flow
          None)
          (sym c.note.ensures) ∙ is)) [
            | inl e ↦ subst (λ (id : ℕ). holds_beyond_window_but id n.base n.number n.count
                (put p before)
                ≡ false) (sym e.0) (subst (λ (o : Option KnownEnds). IfSome o (λ m.
                holds_beyond_window_but c.args.flow m.base m.number m.count (put p before) ≡ false))
                e.1 known)
            | inr e ↦ far_insert flow n.base n.number n.count before place p
                (c.self.invariant.nears flow n e.1)
                (another flow n.base n.number n.count p e.0)
          ]);
      since =
          (let e = c.earlier-self-inside in
          rw h.held (all_insert (λ (q : Payload). (came : ℕ) → q.arrival.time ≡ Some came →
          e.result ≤ came) before place p
          (since_before a.since e.result before e.ensures.since c.self.invariant.since)
          (λ came is. subst (λ (o : Option ℕ). IfSome o (λ t. e.result ≤ t)) is e.ensures.time)));
    }

pub returns-clause-held : goal.returns-clause-held
returns-clause-held c = rw (← c.self.view_is) (held_is c).held
