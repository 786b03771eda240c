use Rattle.std.proofs.Common.{◌≡◌, ℕ, ◌<◌, ◌≤◌, ◌+◌, ◌/◌, length, Some, arith, ap, List, inl, inr}
use Rattle.std.proofs.lemmas.Bool.{cases_eq}
use Rattle.std.proofs.lemmas.List.{nil_from_length}
use Rattle.std.specs.List.{remove}
use Rattle.tcp_waiting.specs.Layout.{IsSmall, held_in}
use Rattle.tcp_waiting.specs.Payload.{Payload, blocks_of, load_of}
use Rattle.tcp_waiting.proofs.Counts.{removed_loads, own_load}
use Rattle.tcp_waiting.proofs.Ends.{far_remove}
use Rattle.tcp_waiting.proofs.Held.{length_held, remove_held, all_remove}
use Rattle.tcp_waiting.proofs.Order.{ordered_remove}
use Rattle.tcp_waiting.proofs.Queries.{removed_blocks}
use Rattle.tcp_waiting.specs.declared.pool.Waiting.{Waiting}
use Rattle.tcp_waiting.proofs.pool.Pool.remove.Goals as goal

pub overflow_sub-self : goal.overflow_sub-self
overflow_sub-self c =
    let a = c.self.inside in
    let within = rw (← c.self.view_is, length_held) at c.requires in
    omega (
      arith,
      removed_blocks a.octets.items a.waiting.items c.args.index c.at-removed.result
          c.self.invariant.within within c.at-removed.ensures,
    )

pub subtract_load-requires : goal.subtract_load-requires
subtract_load-requires c l =
    let a = c.self.inside in
    let w = c.at-removed.result in
    let within = rw (← c.self.view_is, length_held) at c.requires in
    let own = removed_loads a.octets.items a.waiting.items c.args.index w w.flow
    c.self.invariant.within within c.at-removed.ensures in
    omega (arith, c.self.invariant.loads w.flow l, own_load w.flow ((w.count + 1023) / 1024))

pub invariant_of-self : goal.invariant_of-self
invariant_of-self c =
    let a = c.self.inside in
    let w = c.at-removed.result in
    let within = rw (← c.self.view_is, length_held) at c.requires in
    let before = held_in a.octets.items a.waiting.items in
    let held : held_in a.octets.items c.remove.new.self.items ≡ remove before c.args.index =
    rw c.remove.ensures.items (remove_held a.octets.items a.waiting.items c.args.index) in
    record {
      within = rw c.remove.ensures.items (all_remove
          (λ (v : Waiting). v.from + v.count ≤ length a.octets.items) a.waiting.items
          c.args.index c.self.invariant.within);
      roomy = record {
        most = c.self.invariant.roomy.most;
        places = omega arith;
        octets = c.self.invariant.roomy.octets;
        spare = c.self.invariant.roomy.spare;
        fits = c.self.invariant.roomy.fits;
      };
      ordered = rw held (ordered_remove before c.args.index c.self.invariant.ordered);
      small = rw held (all_remove IsSmall before c.args.index c.self.invariant.small);
      used = omega (
        arith,
        removed_blocks a.octets.items a.waiting.items c.args.index w c.self.invariant.within
            within c.at-removed.ensures,
        ap (λ (ws : List Waiting). blocks_of (held_in a.octets.items ws)) c.remove.ensures.items,
      );
      loads = λ flow l.
          (let l' : flow < length a.loads.items = omega arith in
          omega (
            arith,
            rw c.blocks_for-2.ensures at (c.subtract_load.ensures.loads flow l'),
            c.self.invariant.loads flow l',
            ap (λ (ws : List Waiting). load_of flow (held_in a.octets.items ws))
                c.remove.ensures.items,
            removed_loads a.octets.items a.waiting.items c.args.index w flow
                c.self.invariant.within within c.at-removed.ensures,
          ));
      nears = λ flow n is. rw held (far_remove flow n.base n.number n.count before c.args.index
          (c.self.invariant.nears flow n is));
      since = rw held (elim (cases_eq (length (remove before c.args.index)) 0) [
        | inl e ↦ rw (nil_from_length (remove before c.args.index) e) tt
        | inr ne ↦ rw (c.since_if_any-self-inside.ensures (omega (
          arith,
          ap length held,
          length_held a.octets.items c.remove.new.self.items,
        ))) (all_remove (λ (p : Payload). (came : ℕ) → p.arrival.time ≡ Some came →
            a.since ≤ came) before c.args.index c.self.invariant.since)
      ]);
    }

pub returns-clause-held : goal.returns-clause-held
returns-clause-held c = rw (← c.self.view_is, c.remove.ensures.items)
    (remove_held c.self.inside.octets.items c.self.inside.waiting.items c.args.index)
