use Rattle.std.proofs.Common.{◌≡◌, ◌≤◌, ◌-◌, ℕ, List, length, take, Some, None, sym, ap, subst, ◌∙◌, arith}
use Rattle.std.specs.List.{last_or, slice_get}
use Rattle.tcp_streams.specs.Lives.{most_ids}
use Rattle.tcp_streams.specs.Places.{IsQueue, ids_of}
use Rattle.tcp_streams.proofs.Last.{last_alive, last_dead, drop_dead}
use Rattle.tcp_streams.proofs.places.last_id.Goals as goal

pub returns-then-id-lt-MOST_IDS-clause-last : goal.returns-then-id-lt-MOST_IDS-clause-last
returns-then-id-lt-MOST_IDS-clause-last c =
    let xs : List ℕ = c.loop-id.ids.items in
    let e : slice_get xs (length xs - 1) ≡ Some c.in-Some.id =
    ap (λ (ys : List ℕ). slice_get ys (length ys - 1)) (sym c.deref.ensures.value)
    ∙ sym c.last.ensures.value ∙ sym c.copied.ensures ∙ c.in-Some.is in
    sym (last_alive xs c.in-Some.id e (omega arith))
    ∙ ap (λ (ys : List ℕ). last_or None ys) c.loop-id.invariant.items

pub loop-id-preserved : goal.loop-id-preserved
loop-id-preserved c =
    let xs : List ℕ = c.loop-id.ids.items in
    let e : slice_get xs (length xs - 1) ≡ Some c.in-Some.id =
    ap (λ (ys : List ℕ). slice_get ys (length ys - 1)) (sym c.deref.ensures.value)
    ∙ sym c.last.ensures.value ∙ sym c.copied.ensures ∙ c.in-Some.is in
    let dead : most_ids ≤ c.in-Some.id = omega arith in
    let rest : List ℕ = take (length xs - 1) xs in
    let kept : c.pop.new.self.items ≡ rest =
    c.pop.ensures.rest ∙ ap (λ (n : ℕ). take (n - 1) xs) (omega arith) in
    let many : length rest ≡ c.len-front.result =
    omega (arith, ap length kept) in
    record {
      items = ap ids_of kept ∙ last_dead xs c.in-Some.id e dead ∙ c.loop-id.invariant.items;
      queue = λ stamps h.
          subst (λ (ys : List ℕ). IsQueue ys stamps c.len-front.result c.loop-id.front.count)
          (sym kept)
          (subst (λ (n : ℕ). IsQueue rest stamps n c.loop-id.front.count) many
          (drop_dead xs stamps c.in-Some.id c.loop-id.front.places c.loop-id.front.count e dead
          (c.loop-id.invariant.queue stamps h)));
      room = c.pop.ensures.capacity ∙ c.loop-id.invariant.room;
    }
