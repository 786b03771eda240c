use Rattle.std.proofs.Common.{◌≡◌, ◌<◌, arith, refl, replicate}
use Rattle.std.proofs.lemmas.List.{get_or-replicate}
use Rattle.tcp_waiting.specs.Payload.{blocks_of, load_of}
use Rattle.tcp_waiting.specs.Layout.{AreOrdered, holds_beyond_window_but}
use Rattle.tcp_waiting.proofs.pool.Pool.new.Goals as goal

pub invariant_of-result : goal.invariant_of-result
unfolding blocks_of load_of AreOrdered holds_beyond_window_but
invariant_of-result c = record {
  within = rw c.in_ok-waiting.ensures.empty tt;
  roomy = record {
    most = c.requires.blocks;
    places = omega (arith, c.in_ok-waiting.ensures.room);
    octets = omega (arith, c.in_ok-octets.ensures.exact);
    spare = omega (arith, c.in_ok-spare.ensures.exact);
    fits = rw c.in_ok-octets.ensures.items (omega arith);
  };
  ordered = rw c.in_ok-waiting.ensures.empty tt;
  small = rw c.in_ok-waiting.ensures.empty tt;
  used = rw c.in_ok-waiting.ensures.empty refl;
  loads = λ flow l.
      (let zeros : c.in_ok-loads.loads.items ≡ replicate c.args.flows 0 =
      c.in_ok-loads.ensures.items_if_clones_equal (λ y h. h) in
      let few : flow < c.args.flows = omega (arith, l, c.in_ok-loads.ensures.len) in
      rw (zeros, c.in_ok-waiting.ensures.empty) (get_or-replicate c.args.flows flow 0 0 few));
  nears = λ flow n is. rw c.in_ok-waiting.ensures.empty refl;
  since = rw c.in_ok-waiting.ensures.empty tt;
}
