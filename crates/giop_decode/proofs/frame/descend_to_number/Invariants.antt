use Rattle.std.proofs.Common.{◌≡◌, ℕ, ◌-◌, ◌<◌, ◌++◌, length, Bool}
use Rattle.arrayvec.specs.ArrayVec.{array_vec_len}
use Rattle.giop_decode.specs.Begins.{start_outer, start_leaf}
use Rattle.giop_decode.specs.Transitions.{open_parts, any_encapsulation_ended, within_of, within_after_frame, AreKnown, Link, StandAt, tree_in}
use Rattle.giop_sig.specs.Fits.{IsFit}
use Rattle.giop_decode.proofs.frame.descend_to_number.Given as goal

abbrev pub invariant-loop-count : goal.invariant-loop-count
invariant-loop-count l = record {
  known : l.inner.0 < length l.catalogue.types;
  known_outer : AreKnown l.catalogue l.outer.items;
  fit : IsFit (24 - array_vec_len l.outer) (tree_in l.catalogue l.outer.items l.inner.0);
  placed : (at : ℕ) →
      open_parts l.catalogue at l.outer.items
      ++ start_outer (tree_in l.catalogue l.outer.items l.inner.0)
      ≡ open_parts l.catalogue at l.fn.outer.items
      ++ start_outer (tree_in l.catalogue l.fn.outer.items l.fn.t.0);
  ended : any_encapsulation_ended l.outer.items ≡ any_encapsulation_ended l.fn.outer.items;
  asked : (tells : Bool) × (l.inside ≡ within_after_frame tells l.fn.inside)
      × (within_of l.outer.items ≡ within_after_frame tells (within_of l.fn.outer.items));
  stand : (at : ℕ) → StandAt at l.fn.outer.items → StandAt at l.outer.items;
  leaf : start_leaf (tree_in l.catalogue l.outer.items l.inner.0)
      ≡ start_leaf (tree_in l.catalogue l.fn.outer.items l.fn.t.0);
  linked : (root : ℕ) → Link l.catalogue root l.fn.outer.items l.fn.t.0 →
      Link l.catalogue root l.outer.items l.inner.0;
}

abbrev pub decreases-loop-count : goal.decreases-loop-count
decreases-loop-count l = 24 - array_vec_len l.outer
