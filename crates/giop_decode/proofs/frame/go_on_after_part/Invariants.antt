use Rattle.std.proofs.Common.{◌≡◌, ℕ, List, []}
use Rattle.arrayvec.specs.ArrayVec.{array_vec_len}
use Rattle.giop_decode.specs.ReadResult.{Coding, PathSegment, Done}
use Rattle.giop_decode.specs.ReadingSteps.{resume_outer}
use Rattle.giop_decode.specs.Fits.{OpenPartsFit}
use Rattle.giop_decode.specs.Transitions.{open_parts, within_of, AreKnown, IsAtMost, Link, StandAt}
use Rattle.giop_decode.specs.declared.frame.Within.{Within}
use Rattle.giop_decode.specs.Reading.{none_left, done_if_untyped}
use Rattle.giop_decode.proofs.frame.go_on_after_part.Given as goal

abbrev pub invariant-loop-frame : goal.invariant-loop-frame
invariant-loop-frame l = record {
  known : AreKnown l.catalogue l.outer.items;
  are_open : (at : ℕ) × OpenPartsFit 24 (open_parts l.catalogue at l.outer.items);
  asked : l.inside ≡ l.fn.inside;
  most : (most : Within) → IsAtMost (within_of l.fn.outer.items) most →
      IsAtMost (within_of l.outer.items) most;
  stand : (at : ℕ) → StandAt at l.fn.outer.items → StandAt at l.outer.items;
  same : (coding : Coding) (path : List PathSegment) (at : ℕ) →
      done_if_untyped none_left (resume_outer coding path
      (open_parts l.catalogue at l.fn.outer.items)
      (Done [] at [])) ≡ done_if_untyped none_left (resume_outer coding path
      (open_parts l.catalogue at l.outer.items) (Done [] at []));
  linked : (root inner : ℕ) → Link l.catalogue root l.fn.outer.items inner →
      (now : ℕ) × Link l.catalogue root l.outer.items now;
}

abbrev pub decreases-loop-frame : goal.decreases-loop-frame
decreases-loop-frame l = array_vec_len l.outer
