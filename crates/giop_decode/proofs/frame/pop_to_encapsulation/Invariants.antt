use Rattle.std.proofs.Common.{◌≡◌, ℕ, ◌≤◌, List, []}
use Rattle.arrayvec.specs.ArrayVec.{array_vec_len}
use Rattle.giop_decode.specs.declared.frame.Within.{Within}
use Rattle.giop_decode.specs.declared.progress.ValueFault.TheVariants as kinds
use Rattle.giop_decode.specs.Fits.{OpenPartsFit}
use Rattle.giop_decode.specs.ReadResult.{Coding, PathSegment, Fault}
use Rattle.giop_decode.specs.ReadingSteps.{resume_outer}
use Rattle.giop_decode.specs.Transitions.{AreKnown, IsAtMost, Link, StandAt, within_of, open_parts}
use Rattle.giop_sig.specs.Table.{Table}
use Rattle.giop_sig.specs.Types.{Ty}
use Rattle.giop_decode.proofs.frame.pop_to_encapsulation.Given as goal

abbrev pub invariant-loop-frame : goal.invariant-loop-frame
invariant-loop-frame l = record {
  known : (C : Table) → AreKnown C l.fn.outer.items → AreKnown C l.outer.items;
  are_open : (C : Table) (at : ℕ) → OpenPartsFit 24 (open_parts C at l.fn.outer.items) →
      OpenPartsFit 24 (open_parts C at l.outer.items);
  fewer : array_vec_len l.outer ≤ array_vec_len l.fn.outer;
  most : (most : Within) → IsAtMost (within_of l.fn.outer.items) most →
      IsAtMost (within_of l.outer.items) most;
  stand : (at : ℕ) → StandAt at l.fn.outer.items → StandAt at l.outer.items;
  same : (C : Table) (coding : Coding) (path : List PathSegment) (at : ℕ) (T : Ty) →
      AreKnown C l.fn.outer.items →
      resume_outer coding path (open_parts C at l.fn.outer.items) (Fault [] at kinds.Untyped T)
      ≡ resume_outer coding path (open_parts C at l.outer.items) (Fault [] at kinds.Untyped T);
  linked : (C : Table) (root inner : ℕ) → Link C root l.fn.outer.items inner →
      (now : ℕ) × Link C root l.outer.items now;
}

abbrev pub decreases-loop-frame : goal.decreases-loop-frame
decreases-loop-frame l = array_vec_len l.outer
