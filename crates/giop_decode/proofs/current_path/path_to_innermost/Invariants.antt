use Rattle.std.proofs.Common.{◌≡◌, ◌≤◌, ℕ, [], take}
use Rattle.giop_decode.specs.Spelling.{path_text}
use Rattle.giop_decode.specs.ReadingSteps.{path_in}
use Rattle.giop_decode.specs.Transitions.{open_parts}
use Rattle.giop_decode.proofs.current_path.path_to_innermost.Given as goal

abbrev pub invariant-loop-frame : goal.invariant-loop-frame
invariant-loop-frame l = record {
  text : (here : ℕ) → l.path.text ≡ path_text l.fn.root
      (path_in [] (open_parts l.catalogue here (take l.frame-index l.outer)));
  segments : l.path.segments ≤ l.frame-index;
}
