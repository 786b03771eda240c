use Rattle.std.proofs.Common.{◌≡◌, ◌≤◌, ◌+◌, ◌++◌, length, drop}
use Rattle.giop_decode.specs.Segments.{frames_text}
use Rattle.giop_print.specs.Line.{line_text, line_room}
use Rattle.giop_decode.proofs.current_path.spell_segments.Given as goal

abbrev pub invariant-loop-left : goal.invariant-loop-left
invariant-loop-left l = record {
  text : line_text l.line ≡ frames_text l.catalogue (drop l.left l.outer)
      ++ line_text l.initial.line;
  room : line_room l.line + length (frames_text l.catalogue (drop l.left l.outer))
      ≡ line_room l.initial.line;
  within : l.left ≤ length l.outer;
}

abbrev pub decreases-loop-left : goal.decreases-loop-left
decreases-loop-left l = l.left
