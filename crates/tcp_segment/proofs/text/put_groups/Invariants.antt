use Rattle.std.proofs.Common.{◌≡◌, ◌+◌, ◌*◌, ◌≤◌, ◌∷◌, ◌++◌, get_or, take}
use Rattle.arrayvec.specs.ArrayVec.{array_vec_len}
use Rattle.std.specs.Net.Text.{groups_text}
use Rattle.tcp_segment.proofs.text.put_groups.Given as goal

abbrev pub invariant-loop-group : goal.invariant-loop-group
invariant-loop-group l = record {
  items : l.out.items
      ≡ l.fn.out.items ++ groups_text (get_or l.groups 0 0 ∷ take l.group-index l.rest);
  len : array_vec_len l.out ≤ array_vec_len l.fn.out + 4 + 5 * l.group-index;
}
