use Rattle.std.proofs.Common.{◌≡◌, suc, ◌-◌, [], length, arith}
use Rattle.giop_decode.specs.ReadingSteps.{path_in}
use Rattle.giop_decode.specs.Transitions.{open_parts, switch_segment, tree_in}
use Rattle.giop_decode.proofs.Segments.{path_switch}
use Rattle.giop_decode.proofs.current_path.CurrentPathPosition.path.Goals as goal

pub returns : goal.returns
returns c =
    let here = c.self.inside in
    let outer = here.outer.now in
    let path = path_in [] (open_parts here.catalogue.now 0 outer) in
    let seg = switch_segment (tree_in here.catalogue.now outer c.in-Some.of.0) in
    let one : suc (23 - length outer) ≡ 24 - length outer =
    omega (arith, c.self.invariant.1) in
    rw (← c.self.view_is, c.in-Some.is) (path_switch here.head.now.root path seg _ _
    (rw c.root.ensures at (c.path_to_innermost-path.ensures.text 0))
    (rw one at (c.push_switch.ensures.text (23 - length outer))))
