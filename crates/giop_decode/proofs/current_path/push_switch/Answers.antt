use Rattle.std.proofs.Common.{◌≡◌, ℕ, suc, ◌∙◌, Some, None}
use Rattle.std.specs.Prelude.{codes}
use Rattle.giop_decode.proofs.Segments.{switch_kind, switch_plain}
use Rattle.giop_decode.specs.ReadResult.{Switch}
use Rattle.giop_decode.specs.Transitions.{switch_segment}
use Rattle.giop_sig.specs.Trees.{tree, tree_at}
use Rattle.giop_decode.proofs.current_path.push_switch.Goals as goal

pub returns-in-Marked : goal.returns-in-Marked
returns-in-Marked c =
    let C = c.args.catalogue.now in
    let is : (n : ℕ) → switch_segment (tree_at C (suc n) c.args.of.0)
    ≡ Switch (Some (codes "kind")) =
    λ n. switch_kind (tree_at C (suc n) c.args.of.0) (tree C c.switch_type.result.0)
    c.in-Union.field-0 c.in-Marked.field-0 (c.in-Union.ensures.shapes (suc n))
    (c.switch_type.ensures.rooms 24 n) c.in-Marked.ensures.shape in
    record { text = λ n. rw (is n) c.push_name.ensures.text }

pub returns-in_default-shape : goal.returns-in_default-shape
returns-in_default-shape c =
    let C = c.args.catalogue.now in
    let is : (n : ℕ) → switch_segment (tree_at C (suc n) c.args.of.0) ≡ Switch None =
    λ n. switch_plain (tree_at C (suc n) c.args.of.0) (tree C c.switch_type.result.0)
    c.in-Union.field-0 (c.in-Union.ensures.shapes (suc n)) (c.switch_type.ensures.rooms 24 n)
    (λ mark e. c.in_default-shape.not-Marked mark (c.shape-in-Union.ensures.tree ∙ e)) in
    record { text = λ n. rw (is n) c.push_name-in_default-shape.ensures.text }
