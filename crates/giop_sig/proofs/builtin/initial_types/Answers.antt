use Rattle.std.proofs.Common.{◌<◌, ◌++◌, ◌∷◌, [], take, sym, ap, subst, ◌∙◌}
use Rattle.std.proofs.lemmas.List.{take_more}
use Rattle.giop_cdr.specs.declared.prim.Primitive.TheVariants.{Octet}
use Rattle.giop_sig.specs.Table as nodes
use Rattle.giop_sig.specs.Views.{node_view}
use Rattle.giop_sig.specs.AnyTypes.{first_types}
use Rattle.giop_sig.proofs.Builtins.{first_are, next_formed, next_few}
use Rattle.giop_sig.proofs.builtin.initial_types.Goals as goal

pub add-requires-clause-formed : goal.add-requires-clause-formed
add-requires-clause-formed c =
    let below = subst (λ n. c.loop-number.number < n) c.initial_type_count-number-end.ensures
    c.loop-number-test.true in
    next_formed (first_types c.args.version) c.loop-number.number c.loop-number.types
    (node_view c.in_ok-entry.entry) (first_are c.args.version).placed below
    c.loop-number.invariant (c.in_ok-entry.ensures ∙ c.literal_in_version.ensures)

pub add-requires-clause-few : goal.add-requires-clause-few
add-requires-clause-few c =
    let below = subst (λ n. c.loop-number.number < n) c.initial_type_count-number-end.ensures
    c.loop-number-test.true in
    next_few (first_types c.args.version) c.loop-number.number c.loop-number.types
    (first_are c.args.version).placed below c.loop-number.invariant

pub loop-number-preserved : goal.loop-number-preserved
loop-number-preserved c =
    let below = subst (λ n. c.loop-number.number < n) c.initial_type_count-number-end.ensures
    c.loop-number-test.true in
    c.in_ok-add.ensures.added ∙ ap (λ types. types ++ node_view c.in_ok-entry.entry ∷ [])
    c.loop-number.invariant
    ∙ ap (λ node. take c.loop-number.number (first_types c.args.version) ++ node ∷ [])
    (c.in_ok-entry.ensures ∙ c.literal_in_version.ensures)
    ∙ sym (take_more (first_types c.args.version) c.loop-number.number (nodes.prim Octet) below)
