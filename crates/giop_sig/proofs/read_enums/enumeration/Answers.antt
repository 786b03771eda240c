use Rattle.std.proofs.Common.{length, map, sym, ap, subst, ◌∙◌, arith}
use Rattle.giop_sig.specs.Table.{IsFormed}
use Rattle.giop_sig.specs.Table as nodes
use Rattle.giop_sig.proofs.ItemTaken.{declared_takes}
use Rattle.giop_sig.proofs.IdentityLaws.{identity_takes}
use Rattle.giop_sig.proofs.EnumLaws.{all_names_taken}
use Rattle.giop_sig.proofs.read_enums.enumeration.Goals as goal

pub type_end_at-requires-clause-formed : goal.type_end_at-requires-clause-formed
type_end_at-requires-clause-formed c =
    let types = c.args.draft.now.table.types in
    let k = (all_names_taken _ _ c.in_ok-names.ensures).fits in
    subst (λ names. IsFormed types (length types) (nodes.enumeration names))
    (sym (c.in_ok-kept.ensures ∙ ap (map (λ n. n.now)) c.as_slice.ensures.value)) (k.few, k.short)

pub type_end_at-requires-clause-short : goal.type_end_at-requires-clause-short
type_end_at-requires-clause-short c = (declared_takes c.args.draft.now _ _ _ _
    c.in_ok-name.ensures).short

pub type_end_at-requires-clause-new : goal.type_end_at-requires-clause-new
type_end_at-requires-clause-new c =
    (declared_takes c.args.draft.now _ _ _ _ c.in_ok-name.ensures).new

pub type_end_at-requires-clause-few : goal.type_end_at-requires-clause-few
type_end_at-requires-clause-few c =
    let few = (declared_takes c.args.draft.now _ _ _ _ c.in_ok-name.ensures).few in
    omega (arith, c.types_declared-count.ensures)

pub type_end_at-requires-clause-identity : goal.type_end_at-requires-clause-identity
type_end_at-requires-clause-identity c =
    (identity_takes c.args.draft.now _ _ c.in_ok-id.ensures).new
