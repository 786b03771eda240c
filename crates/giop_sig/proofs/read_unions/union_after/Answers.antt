use Rattle.std.proofs.Common.{length, sym, subst, arith}
use Rattle.giop_sig.specs.Table.{IsFormed, TakesOctet}
use Rattle.giop_sig.specs.HeaderTypes.{IsAddable}
use Rattle.giop_sig.proofs.ItemTaken.{still_new}
use Rattle.giop_sig.proofs.IdentityLaws.{identity_takes, identity_still_new}
use Rattle.giop_sig.proofs.UnionDeclared.{union_formed, union_grows}
use Rattle.giop_sig.proofs.read_unions.union_after.Goals as goal

pub type_end_at-requires-clause-formed : goal.type_end_at-requires-clause-formed
type_end_at-requires-clause-formed c =
    let types = c.cases_at.new.draft.table.types in
    subst (IsFormed types (length types)) (sym c.in_ok-entry.ensures.ok)
    (union_formed c.args.draft.now _ _ _ _ c.in_ok-switch.ensures c.in_ok-cases.ensures
    c.laws.ensures.scope)

pub type_end_at-requires-clause-addable : goal.type_end_at-requires-clause-addable
type_end_at-requires-clause-addable c =
    subst (IsAddable c.cases_at.new.draft.table.version) (sym c.in_ok-entry.ensures.ok) tt

pub type_end_at-requires-clause-some : goal.type_end_at-requires-clause-some
type_end_at-requires-clause-some c = subst TakesOctet (sym c.in_ok-entry.ensures.ok) tt

pub type_end_at-requires-clause-new : goal.type_end_at-requires-clause-new
type_end_at-requires-clause-new c =
    still_new c.args.draft.now c.cases_at.new.draft _
    (union_grows c.args.draft.now _ _ _ _ c.in_ok-switch.ensures c.in_ok-cases.ensures)
    c.requires.new

pub type_end_at-requires-clause-few : goal.type_end_at-requires-clause-few
type_end_at-requires-clause-few c =
    let g = union_grows c.args.draft.now _ _ _ _ c.in_ok-switch.ensures c.in_ok-cases.ensures in
    let few = c.requires.few in omega (arith, g.declared)

pub type_end_at-requires-clause-identity : goal.type_end_at-requires-clause-identity
type_end_at-requires-clause-identity c =
    identity_still_new c.args.draft.now c.cases_at.new.draft _
    (union_grows c.args.draft.now _ _ _ _ c.in_ok-switch.ensures c.in_ok-cases.ensures)
    (identity_takes c.args.draft.now _ _ c.in_ok-id.ensures).new
