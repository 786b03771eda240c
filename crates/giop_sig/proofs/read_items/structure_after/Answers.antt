use Rattle.std.proofs.Common.{arith}
use Rattle.giop_sig.proofs.IdentityLaws.{identity_takes, identity_still_new}
use Rattle.giop_sig.proofs.ItemTaken.{struct_formed, struct_takes, members_grow, still_new}
use Rattle.giop_sig.proofs.read_items.structure_after.Goals as goal

pub type_end_at-requires-clause-formed : goal.type_end_at-requires-clause-formed
type_end_at-requires-clause-formed c = struct_formed c.args.draft.now _ _ c.in_ok-parts.ensures
    c.laws.ensures.scope

pub type_end_at-requires-clause-some : goal.type_end_at-requires-clause-some
type_end_at-requires-clause-some c = struct_takes c.args.draft.now _ _ _ c.in_ok-rest-2.ensures
    c.in_ok-parts.ensures

pub type_end_at-requires-clause-new : goal.type_end_at-requires-clause-new
type_end_at-requires-clause-new c =
    still_new c.args.draft.now c.members_at.new.draft _
    (members_grow c.args.draft.now _ _ c.in_ok-parts.ensures) c.requires.new

pub type_end_at-requires-clause-few : goal.type_end_at-requires-clause-few
type_end_at-requires-clause-few c =
    let g = members_grow c.args.draft.now _ _ c.in_ok-parts.ensures in
    let few = c.requires.few in omega (arith, g.declared)

pub type_end_at-requires-clause-identity : goal.type_end_at-requires-clause-identity
type_end_at-requires-clause-identity c =
    identity_still_new c.args.draft.now c.members_at.new.draft _
    (members_grow c.args.draft.now _ _ c.in_ok-parts.ensures)
    (identity_takes c.args.draft.now _ _ c.in_ok-id.ensures).new
