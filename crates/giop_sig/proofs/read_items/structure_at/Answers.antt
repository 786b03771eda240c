use Rattle.std.proofs.Common.{◌≡◌, Ok, subst, arith}
use Rattle.giop_sig.specs.ItemReading.{announces_at}
use Rattle.giop_sig.proofs.AnnouncedLaws.{announces_third}
use Rattle.giop_sig.proofs.ItemTaken.{declared_takes}
use Rattle.giop_sig.proofs.read_items.structure_at.Goals as goal

pub announcement_at-requires-clause-third : goal.announcement_at-requires-clause-third
announcement_at-requires-clause-third c =
    announces_third c.args.draft.now c.in_ok-name.rest.now
    (subst (λ b. announces_at c.args.draft.now c.in_ok-name.rest.now ≡ Ok b) c.if-branch.true
    c.in_ok-announces_at.ensures)

pub announcement_at-requires-clause-short : goal.announcement_at-requires-clause-short
announcement_at-requires-clause-short c = (declared_takes c.args.draft.now _ _ _ _
    c.in_ok-name.ensures).short

pub structure_after-requires-clause-short : goal.structure_after-requires-clause-short
structure_after-requires-clause-short c =
    (declared_takes c.args.draft.now _ _ _ _ c.in_ok-name.ensures).short

pub structure_after-requires-clause-new : goal.structure_after-requires-clause-new
structure_after-requires-clause-new c =
    (declared_takes c.args.draft.now _ _ _ _ c.in_ok-name.ensures).new

pub structure_after-requires-clause-few : goal.structure_after-requires-clause-few
structure_after-requires-clause-few c =
    let few = (declared_takes c.args.draft.now _ _ _ _ c.in_ok-name.ensures).few in
    omega (arith, c.types_declared-count.ensures)
