use Rattle.std.proofs.Common.{ℕ, [], append-nil}
use Rattle.giop_sig.specs.Scopes.{first_scope}
use Rattle.giop_sig.specs.ScopeViews.{IsDraft}
use Rattle.giop_sig.proofs.Builtins.{first_is}
use Rattle.giop_sig.proofs.draft.Draft.new.Goals as goal

first : (version : ℕ) → IsDraft (first_scope version)
first version = record {
  scope = record { begins = ([], search (append-nil)); names = tt; announced = tt };
  table = first_is version;
}

pub invariant_of-result : goal.invariant_of-result
invariant_of-result c =
    rw (
      c.in_ok-types.ensures,
      c.in_ok-fronts.ensures,
      c.new.ensures.empty,
      c.new-2.ensures.empty,
      c.new-3.ensures,
      c.new-4.ensures.empty,
      c.new-5.ensures.empty,
      c.new-6.ensures.empty,
    ) (first c.args.version)
