use Rattle.std.proofs.Common.{subst}
use Rattle.giop_sig.specs.Scopes.{AddedType}
use Rattle.giop_sig.specs.ScopeViews.{IsKnown}
use Rattle.giop_tokens.proofs.ReaderLaws.{ok_is}
use Rattle.giop_sig.proofs.TypeTaken.{node_known}
use Rattle.giop_sig.proofs.read_items.type_end_at.Goals as goal

pub declare_type-requires-clause-known : goal.declare_type-requires-clause-known
declare_type-requires-clause-known c =
    subst (λ (q : AddedType). IsKnown (q.0).table.types q.1)
    (ok_is _ _ c.in_ok-t.ensures) (node_known c.args.draft.now _ c.requires.some)
