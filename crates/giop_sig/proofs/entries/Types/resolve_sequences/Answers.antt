use Rattle.std.proofs.Common.{map, sym, ap, subst, ◌∙◌}
use Rattle.giop_sig.specs.Scopes.{resolved_node}
use Rattle.giop_sig.specs.ScopeViews.{number_of_id}
use Rattle.giop_sig.specs.Views.{nodes_view, AreDepthsKept}
use Rattle.giop_sig.proofs.SettledEntries.{kept_settled, view_settled}
use Rattle.giop_sig.proofs.entries.Types.resolve_sequences.Goals as goal

pub invariant_of-self : goal.invariant_of-self
invariant_of-self c =
    subst (λ ps. AreDepthsKept ps c.self.inside.deepest) (sym c.resolve_entries.ensures)
    (kept_settled c.args.targets.now c.self.inside.placed.items c.self.inside.deepest
    c.self.invariant)

pub returns : goal.returns
returns c =
    ap nodes_view c.resolve_entries.ensures
    ∙ view_settled c.args.targets.now c.self.inside.placed.items
    ∙ ap (map (resolved_node (map number_of_id c.args.targets.now))) c.self.view_is
