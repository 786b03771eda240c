use Rattle.std.proofs.Common.{map, ap, ◌∙◌}
use Rattle.giop_sig.specs.ScopeViews.{number_of_id}
use Rattle.giop_sig.proofs.SettledEntries.{if_ok, targets_found}
use Rattle.giop_sig.proofs.draft.Draft.types_of_announced.Goals as goal

pub returns-clause-ok : goal.returns-clause-ok
returns-clause-ok c =
    let i = c.self.inside in
    if_ok _ _ c.declared_types.result
    (λ ts is. ap (map number_of_id) is
    ∙ targets_found c.args.self.now i.version _ i.names.entries i.announced.entries c.self.view_is)
    c.declared_types.ensures.ok
