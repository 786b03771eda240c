use Rattle.std.proofs.Common.{sym, ap, ◌∙◌}
use Rattle.std.specs.Option.{is_some}
use Rattle.giop_sig.specs.Table.{identity_type_at}
use Rattle.giop_sig.specs.Scopes.{Scope}
use Rattle.giop_sig.proofs.Finds.{identity_index}
use Rattle.giop_sig.proofs.ScopeLaws.{some_map}
use Rattle.giop_sig.proofs.draft.Draft.has_identity.Goals as goal

pub returns : goal.returns
returns c =
    let key = rw c.unwrap-key.ensures at c.try_from.ensures in
    let t = c.args.self.now.table in
    c.is_some.ensures ∙ sym (some_map (identity_type_at t) c.get_index_of.result)
    ∙ ap is_some (identity_index c.self.inside.identities.entries t
    c.unwrap-key.result.items c.args.id.now c.get_index_of.result
    (ap (λ (s : Scope). s.table.identities) c.self.view_is) key.0 c.get_index_of.ensures.index)
