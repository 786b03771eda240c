use Rattle.std.proofs.Common.{◌≡◌, ◌∙◌, refl, sym, ap}
use Rattle.std.proofs.Math.Path.{fun_ext}
use Rattle.giop_entry_table.specs.EntryTable as by_ids
use Rattle.giop_entry_table.specs.OptionalIds.{OptionalIdEntries, replace_value}
use Rattle.giop_entry_table.specs.OptionalIdsView.{with_optional_ids}
use Rattle.giop_entry_table.proofs.OptionalIdLemmas.{length-revalued, optional-revalued, value-optional}
use Rattle.giop_entry_table.proofs.optional_ids.OptionalIdTable.get_mut.Goals as goal

pub invariant_of-self-lent : goal.invariant_of-self-lent
invariant_of-self-lent g c o = (
  λ w. rw (length-revalued c.self.inside.table.entries c.args.index w) c.self.invariant,
  c.self.invariant,
)

pub returns : goal.returns
returns g c =
    let table = c.self.inside.table in
    let index = c.self.inside.without_id in
    let lent : g.row.V.Denot → OptionalIdEntries g.row.V.Denot =
    λ w. record {
      most = table.most;
      entries = with_optional_ids index (by_ids.replace_value table.entries c.args.index w);
    } in
    let written : g.row.V.Denot → OptionalIdEntries g.row.V.Denot =
    λ w. record {
      most = table.most;
      entries = replace_value (with_optional_ids index table.entries) c.args.index w;
    } in
    let same : lent ≡ written = fun_ext (λ w. ap (λ es. record { most = table.most; entries = es })
    (optional-revalued index table.entries c.args.index w)) in (
      rw (← c.self.view_is, same) refl,
      record {
        writes_back = tt;
        value = rw (← c.self.view_is)
            (c.get_mut.ensures.value ∙ sym (value-optional index table.entries c.args.index));
      },
    )
