use Rattle.std.proofs.Common.{◌==◌}
use Rattle.giop_entry_table.proofs.IdLemmas.{position-behind}
use Rattle.giop_entry_table.proofs.ids.Ids.find.Goals as goal

pub returns-clause-value : goal.returns-clause-value
returns-clause-value c =
    let skips = position-behind (λ k. k == c.args.key) c.args.self.now.keys.items
    c.search_start.result
    c.search_start.ensures.within c.search_start.ensures.before in
    rw skips c.first_index_from.ensures.value
