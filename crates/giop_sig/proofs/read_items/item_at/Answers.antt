use Rattle.giop_sig.proofs.TypeTaken.{type_takes}
use Rattle.giop_sig.proofs.read_items.item_at.Goals as goal

pub add_arrays-requires-clause-known : goal.add_arrays-requires-clause-known
add_arrays-requires-clause-known c = ((type_takes c.args.draft.now _ _
    c.in_ok-element.ensures).sound c.laws.ensures.scope).known
