use Rattle.std.proofs.Common.{ap, ◌∙◌}
use Rattle.tcp_streams.specs.Places.{ids_of}
use Rattle.tcp_streams.proofs.Placed.{ids_only, all_ids}
use Rattle.tcp_streams.proofs.places.make_free_place.Goals as goal

pub returns-then-len-ge-PLACES-clause-items : goal.returns-then-len-ge-PLACES-clause-items
returns-then-len-ge-PLACES-clause-items c = ap ids_of c.pack.ensures.items
    ∙ ids_only (ids_of c.args.ids.now.items) (all_ids c.args.ids.now.items)
