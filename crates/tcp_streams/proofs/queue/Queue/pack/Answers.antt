use Rattle.std.proofs.Common.{ap, ◌∙◌}
use Rattle.tcp_streams.specs.Places.{ids_of}
use Rattle.tcp_streams.specs.Queue.{QueueView}
use Rattle.tcp_streams.proofs.Placed.{ids_only, all_ids}
use Rattle.tcp_streams.proofs.queue.Queue.pack.Goals as goal

pub returns : goal.returns
returns c = ap ids_of c.pack.ensures.items
    ∙ ids_only (ids_of c.self.inside.ids.items) (all_ids c.self.inside.ids.items)
    ∙ ap (λ (v : QueueView). v.items) c.self.view_is
