use Rattle.std.proofs.Common.{None, ap, ◌∙◌, arith}
use Rattle.std.specs.List.{last_or}
use Rattle.tcp_streams.specs.Queue.{QueueView}
use Rattle.tcp_streams.proofs.queue.Queue.last.Goals as goal

pub returns-clause-last : goal.returns-clause-last
returns-clause-last c = c.last_id.ensures.last
    ∙ ap (λ (v : QueueView). last_or None v.items) c.self.view_is

pub returns-clause-items : goal.returns-clause-items
returns-clause-items c = c.last_id.ensures.items
    ∙ ap (λ (v : QueueView). v.items) c.self.view_is

pub invariant_of-self : goal.invariant_of-self
invariant_of-self c = record {
  queue = c.last_id.ensures.queue c.self.inside.stamps.flows.items c.self.invariant.queue;
  room = omega arith;
}
