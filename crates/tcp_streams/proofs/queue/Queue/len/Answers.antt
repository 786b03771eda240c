use Rattle.std.proofs.Common.{length, ap, arith}
use Rattle.tcp_streams.specs.Queue.{QueueView}
use Rattle.tcp_streams.proofs.Placed.{count_all, front_few}
use Rattle.tcp_streams.proofs.queue.Queue.len.Goals as goal

pub overflow_add-result : goal.overflow_add-result
overflow_add-result c =
    let a = c.self.inside in
    let h = c.self.invariant.queue in
    let few = front_few a.ids.items a.stamps.flows.items a.front.places a.front.count h in
    omega arith

pub returns-clause-live : goal.returns-clause-live
returns-clause-live c =
    let a = c.self.inside in
    let h = c.self.invariant.queue in
    let all = count_all a.ids.items a.front.places h.within h.whole in
    omega (arith, ap (λ (v : QueueView). length v.items) c.self.view_is)

pub returns-clause-few : goal.returns-clause-few
returns-clause-few c =
    let a = c.self.inside in
    let h = c.self.invariant.queue in
    let few = front_few a.ids.items a.stamps.flows.items a.front.places a.front.count h in
    omega arith
