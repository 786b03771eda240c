use Rattle.std.proofs.Common.{arith}
use Rattle.tcp_streams.proofs.Placed.{pushed}
use Rattle.tcp_streams.proofs.places.push.Goals as goal

pub returns-clause-queue : goal.returns-clause-queue
returns-clause-queue c =
    let xs = c.args.ids.now.items in
    rw (c.note.ensures, c.push_reserved.ensures.items) (pushed c.args.flow c.len.result xs
    c.args.stamps.now.flows.items c.args.front.now.places c.args.front.now.count
    c.requires.queue c.requires.id c.requires.apart c.requires.room
    (omega arith))
