use Rattle.std.proofs.Common.{arith}
use Rattle.giop_print.proofs.Blocks.{text_size}
use Rattle.giop_print.proofs.head.Head.put.Goals as goal

pub returns-clause-room : goal.returns-clause-room
returns-clause-room c =
    let size = text_size c.self.inside.octets _ c.self.inside.count c.self.told c.self.invariant.0
    c.self.invariant.1 in
    rw (← c.self.view_is)
    (omega (arith, size, c.from.ensures, c.put_blocks.ensures.room))
