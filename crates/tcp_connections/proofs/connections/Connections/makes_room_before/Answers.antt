use Rattle.std.proofs.Common.{[], arith}
use Rattle.tcp_connections.specs.State.{state_of}
use Rattle.tcp_connections.proofs.Sound.{slot_below}
use Rattle.tcp_connections.proofs.connections.Connections.makes_room_before.Goals as goal

pub makes_room_before-requires-clause-slot : goal.makes_room_before-requires-clause-slot
makes_room_before-requires-clause-slot c =
    let b = slot_below (state_of c.args.self.now []) c.args.index c.requires.sound
    (omega (arith, c.requires.index)) in
    omega (arith, b, c.slot.ensures, c.args.self.now.flows.stamps.last.ok.0)

pub makes_room_before-requires-clause-other : goal.makes_room_before-requires-clause-other
makes_room_before-requires-clause-other c =
    let b = slot_below (state_of c.args.self.now []) c.args.other c.requires.sound
    (omega (arith, c.requires.other)) in
    omega (arith, b, c.slot-2.ensures, c.args.self.now.flows.stamps.last.ok.0)
