use Rattle.std.proofs.Common.{◌≡◌, ◌≤◌, ◌+◌, ◌-◌, length, drop}
use Rattle.tcp_waiting.specs.Payload.{load_of}
use Rattle.tcp_waiting.specs.Layout.{held_in}
use Rattle.tcp_waiting.proofs.pool.Pool.load_by_walk.Given as goal

abbrev pub invariant-loop-index : goal.invariant-loop-index
invariant-loop-index l = (l.index ≤ length l.self-inside.waiting.items)
    × (l.load + load_of l.flow
    (drop l.index (held_in l.self-inside.octets.items l.self-inside.waiting.items))
    ≡ load_of l.flow (held_in l.self-inside.octets.items l.self-inside.waiting.items))

abbrev pub decreases-loop-index : goal.decreases-loop-index
decreases-loop-index l = length l.self-inside.waiting.items - l.index
