use Rattle.std.proofs.Common.{◌≤◌, ◌-◌, length}
use Rattle.tcp_streams.specs.Stamped.{AreStamped}
use Rattle.tcp_streams.proofs.places.stamp.Given as goal

abbrev pub invariant-loop-index : goal.invariant-loop-index
invariant-loop-index l =
    (l.index ≤ length l.ids.items) × AreStamped l.stamps.flows.items l.ids.items

abbrev pub decreases-loop-index : goal.decreases-loop-index
decreases-loop-index l = length l.ids.items - l.index
