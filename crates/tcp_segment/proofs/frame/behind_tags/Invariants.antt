use Rattle.std.proofs.Common.{◌≡◌, ◌-◌}
use Rattle.tcp_segment.specs.Frames.{behind_tags}
use Rattle.tcp_segment.proofs.frame.behind_tags.Given as goal

abbrev pub invariant-loop : goal.invariant-loop
invariant-loop l = behind_tags 4 l.kind l.octets ≡ behind_tags (4 - l.counter) l.next l.behind
