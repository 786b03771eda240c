use Rattle.std.proofs.Common.{◌≡◌, ◌-◌}
use Rattle.tcp_segment.specs.Datagrams.{behind_extensions}
use Rattle.tcp_segment.proofs.datagram.behind_extensions.Given as goal

abbrev pub invariant-loop : goal.invariant-loop
invariant-loop l =
    behind_extensions 8 l.header l.octets ≡ behind_extensions (8 - l.counter) l.next l.behind
