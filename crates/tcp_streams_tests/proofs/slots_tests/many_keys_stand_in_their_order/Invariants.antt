use Rattle.std.proofs.Common.{◌≡◌}
use Rattle.tcp_streams_tests.proofs.slots_tests.many_keys_stand_in_their_order.Given as goal

abbrev pub invariant-loop-slot : goal.invariant-loop-slot
invariant-loop-slot g l = l.table.most ≡ 9001
