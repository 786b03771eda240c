use Rattle.std.proofs.Common.{◌≡◌}
use Rattle.tcp_streams_tests.proofs.slots_tests.the_key_of_a_slot_stands_at_its_index.Given as goal

abbrev pub invariant-loop-key : goal.invariant-loop-key
invariant-loop-key g l = l.table.most ≡ 4
