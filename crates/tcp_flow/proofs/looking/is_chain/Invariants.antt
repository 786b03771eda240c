use Rattle.std.proofs.Common.{◌≡◌, ◌≤◌, ℕ, length}
use Rattle.tcp_flow.specs.Flow.{chain_from, is_chain}
use Rattle.tcp_flow.proofs.looking.is_chain.Given as goal

abbrev pub invariant-loop-rest : goal.invariant-loop-rest
invariant-loop-rest l = (count : ℕ)
    × ((length l.rest ≤ count) × (chain_from count l.whole l.rest ≡ is_chain l.octets))

abbrev pub decreases-loop-rest : goal.decreases-loop-rest
decreases-loop-rest l = length l.rest
