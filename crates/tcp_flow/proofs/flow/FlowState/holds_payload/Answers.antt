use Rattle.std.proofs.Common.{◌≡◌, ◌≤◌, ◌∷◌, [], List, length, is_some, ℕ, nat_lt, refl, arith}
use Rattle.tcp_waiting.specs.Payload.{Payload, oldest_index}
use Rattle.tcp_flow.proofs.flow.FlowState.holds_payload.Goals as goal

none_first : (id next : ℕ) (held : List Payload) → length held ≤ 0 →
    nat_lt 0 (length held) ≡ is_some (oldest_index id next held)
unfolding oldest_index
none_first id next [] none = refl
none_first id next (p ∷ ps) none = absurd (omega (arith, none))

pub returns-else-len-gt0 : goal.returns-else-len-gt0
returns-else-len-gt0 c = rw c.len.ensures.held (none_first c.args.self.now.id c.args.self.now.next
    c.args.pool.now.held (rw c.len.ensures.held at c.if-len-gt0.false))
