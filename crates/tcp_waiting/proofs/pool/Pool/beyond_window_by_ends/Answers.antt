use Rattle.std.proofs.Common.{refl, sym, ◌∙◌}
use Rattle.tcp_waiting.proofs.Ends.{far_by}
use Rattle.tcp_waiting.proofs.pool.Pool.beyond_window_by_ends.Goals as goal

pub returns-then-ends_beyond_window : goal.returns-then-ends_beyond_window
returns-then-ends_beyond_window c = sym (far_by c.args.flow c.args.next c.in-Some.last.number
    c.in-Some.last.count c.args.self.now.held c.in-Some.ensures
    ∙ rw (sym c.ends_beyond_window.ensures ∙ c.if-ends_beyond_window.true)
    (sym c.holds_as_long.ensures))

pub returns-else-ends_beyond_window : goal.returns-else-ends_beyond_window
returns-else-ends_beyond_window c = c.if-ends_beyond_window.false
    ∙ sym (far_by c.args.flow c.args.next
    c.in-Some.last.number c.in-Some.last.count c.args.self.now.held c.in-Some.ensures
    ∙ rw (sym c.ends_beyond_window.ensures ∙ c.if-ends_beyond_window.false) refl)
