use Rattle.std.proofs.Common.{sym, ◌∙◌}
use Rattle.tcp_flow.proofs.Tails.{before_some, before_other, before_none}
use Rattle.tcp_flow.proofs.flow.FlowState.tail_continued_by.Goals as goal

pub returns-in_err-tail : goal.returns-in_err-tail
returns-in_err-tail c = c.from_residual.ensures
    ∙ sym (before_none c.args.self.now.tail c.args.number c.args.octets.now c.in_err-tail.was)

pub returns-then-is_continued_by : goal.returns-then-is_continued_by
returns-then-is_continued_by c =
    sym (before_some c.args.self.now.tail c.in_ok-tail.tail c.args.number c.args.octets.now
    c.in_ok-tail.was (sym c.is_continued_by.ensures ∙ c.if-is_continued_by.true))

pub returns : goal.returns
returns c =
    sym (before_other c.args.self.now.tail c.in_ok-tail.tail c.args.number c.args.octets.now
    c.in_ok-tail.was (sym c.is_continued_by.ensures ∙ c.if-is_continued_by.false))
