use Rattle.std.proofs.Common.{sym, ◌∙◌, true≢false}
use Rattle.tcp_flow.proofs.Early.{timeless_kept, young_kept}
use Rattle.tcp_flow.proofs.hearing.Heard.surely_gives_up_nothing.Goals as goal

pub returns-then-acknowledges : goal.returns-then-acknowledges
returns-then-acknowledges c h = absurd (true≢false (sym h))

pub returns-in-Some : goal.returns-in-Some
returns-in-Some c h =
    young_kept c.args.self.now c.args.next c.in-Some.time c.args.pool.now.held
    (sym c.acknowledges.ensures ∙ c.if-acknowledges.false) c.in-Some.is
    (c.surely_younger.ensures h)

pub returns-in-None : goal.returns-in-None
returns-in-None c h =
    timeless_kept c.args.self.now c.args.next c.args.pool.now.held
    (sym c.acknowledges.ensures ∙ c.if-acknowledges.false) c.in-None.is
