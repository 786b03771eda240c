use Rattle.std.proofs.Common.{[], sym, ap, ◌∙◌}
use Rattle.tcp_flow.specs.Flow.{Begins}
use Rattle.tcp_streams.specs.Lives.{lives_behind, with_begun}
use Rattle.tcp_streams.proofs.Order.{lives_more}
use Rattle.tcp_streams.proofs.Told.{told}
use Rattle.tcp_streams.proofs.streams.StreamsListener.on_begin.Goals as goal

pub returns-clause-does : goal.returns-clause-does
unfolding lives_behind
returns-clause-does g c events o =
    told c.on_begin.result _ _ (c.on_begin.ensures.does events o.0)
    (c.begin.ensures ∙ ap (with_begun c.args.flow) o.1
    ∙ sym (lives_more [] events (Begins c.args.flow c.args.start)))
