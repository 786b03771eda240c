use Rattle.std.proofs.Common.{ℕ, sym, ap, ◌∙◌}
use Rattle.tcp_streams.specs.Lives.{elder_side}
use Rattle.tcp_streams.specs.Places.{place_of}
use Rattle.tcp_streams.specs.Queue.{QueueView}
use Rattle.tcp_streams.proofs.Placed.{elder_is}
use Rattle.tcp_streams.proofs.queue.Queue.elder_side.Goals as goal

pub returns : goal.returns
returns c =
    let xs = c.self.inside.ids.items in
    let at = λ (n : ℕ). place_of n xs in
    c.first_side.ensures ∙ sym (elder_is c.args.slot xs _ _
    (ap at (sym c.flow_id-lesser.ensures.id) ∙ sym c.place_of.ensures)
    (ap at (sym c.flow_id-greater.ensures.id) ∙ sym c.place_of-2.ensures))
    ∙ ap (λ (v : QueueView). elder_side c.args.slot v.items) c.self.view_is
