use Rattle.std.proofs.Common.{ℕ, ◌+◌, refl, sym, ap, ◌∙◌}
use Rattle.giop_message.specs.Headers.{size}
use Rattle.giop_stream.specs.Rules.{rules_by}
use Rattle.giop_stream.specs.OpenSlots.{tracked_after}
use Rattle.giop_stream.specs.FramingView.{framing_view}
use Rattle.giop_print.proofs.Writing.{writes_failed}
use Rattle.giop_stream.proofs.CodeSteps.MessageOctets.{is_first, begun_does, begun_shows}
use Rattle.giop_stream.proofs.CodeSteps.MessageEnds.{on_err, ready_settled}
use Rattle.giop_stream.proofs.framing.Framing.begin_at_header_end.Goals as goal

pub returns-in_err-faults-clause-does : goal.returns-in_err-faults-clause-does
returns-in_err-faults-clause-does g c =
    λ l s m x r h e.
    let C = c.args.catalogue.now in
    let b = framing_view c.args.self.now in
    let asks = c.requires in
    let room = c.args.self.now.running asks.running in
    let known = c.current-now.ensures in
    let first = is_first C l c.args.self.now.slots.slots.most s r m h x b e asks.full asks.right
    asks.running room c.current-now.result known.number known.header known.place
    known.payload_count in
    let failed = c.from_residual.ensures.0 in
    begun_does C l c.args.self.now.slots.slots.most s r m h x b e asks.full asks.right asks.running
    room _ _ _ _
    (writes_failed c.from_residual.result (g.O.Out.log c.args.out.now)
    (g.O.Out.log c.take_header_end.new.out) _ failed
    ((c.in_err-faults.ensures.does l (tracked_after (rules_by C l c.args.self.now.slots.slots.most)
    r.stream) _ _ first).text))
    (on_err _ c.from_residual.result failed)

pub returns-clause-does : goal.returns-clause-does
returns-clause-does g c =
    λ l s m x r h e.
    let C = c.args.catalogue.now in
    let b = framing_view c.args.self.now in
    let asks = c.requires in
    let room = c.args.self.now.running asks.running in
    let known = c.current-now.ensures in
    let first = is_first C l c.args.self.now.slots.slots.most s r m h x b e asks.full asks.right
    asks.running room c.current-now.result known.number known.header known.place
    known.payload_count in
    let does = c.in_ok-faults.ensures.does l
    (tracked_after (rules_by C l c.args.self.now.slots.slots.most) r.stream) _ _ first in
    let faults = ap (λ (n : ℕ). b.totals.faults + n) (c.from.ensures ∙ sym does.faults) in
    begun_does C l c.args.self.now.slots.slots.most s r m h x b e asks.full asks.right asks.running
    room _ _ _ _ does.text
    (begun_shows C l c.args.self.now.slots.slots.most s r m h x b e asks.full asks.right
    asks.running room _
    (framing_view c.clear_if_complete.new.self) c.size_of.result c.clear_if_complete.ensures.state
    refl faults
    refl refl refl refl
    (c.size_of.ensures ∙ ap size known.header) does.kept)

pub returns-clause-ready : goal.returns-clause-ready
returns-clause-ready g c =
    ready_settled c.args.catalogue.now _
    (framing_view c.clear_if_complete.new.self) c.size_of.result c.current-now.result.place
    c.clear_if_complete.ensures.state c.current-now.ensures.place c.in_ok-faults.ensures.ready
