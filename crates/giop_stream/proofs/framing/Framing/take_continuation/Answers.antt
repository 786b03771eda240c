use Rattle.std.proofs.Common.{◌≡◌, ℕ, ◌+◌, List, [], ◌∷◌, ◌++◌, get_or, refl, sym, ap, ◌∙◌}
use Rattle.giop_message.specs.Headers.{size}
use Rattle.giop_stream.specs.FramingView.{framing_view}
use Rattle.giop_print.proofs.Writing.{writes_failed}
use Rattle.giop_stream.proofs.CodeSteps.FragmentSteps.{is_before, continuation_does, continuation_shows}
use Rattle.giop_stream.proofs.CodeSteps.MessageEnds.{on_err, ready_settled}
use Rattle.giop_stream.proofs.framing.Framing.take_continuation.Goals as goal

pub returns-in_err-faults-clause-does : goal.returns-in_err-faults-clause-does
returns-in_err-faults-clause-does g c =
    λ a s r h.
    let C = c.args.catalogue.now in
    let most = c.args.self.now.slots.slots.most in
    let m = framing_view c.args.self.now in
    let asks = c.requires in
    let known = c.current-now.ensures in
    let pushed : c.push.new.self.items ≡ m.header ++ asks.is.last ∷ [] =
    c.push.ensures.items ∙ ap (λ (xs : List ℕ). m.header ++ get_or xs 0 0 ∷ []) asks.is.parts in
    let before = is_before C a most s r m h c.args.octets.now c.args.found asks.running asks.limit
    asks.is
    c.current-now.result known.number (known.header ∙ pushed) known.place known.payload_count in
    let failed = c.from_residual.ensures.0 in
    continuation_does C a most s r m h c.args.octets.now c.args.found asks.running asks.limit
    asks.is _ _ _ _
    (writes_failed c.from_residual.result (g.O.Out.log c.args.out.now)
    (g.O.Out.log c.join_fragment.new.out) _ failed
    (c.in_err-faults.ensures.does a _ _ _ before).text)
    (on_err _ c.from_residual.result failed)

pub returns-clause-does : goal.returns-clause-does
returns-clause-does g c =
    λ a s r h.
    let C = c.args.catalogue.now in
    let most = c.args.self.now.slots.slots.most in
    let m = framing_view c.args.self.now in
    let asks = c.requires in
    let known = c.current-now.ensures in
    let pushed : c.push.new.self.items ≡ m.header ++ asks.is.last ∷ [] =
    c.push.ensures.items ∙ ap (λ (xs : List ℕ). m.header ++ get_or xs 0 0 ∷ []) asks.is.parts in
    let before = is_before C a most s r m h c.args.octets.now c.args.found asks.running asks.limit
    asks.is
    c.current-now.result known.number (known.header ∙ pushed) known.place known.payload_count in
    let does = c.in_ok-faults.ensures.does a _ _ _ before in
    let faults = ap (λ (n : ℕ). m.totals.faults + n) (c.from.ensures ∙ sym does.faults) in
    continuation_does C a most s r m h c.args.octets.now c.args.found asks.running asks.limit
    asks.is _ _ _ _ does.text
    (continuation_shows C a most s r m h c.args.octets.now c.args.found asks.running asks.limit
    asks.is _
    (framing_view c.clear_if_complete.new.self) c.size_of.result c.clear_if_complete.ensures.state
    refl faults
    refl refl pushed refl
    (c.size_of.ensures ∙ ap size (known.header ∙ pushed)) does.kept)

pub returns-clause-ready : goal.returns-clause-ready
returns-clause-ready g c =
    ready_settled c.args.catalogue.now _
    (framing_view c.clear_if_complete.new.self) c.size_of.result c.current-now.result.place
    c.clear_if_complete.ensures.state c.current-now.ensures.place
    c.in_ok-faults.ensures.ready
