use Rattle.std.proofs.Common.{true, false, refl, sym, subst, ◌∙◌}
use Rattle.std.specs.Prelude.{OnOk}
use Rattle.tcp_waiting.specs.Payload.{payload}
use Rattle.tcp_flow.specs.Flow.{with_event, delivered, looked_through, tail_continued_by}
use Rattle.tcp_flow.proofs.States.{by_state, on_ok_equal}
use Rattle.tcp_flow.proofs.Lefts.{whole_tail}
use Rattle.tcp_flow.proofs.Tails.{before_is, looked_vain, looked_begun}
use Rattle.tcp_flow.specs.State.{state, IsState}
use Rattle.tcp_flow.proofs.flow.FlowState.look_through.Goals as goal

pub join_to_tail-requires : goal.join_to_tail-requires
join_to_tail-requires g c = (before_is c.args.self.now.tail c.in-Some.tail c.args.number
    c.args.octets.now (sym c.tail_continued_by.ensures ∙ c.in-Some.is)).1

pub returns-in-Some-clause-does : goal.returns-in-Some-clause-does
unfolding looked_through
returns-in-Some-clause-does g c held f arrival h =
    let F = g.T.Listener.reader in
    let s = c.args.self.now in
    let n = c.args.number in
    let xs = c.args.octets.now in
    let p = payload s.id n xs arrival in
    let r = c.join_to_tail.result in
    by_state (λ f. OnOk r (IsState (g.T.Listener.observed c.join_to_tail.new.to)
    c.join_to_tail.new.self held (looked_through F f p (tail_continued_by f.tail n xs)))) _ s held f
    h
    (λ events o.
    on_ok_equal r _ _ held _ _ (rw (sym c.tail_continued_by.ensures ∙ c.in-Some.is) refl)
    (c.join_to_tail.ensures.does held (state s held events) arrival
    (record { observed = o; same = refl })))

pub returns-in-Some-stream_begin_in-clause-does : goal.returns-in-Some-stream_begin_in-clause-does
unfolding with_event delivered
returns-in-Some-stream_begin_in-clause-does g c held f arrival h =
    let F = g.T.Listener.reader in
    let s = c.args.self.now in
    let n = c.args.number in
    let xs = c.args.octets.now in
    let p = payload s.id n xs arrival in
    let r = c.deliver.result in
    by_state (λ f. OnOk r (IsState (g.T.Listener.observed c.deliver.new.to)
    c.deliver.new.self held (looked_through F f p (tail_continued_by f.tail n xs)))) _ s held f h
    (λ events o.
    let S = state s held events in
    let at = c.in-Some-stream_begin_in.at in
    let e = looked_begun F S p (tail_continued_by s.tail n xs) at
    (sym c.tail_continued_by.ensures ∙ c.in_default.is)
    (sym c.stream_begin_in.ensures.at ∙ c.in-Some-stream_begin_in.is) in
    on_ok_equal r _ _ held _ _
    (rw (whole_tail xs at, c.onward-number.ensures) (sym e))
    (c.deliver.ensures.does held _ arrival (c.in_ok-begin_stream.ensures.does held S
    (record { observed = o; same = refl }))))

pub returns-then-is_header_beginning-clause-does : goal.returns-then-is_header_beginning-clause-does
unfolding with_event
returns-then-is_header_beginning-clause-does g c held f arrival h =
    let F = g.T.Listener.reader in
    let s = c.args.self.now in
    let n = c.args.number in
    let xs = c.args.octets.now in
    let p = payload s.id n xs arrival in
    let G = IsState (g.T.Listener.observed c.on_looked_through.new.self) _ held in
    by_state (λ f. G (looked_through F f p (tail_continued_by f.tail n xs))) _ s held f h
    (λ events o.
    let S = state s held events in
    subst G (sym (looked_vain F S p (tail_continued_by s.tail n xs) true
    (sym c.tail_continued_by.ensures ∙ c.in_default.is)
    (sym c.stream_begin_in.ensures.at ∙ c.in_default-stream_begin_in.is)
    (sym c.is_header_beginning.ensures ∙ c.if-is_header_beginning.true)))
    (record { observed = c.on_looked_through.ensures events o; same = rw c.new.ensures refl }))

pub returns-else-is_header_beginning-clause-does : goal.returns-else-is_header_beginning-clause-does
unfolding with_event
returns-else-is_header_beginning-clause-does g c held f arrival h =
    let F = g.T.Listener.reader in
    let s = c.args.self.now in
    let n = c.args.number in
    let xs = c.args.octets.now in
    let p = payload s.id n xs arrival in
    let G = IsState (g.T.Listener.observed c.on_looked_through.new.self) s held in
    by_state (λ f. G (looked_through F f p (tail_continued_by f.tail n xs))) _ s held f h
    (λ events o.
    let S = state s held events in
    subst G (sym (looked_vain F S p (tail_continued_by s.tail n xs) false
    (sym c.tail_continued_by.ensures ∙ c.in_default.is)
    (sym c.stream_begin_in.ensures.at ∙ c.in_default-stream_begin_in.is)
    (sym c.is_header_beginning.ensures ∙ c.if-is_header_beginning.false)))
    (record { observed = c.on_looked_through.ensures events o; same = refl }))
