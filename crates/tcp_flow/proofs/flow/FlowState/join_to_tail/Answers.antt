use Rattle.std.proofs.Common.{◌≡◌, ◌+◌, ◌∷◌, ◌++◌, ℕ, List, [], true, false, nat_lt, length, refl, sym, ap, subst, ◌∙◌, arith}
use Rattle.std.specs.Prelude.{OnOk}
use Rattle.std.proofs.lemmas.Bool.{lt-ltb, le-ltb}
use Rattle.tcp_waiting.specs.Payload.{payload}
use Rattle.tcp_flow.specs.Flow.{Flow, Passes, OfCapture, lives, with_event, started, delivered, all_delivered, cut_up, first_five, joined_to_tail, parts_of}
use Rattle.tcp_flow.proofs.States.{by_state, on_ok_equal}
use Rattle.tcp_flow.proofs.Tails.{rejoined_vain, rejoined_begun, last_live, all_dead, together}
use Rattle.tcp_flow.specs.State.{state, IsState}
use Rattle.tcp_flow.proofs.flow.FlowState.join_to_tail.Goals as goal

pub returns-then-count-lt6-clause-does : goal.returns-then-count-lt6-clause-does
unfolding with_event
returns-then-count-lt6-clause-does g c held f arrival h =
    let F = g.T.Listener.reader in
    let s = c.args.self.now in
    let t = c.args.tail in
    let xs = c.args.octets.now in
    let p = payload s.id c.args.number xs arrival in
    let O = g.T.Listener.observed c.on_looked_through.new.self in
    let G = IsState O _ held in
    let few : nat_lt (t.octets + length xs) 6 ≡ true =
    lt-ltb (t.octets + length xs) 6 c.if-count-lt6.true in
    let both = together t c.args.number xs c.requires (omega (arith, c.if-count-lt6.true)) in
    by_state (λ f. G (joined_to_tail F f p t)) _ s held f h (λ events o.
    let S = state s held events in
    subst G (sym (rejoined_vain F S p t few))
    (record {
      observed = subst (λ (ys : List ℕ). O (events ++ OfCapture (Passes ys) ∷ [])) (sym both)
          (c.on_looked_through.ensures events o);
      same = rw c.lengthened.ensures refl;
    }))

pub returns-then-is_live-clause-does : goal.returns-then-is_live-clause-does
returns-then-is_live-clause-does g c held f arrival h =
    let F = g.T.Listener.reader in
    let s = c.args.self.now in
    let t = c.args.tail in
    let xs = c.args.octets.now in
    let p = payload s.id c.args.number xs arrival in
    let r = c.deliver.result in
    let many : nat_lt (t.octets + length xs) 6 ≡ false =
    le-ltb (t.octets + length xs) 6 (omega (arith, c.if-count-lt6.false)) in
    by_state (λ f. OnOk r (IsState (g.T.Listener.observed c.deliver.new.to)
    c.deliver.new.self held (joined_to_tail F f p t))) _ s held f h (λ events o.
    let S = state s held events in
    let D : Flow = all_delivered F (started S t.number) arrival (parts_of t) in
    let is : IsState (g.T.Listener.observed c.deliver_parts.new.to) c.deliver_parts.new.self held D
    = subst (λ (ks : List ℕ). IsState (g.T.Listener.observed c.deliver_parts.new.to)
    c.deliver_parts.new.self held (all_delivered F (started S t.number) arrival
    (cut_up first_five ks))) c.parts.ensures
    (c.in_ok-deliver_parts.ensures.does held (started S t.number) arrival
    (c.in_ok-begin_stream.ensures.does held S (record { observed = o; same = refl }))) in
    let live : lives D.live D.waits ≡ true =
    subst (λ (f : Flow). lives f.live f.waits ≡ true) is.same
    (sym c.is_live.ensures ∙ c.if-is_live.true) in
    on_ok_equal r _ _ held _ _
    (ap (λ (f : Flow). delivered F D (payload f.id f.next xs arrival)) is.same
    ∙ sym (rejoined_begun F S p t many ∙ last_live F D arrival xs live))
    (c.deliver.ensures.does held D arrival is))

pub returns-clause-does : goal.returns-clause-does
returns-clause-does g c held f arrival h =
    let F = g.T.Listener.reader in
    let s = c.args.self.now in
    let t = c.args.tail in
    let xs = c.args.octets.now in
    let p = payload s.id c.args.number xs arrival in
    let G = IsState (g.T.Listener.observed c.deliver_parts.new.to) c.deliver_parts.new.self held in
    let many : nat_lt (t.octets + length xs) 6 ≡ false =
    le-ltb (t.octets + length xs) 6 (omega (arith, c.if-count-lt6.false)) in
    by_state (λ f. G (joined_to_tail F f p t)) _ s held f h (λ events o.
    let S = state s held events in
    let D : Flow = all_delivered F (started S t.number) arrival (parts_of t) in
    let is : G D = subst (λ (ks : List ℕ). G (all_delivered F (started S t.number) arrival
    (cut_up first_five ks))) c.parts.ensures
    (c.in_ok-deliver_parts.ensures.does held (started S t.number) arrival
    (c.in_ok-begin_stream.ensures.does held S (record { observed = o; same = refl }))) in
    let dead : lives D.live D.waits ≡ false =
    subst (λ (f : Flow). lives f.live f.waits ≡ false) is.same
    (sym c.is_live.ensures ∙ c.if-is_live.false) in
    subst G (sym (rejoined_begun F S p t many ∙ all_dead F D arrival (xs ∷ []) dead)) is)
