use Rattle.std.proofs.Common.{◌≡◌, ◌++◌, ◌∷◌, [], ℕ, List, length, nat_lt, eqb, false, sym, subst, ap, ◌∙◌, arith}
use Rattle.std.specs.List.{AllByRecursion}
use Rattle.std.proofs.lemmas.Bool.{cond-true, cond-false, lt-ltb, le-ltb}
use Rattle.tcp_streams.specs.Lives.{without, with_begun, most_ids}
use Rattle.tcp_streams.specs.Places.{ids_of}
use Rattle.tcp_streams.specs.Queue.{QueueView}
use Rattle.tcp_streams.proofs.Ids.{fewer_ids, none_left}
use Rattle.tcp_streams.proofs.Placed.{all_ids}
use Rattle.tcp_streams.proofs.queue.Queue.begin.Goals as goal

pub make_free_place-requires-clause-fewer : goal.make_free_place-requires-clause-fewer
make_free_place-requires-clause-fewer c =
    let xs : List ℕ = ids_of c.self.inside.ids.items in
    let fewer = fewer_ids c.args.flow xs (omega arith)
    (all_ids c.self.inside.ids.items, c.self.invariant.queue.distinct) in
    omega (arith, ap length c.take_away.ensures.items)

pub push-requires-clause-apart : goal.push-requires-clause-apart
push-requires-clause-apart c =
    subst (AllByRecursion (λ x. eqb c.args.flow x ≡ false))
    (sym (c.make_free_place.ensures.items ∙ c.take_away.ensures.items))
    (none_left c.args.flow (ids_of c.self.inside.ids.items) c.self.invariant.queue.distinct)

pub returns-then-flow-lt-MOST_IDS : goal.returns-then-flow-lt-MOST_IDS
unfolding with_begun
returns-then-flow-lt-MOST_IDS c =
    let xs : List ℕ = ids_of c.self.inside.ids.items in
    let id : ℕ = c.args.flow in
    c.push.ensures.items ∙ ap (λ (ys : List ℕ). ys ++ id ∷ [])
    (c.make_free_place.ensures.items ∙ c.take_away.ensures.items)
    ∙ sym (cond-true (nat_lt id most_ids) (without id xs ++ id ∷ []) xs
    (lt-ltb id most_ids (omega arith)))
    ∙ ap (λ (v : QueueView). with_begun id v.items) c.self.view_is

pub returns-else-flow-lt-MOST_IDS : goal.returns-else-flow-lt-MOST_IDS
unfolding with_begun
returns-else-flow-lt-MOST_IDS c =
    let xs : List ℕ = c.args.self.now.items in
    let id : ℕ = c.args.flow in
    sym (cond-false (nat_lt id most_ids) (without id xs ++ id ∷ []) xs
    (le-ltb id most_ids (omega arith)))
