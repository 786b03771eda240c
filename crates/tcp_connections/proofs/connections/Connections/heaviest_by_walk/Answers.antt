use Rattle.std.proofs.Common.{◌≡◌, ◌+◌, ◌≤◌, ◌∷◌, ℕ, suc, List, length, drop, get_or, sym, ap, ◌∙◌, add-one, drop-cons}
use Rattle.std.proofs.Math.ListN.{drop_of_length-le}
use Rattle.tcp_connections.specs.Connections.{heaviest_from}
use Rattle.tcp_connections.proofs.connections.Connections.heaviest_by_walk.Goals as goal

pub loop-id-preserved : goal.loop-id-preserved
unfolding heaviest_from
loop-id-preserved g c =
    let held = c.args.self.now.pool.held in
    let ids : List ℕ = c.pack.new.self.live.items in
    let rank : ℕ = c.loop-id.rank in
    let some = c.in-Some.ensures.some in
    let e : drop rank ids ≡ c.in-Some.id ∷ drop (rank + 1) ids =
    rw add-one (drop-cons ids rank 0 some.0
    ∙ ap (λ (n : ℕ). n ∷ drop (suc rank) ids) (sym some.1)) in
    ap (λ (n : ℕ). heaviest_from held n (drop (rank + 1) ids)) c.heavier-best.ensures
    ∙ sym (ap (heaviest_from held c.loop-id.best) e) ∙ c.loop-id.invariant

pub returns-clause-is : goal.returns-clause-is
unfolding heaviest_from
returns-clause-is g c =
    let held = c.args.self.now.pool.held in
    let ids : List ℕ = c.pack.new.self.live.items in
    let over : length ids ≤ c.loop-id.rank = c.live-in-loop-id.ensures.none c.in_default.is in
    sym (ap (heaviest_from held c.loop-id.best) (drop_of_length-le ids over))
    ∙ c.loop-id.invariant
    ∙ ap (λ q. heaviest_from held (get_or q.items 0 0) q.items) c.pack.ensures.live
