use Rattle.std.proofs.Common.{◌≡◌, ◌<◌, ◌+◌, ◌-◌, ℕ, List, length, get_or, take, sym, ap, ◌∙◌, arith}
use Rattle.std.proofs.lemmas.List.{get_or_default}
use Rattle.std.proofs.lemmas.Option.{IfSome_then}
use Rattle.tcp_streams.specs.Places.{ids_of}
use Rattle.tcp_streams.specs.Queue.{QueueView}
use Rattle.tcp_streams.proofs.Placed.{count_all, count_to, few_ids, rank_at, rank_below}
use Rattle.tcp_streams.proofs.queue.Queue.at.Goals as goal

pub returns-then-after-len-clause-none : goal.returns-then-after-len-clause-none
returns-then-after-len-clause-none c e =
    let a = c.self.inside in
    let h = c.self.invariant.queue in
    let all = count_all a.ids.items a.front.places h.within h.whole in
    omega (arith, ap (λ (v : QueueView). length v.items) c.self.view_is)

pub returns-clause-some : goal.returns-clause-some
returns-clause-some c =
    let a = c.self.inside in
    let h = c.self.invariant.queue in
    let xs : List ℕ = a.ids.items in
    let after : ℕ = c.args.rank - a.front.count in
    let k : ℕ = a.front.places + after in
    let l : k < length xs = omega arith in
    let own = h.whole k (omega arith) l in
    let more = count_to xs a.front.places k (omega arith) (omega arith) h.whole in
    let is : length (ids_of (take k xs)) ≡ c.args.rank =
    omega arith in
    let at : get_or xs k 0 ≡ c.index.result.now =
    get_or_default xs k 0 c.index.result.now l ∙ sym c.index.ensures in
    let less = rank_below xs k l own in (
      omega (arith, ap (λ (v : QueueView). length v.items) c.self.view_is),
      sym (ap (λ (v : QueueView). get_or v.items c.args.rank 0) (sym c.self.view_is)
          ∙ ap (λ (j : ℕ). get_or (ids_of xs) j 0) (sym is) ∙ rank_at xs k l own ∙ at),
    )

pub returns-then-rank-self-clause-few : goal.returns-then-rank-self-clause-few
returns-then-rank-self-clause-few c =
    let few = few_ids c.self.inside.ids.items in
    IfSome_then c.id_at_rank.result c.id_at_rank.ensures.some
    (λ id h. omega arith)

pub returns-clause-few : goal.returns-clause-few
returns-clause-few c =
    let few = few_ids c.self.inside.ids.items in
    let less = (returns-clause-some c).0 in
    omega (arith, ap (λ (v : QueueView). length v.items) c.self.view_is)
