use Rattle.std.proofs.Common.{◌≡◌, ◌<◌, ℕ, List, length, get_or, take, sym, ap, ◌∙◌, arith}
use Rattle.std.proofs.lemmas.List.{get_or_default}
use Rattle.tcp_streams.specs.Lives.{most_ids}
use Rattle.tcp_streams.specs.Places.{ids_of}
use Rattle.tcp_streams.proofs.Placed.{rank_at, rank_below}
use Rattle.tcp_streams.proofs.places.id_at_rank.Goals as goal

pub returns-then-left-eq0-clause-some : goal.returns-then-left-eq0-clause-some
returns-then-left-eq0-clause-some c =
    let xs : List ℕ = c.args.ids.now.items in
    let i : ℕ = c.loop-index.index in
    let l : i < length xs =
    omega arith in
    let seen : get_or xs i 0 ≡ c.index.result.now =
    get_or_default xs i 0 c.index.result.now l ∙ sym c.index.ensures in
    let at : get_or xs i 0 ≡ c.index-then-left-eq0.result.now =
    get_or_default xs i 0 c.index-then-left-eq0.result.now l
    ∙ sym c.index-then-left-eq0.ensures in
    let own : get_or xs i 0 < most_ids = omega arith in
    let is : length (ids_of (take i xs)) ≡ c.args.rank =
    omega arith in
    let less = rank_below xs i l own in (
      omega arith,
      sym (ap (λ (k : ℕ). get_or (ids_of xs) k 0) (sym is) ∙ rank_at xs i l own ∙ at),
    )
