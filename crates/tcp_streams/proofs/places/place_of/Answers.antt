use Rattle.std.proofs.Common.{◌<◌, ◌-◌, ℕ, length, sym, ◌∙◌, arith}
use Rattle.std.proofs.lemmas.List.{get_or_default}
use Rattle.tcp_streams.proofs.Placed.{place_at, place_index, place_none, place_unstamped}
use Rattle.tcp_streams.proofs.places.place_of.Goals as goal

pub returns-then-flow-ge-MOST_IDS : goal.returns-then-flow-ge-MOST_IDS
returns-then-flow-ge-MOST_IDS c = sym (place_none c.args.flow c.args.ids.now.items
    (omega arith))

pub returns-then-stamp-eq0 : goal.returns-then-stamp-eq0
returns-then-stamp-eq0 c = sym (place_unstamped c.args.stamps.now.flows.items c.args.flow
    c.args.ids.now.items (sym c.of-stamp.ensures ∙ c.if-stamp-eq0.true) c.requires.stamped)

pub returns-then-index-flow : goal.returns-then-index-flow
returns-then-index-flow c =
    let xs = c.args.ids.now.items in
    let i : ℕ = c.of-stamp.result - 1 in
    let l : i < length xs = omega arith in
    sym (place_at c.args.flow xs i l (omega arith)
    c.requires.distinct (get_or_default xs i 0 c.index.result.now l ∙ sym c.index.ensures
    ∙ c.if-index-flow.true))

pub returns : goal.returns
returns c = c.first_index_of.ensures ∙ sym (place_index c.args.flow c.args.ids.now.items
    (omega arith))
