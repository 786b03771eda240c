use Rattle.std.proofs.Common.{◌+◌, ◌-◌, ◌/◌, ℕ, sym, ap, ◌∙◌, arith}
use Rattle.tcp_slots.proofs.Keys.{less_left, greater_left}
use Rattle.tcp_slots.proofs.slot_table.SlotTable.index.Goals as goal

pub loop-low-preserved-in-Less : goal.loop-low-preserved-in-Less
loop-low-preserved-in-Less g c =
    let i = c.loop-low.invariant in
    let middle : ℕ = c.loop-low.low + (c.loop-low.high - c.loop-low.low) / 2 in (
      omega arith,
      i.1,
      less_left (λ y. g.K.Ord.cmp y c.args.key.now) c.args.self.now.keys c.loop-low.low
          c.loop-low.high middle (omega arith) i.2
          (λ d. ap (λ k. g.K.Ord.cmp k c.args.key.now) (sym (c.key.ensures d))
          ∙ sym c.cmp.ensures ∙ c.in-Less.is),
    )

pub loop-low-preserved : goal.loop-low-preserved
loop-low-preserved g c =
    let i = c.loop-low.invariant in
    let middle : ℕ = c.loop-low.low + (c.loop-low.high - c.loop-low.low) / 2 in (
      omega arith,
      omega arith,
      greater_left (λ y. g.K.Ord.cmp y c.args.key.now) c.args.self.now.keys c.loop-low.low
          c.loop-low.high middle i.2
          (λ d. ap (λ k. g.K.Ord.cmp k c.args.key.now) (sym (c.key.ensures d))
          ∙ sym c.cmp.ensures ∙ c.in-Greater.is),
    )
