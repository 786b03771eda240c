use Rattle.std.proofs.Common.{◌≡◌, ◌≤◌, ◌<◌, ℕ, length, get_or, set, Some, is_some, None, true, sym, ap, ◌∙◌, subst, arith}
use Rattle.std.specs.List.{insert, AllByRecursion}
use Rattle.std.proofs.lemmas.List.{length-set}
use Rattle.tcp_slots.specs.Table.{TableView, keys_of}
use Rattle.tcp_slots.proofs.Keys.{as_many, keys_insert, known_insert}
use Rattle.tcp_slots.proofs.slot_table.SlotTable.add.Goals as goal

pub invariant_of-self : goal.invariant_of-self
invariant_of-self g c =
    let i = c.self.invariant in
    let slot = subst (λ (v : TableView g.row.K.Denot). c.args.slot < v.most)
    (sym c.self.view_is) c.requires.slot in
    let last = set c.self.inside.last.items c.args.slot (Some c.args.key) in
    let n = length-set c.self.inside.last.items c.args.slot (Some c.args.key) in
    let known = known_insert c.self.inside.last.items c.self.inside.order.items c.args.index
    c.args.slot c.args.key i.known (omega arith) in
    let all = subst (AllByRecursion (λ r. is_some (get_or last r None) ≡ true))
    (sym c.insert.ensures.items) known in record {
      few = i.few;
      memory = omega arith;
      keys = omega arith;
      as_many = as_many last c.insert.new.self.items all;
      known = all;
    }

pub returns-clause-keys : goal.returns-clause-keys
returns-clause-keys g c =
    let i = c.self.invariant in
    let free = subst (λ (v : TableView g.row.K.Denot). (index : ℕ) → index < length v.slots →
    get_or v.slots index 0 ≡ c.args.slot → ⊥) (sym c.self.view_is) c.requires.free in
    let index = subst (λ (v : TableView g.row.K.Denot). c.args.index ≤ length v.keys)
    (sym c.self.view_is) c.requires.index in
    let slot = subst (λ (v : TableView g.row.K.Denot). c.args.slot < v.most)
    (sym c.self.view_is) c.requires.slot in
    ap (keys_of (set c.self.inside.last.items c.args.slot (Some c.args.key))) c.insert.ensures.items
    ∙ keys_insert c.self.inside.last.items c.self.inside.order.items c.args.index c.args.slot
    c.args.key i.known (omega arith) (omega arith) free
    ∙ ap (λ (v : TableView g.row.K.Denot). insert v.keys c.args.index c.args.key) c.self.view_is
