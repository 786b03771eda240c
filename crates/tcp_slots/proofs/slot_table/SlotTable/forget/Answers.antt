use Rattle.std.proofs.Common.{◌≡◌, get_or, is_some, None, true, sym, ap, ◌∙◌, subst, arith}
use Rattle.std.specs.List.{remove, AllByRecursion}
use Rattle.tcp_slots.specs.Table.{TableView, keys_of}
use Rattle.tcp_slots.proofs.Keys.{as_many, keys_remove, known_remove}
use Rattle.tcp_slots.proofs.slot_table.SlotTable.forget.Goals as goal

pub invariant_of-self : goal.invariant_of-self
invariant_of-self g c =
    let i = c.self.invariant in
    let all = subst (AllByRecursion (λ r. is_some (get_or c.self.inside.last.items r None) ≡ true))
    (sym c.remove.ensures.items) (known_remove c.self.inside.last.items
    c.self.inside.order.items c.args.index i.known) in record {
      few = i.few;
      memory = omega arith;
      keys = i.keys;
      as_many = as_many c.self.inside.last.items c.remove.new.self.items all;
      known = all;
    }

pub returns-clause-keys : goal.returns-clause-keys
returns-clause-keys g c =
    ap (keys_of c.self.inside.last.items) c.remove.ensures.items
    ∙ keys_remove c.self.inside.last.items c.self.inside.order.items c.args.index
    c.self.invariant.known
    ∙ ap (λ (v : TableView g.row.K.Denot). remove v.keys c.args.index) c.self.view_is
