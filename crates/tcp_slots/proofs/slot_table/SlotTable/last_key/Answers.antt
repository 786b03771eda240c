use Rattle.std.proofs.Common.{◌≡◌, ◌<◌, ℕ, length, get_or, None, sym, ap, ◌∙◌, subst}
use Rattle.tcp_slots.specs.Table.{TableView}
use Rattle.tcp_slots.proofs.Keys.{key_at}
use Rattle.tcp_slots.proofs.slot_table.SlotTable.last_key.Goals as goal

pub returns-in-Some-Some : goal.returns-in-Some-Some
returns-in-Some-Some g c index d l r =
    let last = c.self.inside.last.items in
    let slots = c.self.inside.order.items in
    let inside = subst (λ (v : TableView g.row.K.Denot). index < length v.slots)
    (sym c.self.view_is) l in
    let slot = subst (λ (v : TableView g.row.K.Denot). get_or v.slots index 0 ≡ c.args.slot)
    (sym c.self.view_is) r in
    let at = rw c.deref.ensures.value at c.in-Some-Some.ensures.lookup in
    sym (key_at last slots index c.in-Some-Some.key d c.self.invariant.known inside
    (ap (λ (n : ℕ). get_or last n None) slot ∙ sym (at.3.1 None) ∙ c.in-Some-Some.field-0-is)
    ∙ ap (λ (v : TableView g.row.K.Denot). get_or v.keys index d) c.self.view_is)
