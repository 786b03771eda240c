use Rattle.std.proofs.Common.{◌<◌, length, get_or, None, sym, ap, ◌∙◌, subst, arith}
use Rattle.std.proofs.lemmas.List.{get_or_read}
use Rattle.tcp_slots.specs.Table.{TableView}
use Rattle.tcp_slots.proofs.Keys.{known_at, key_at}
use Rattle.tcp_slots.proofs.slot_table.SlotTable.key.Goals as goal

pub returns : goal.returns
returns g c d =
    let last = c.self.inside.last.items in
    let slots = c.self.inside.order.items in
    let within = subst (λ (v : TableView g.row.K.Denot). c.args.index < length v.keys)
    (sym c.self.view_is) c.requires in
    let inside : c.args.index < length slots =
    omega arith in
    let known = (known_at last slots c.args.index c.self.invariant.known inside).0 in
    let is = get_or_read last c.at.result c.index.result.now (omega arith)
    c.index.ensures None in
    key_at last slots c.args.index c.in-Some.key d c.self.invariant.known inside
    (ap (λ n. get_or last n None) (sym c.at.ensures) ∙ sym is ∙ c.in-Some.is)
    ∙ ap (λ (v : TableView g.row.K.Denot). get_or v.keys c.args.index d) c.self.view_is
