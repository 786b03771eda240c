use Rattle.std.proofs.Common.{ℕ, ◌-◌, reverse, get_or, ap, sym, ◌∙◌, arith}
use Rattle.std.proofs.lemmas.List.{get_or-reverse}
use Rattle.tcp_waiting.proofs.Reversed.{reverse_remove}
use Rattle.tcp_waiting.proofs.places.remove_from_end.Goals as goal

pub returns-clause-items : goal.returns-clause-items
returns-clause-items c =
    let order = c.args.order.now.items in
    ap reverse c.remove.ensures.items
    ∙ reverse_remove order c.args.place (c.len.result - 1 - c.args.place)
    (omega arith)

pub returns-clause-slot : goal.returns-clause-slot
returns-clause-slot c =
    let order = c.args.order.now.items in
    c.remove.ensures.slot
    ∙ ap (λ (n : ℕ). get_or order (n - 1 - c.args.place) 0) c.len.ensures.items
    ∙ sym (get_or-reverse order c.args.place 0 c.requires)
