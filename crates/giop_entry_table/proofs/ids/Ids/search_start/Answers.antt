use Rattle.std.proofs.Common.{length, get_or, sym, ap, ◌∙◌, ◌%◌, arith}
use Rattle.std.proofs.lemmas.Bool.{ne_eqb}
use Rattle.giop_entry_table.proofs.ids.Ids.search_start.Goals as goal

pub returns-clause-before : goal.returns-clause-before
returns-clause-before c = λ i before.
    let keys = c.args.self.now.keys.items in
    let d = length c.args.self.now.counts.items in
    ne_eqb (get_or keys i 0) c.args.key (λ same.
    let bound = c.bound_for_remainder-first.ensures.before i
    (omega (arith, before, c.saturating_sub.ensures, c.bound_for_remainder-first.ensures.within))
    (ap (λ k. k % d) same ∙ sym c.remainder.ensures.value) in
    omega (arith, before, c.saturating_sub.ensures, bound))
