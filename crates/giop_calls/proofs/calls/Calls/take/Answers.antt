use Rattle.std.proofs.Common.{sym, ◌∙◌, arith, ap, refl}
use Rattle.std.specs.Option.{option_map}
use Rattle.giop_calls.proofs.OutstandingLemmas.{removed_at, none_without, apart_without, length_without, found_at, not_found}
use Rattle.giop_calls.proofs.calls.Calls.take.Goals as goal

pub invariant_of-self : goal.invariant_of-self
invariant_of-self c =
    let index = sym c.find.ensures.value ∙ c.in-Some.is in
    let left = c.remove.ensures.entries ∙ removed_at _ _ _ c.self.invariant.0 index in
    rw (left, c.remove.ensures.most) (
      apart_without _ _ c.self.invariant.0,
      omega (arith, length_without c.args.id c.self.inside.table.entries, c.self.invariant.1),
    )

pub returns-in-Some-clause-value : goal.returns-in-Some-clause-value
returns-in-Some-clause-value c =
    let index = sym c.find.ensures.value ∙ c.in-Some.is in
    rw (← c.self.view_is) (sym c.remove.ensures.value
    ∙ ap (option_map (λ e. e.value)) (found_at _ _ _ index))

pub returns-in-Some-clause-entries : goal.returns-in-Some-clause-entries
returns-in-Some-clause-entries c =
    let index = sym c.find.ensures.value ∙ c.in-Some.is in
    rw (← c.self.view_is) (c.remove.ensures.entries ∙ removed_at _ _ _ c.self.invariant.0 index)

pub returns-in-None-clause-value : goal.returns-in-None-clause-value
returns-in-None-clause-value c =
    let none = sym c.find.ensures.value ∙ c.in-None.is in
    rw (← c.self.view_is, not_found _ _ 0 none) refl

pub returns-in-None-clause-entries : goal.returns-in-None-clause-entries
returns-in-None-clause-entries c =
    let none = sym c.find.ensures.value ∙ c.in-None.is in
    rw (← c.self.view_is) (sym (none_without _ _ 0 none))
