use Rattle.std.proofs.Common.{sym, ◌∙◌, ap, refl}
use Rattle.std.specs.Option.{option_map}
use Rattle.giop_calls.proofs.OutstandingLemmas.{found_at, not_found}
use Rattle.giop_calls.proofs.calls.Calls.find.Goals as goal

pub returns-in-Some : goal.returns-in-Some
returns-in-Some c =
    let index = sym c.find.ensures.value ∙ c.in-Some.is in
    rw (← c.self.view_is) (c.get.ensures ∙ ap (option_map (λ e. e.value)) (found_at _ _ _ index))

pub returns-in-None : goal.returns-in-None
returns-in-None c =
    let none = sym c.find.ensures.value ∙ c.in-None.is in
    rw (← c.self.view_is, not_found _ _ 0 none) refl
