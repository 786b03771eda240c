use Rattle.std.proofs.Common.{◌+◌, ◌-◌, ◌*◌, ◌/◌, refl}
use Rattle.giop_conversation.proofs.TimeLemmas.{month_is, month_found}
use Rattle.giop_conversation.proofs.times.months_and_days_of.Goals as goal

pub returns-clause-value : goal.returns-clause-value
returns-clause-value c =
    let even = c.day_with_february_of_30-even.result in
    let passed = (12 * even + 6) / 367 in
    let found = month_is c.args.year c.args.days even passed c.requires.within
    c.day_with_february_of_30-even.ensures.early c.day_with_february_of_30-even.ensures.past refl in
    (month_found c.args.year c.args.days passed (even - (367 * passed + 5) / 12) found.few
    found.before (λ _. found.short)).0

pub returns-clause-rest : goal.returns-clause-rest
returns-clause-rest c =
    let even = c.day_with_february_of_30-even.result in
    let passed = (12 * even + 6) / 367 in
    let found = month_is c.args.year c.args.days even passed c.requires.within
    c.day_with_february_of_30-even.ensures.early c.day_with_february_of_30-even.ensures.past refl in
    (month_found c.args.year c.args.days passed (even - (367 * passed + 5) / 12) found.few
    found.before (λ _. found.short)).1
