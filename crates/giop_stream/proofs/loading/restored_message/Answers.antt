use Rattle.std.proofs.Common.{inl, inr, ◌+◌, ◌%◌, length, sym, ap, ◌∙◌, arith}
use Rattle.std.proofs.lemmas.Bool.{false≢true}
use Rattle.giop_message.specs.Phases.{Phase}
use Rattle.giop_stream.proofs.loading.restored_message.Goals as goal

pub returns-then-not-is_unbroken-clause-again : goal.returns-then-not-is_unbroken-clause-again
returns-then-not-is_unbroken-clause-again c m l phase n h xs ready number header stored may follows
    =
    let on = c.in-Some.ensures.follows m ready.0 number header stored l phase n h xs follows in
    elim may [
      | inl kind ↦ absurd (false≢true (sym c.if-not-is_joined_without_id.true
          ∙ c.is_joined_without_id.ensures kind))
      | inr whole ↦ absurd (false≢true (sym c.if-not-is_unbroken.true
          ∙ (c.is_unbroken.ensures _ l phase n h xs on).1
          (ap (λ (f : Phase). f (12 + length xs) % 8) whole)))
    ]

pub returns-then-octets_taken-octets-clause-again :
    goal.returns-then-octets_taken-octets-clause-again
returns-then-octets_taken-octets-clause-again c m l phase n h xs ready number header stored may
    follows =
    c.in-Some.ensures.follows m ready.0 number header stored l phase n h xs follows

pub returns-else-octets_taken-octets-clause-again :
    goal.returns-else-octets_taken-octets-clause-again
returns-else-octets_taken-octets-clause-again c m l phase n h xs ready number header stored may
    follows =
    let on = c.in-Some.ensures.follows m ready.0 number header stored l phase n h xs follows in
    absurd (omega (
      arith,
      on.at,
      follows.at,
      ready.1,
      c.octets_taken.ensures,
      c.if-octets_taken-octets.false,
    ))
