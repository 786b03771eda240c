-- How often an out has failed after a put, by how often it had failed before.
use Rattle.std.proofs.Common.{◌≡◌, ◌⊎◌, ◌<◌, ◌≤◌, ◌+◌, ℕ, Result, Ok, Err, inl, inr, ap, ◌∙◌, arith}
use Rattle.giop_print.specs.Output.{saturating_next}
use Rattle.giop_conversation.specs.Failing.{CountsFailure}

-- after a failure was counted, the count isn't 0
pub counted_more : (n : ℕ) → 0 < saturating_next n
unfolding saturating_next
counted_more n = omega arith

pub some_failed : (before after : ℕ) → after ≡ saturating_next before → 0 < after
some_failed before after one = rw one (counted_more before)

-- if an out fails without having failed in an earlier step, it fails once, or refuses even more
-- octets
pub lost : (most before between after since few more : ℕ) (Full : Type 0) → between ≡ before →
    few ≤ more → (after ≡ saturating_next between) ⊎ (Full × (most < since + few)) →
    (after ≡ saturating_next before) ⊎ (Full × (most < since + more))
lost most before between after since few more Full same within (inl one) =
    inl (one ∙ ap saturating_next same)
lost most before between after since few more Full same within (inr full) =
    inr (full.0, omega (arith, full.1, within))

pub counts_on : {A E : Type 0} (r : Result A E) (before between after : ℕ) →
    between ≡ before → CountsFailure r between after → CountsFailure r before after
counts_on (Ok x) before between after same counts = counts ∙ same
counts_on (Err e) before between after same counts = counts ∙ ap saturating_next same
