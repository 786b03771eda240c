-- When an out with tags fails, and when a call fails that writes to it: when a put fails, and only
-- then (meaning).
use Rattle.std.specs.Prelude.{◌≡◌, ◌⊎◌, ℕ, ◌+◌, ◌-◌, ◌^◌, ◌<◌, true, List, length, Result, MatchResult}
use Rattle.giop_print.specs.Output.{saturating_next}
use Rattle.giop_conversation.specs.TaggedState.{Tagging}

-- two counts of failures: if the call fails, the second is one more, else they are the same
abbrev pub CountsFailure : {A E : Type 0} (result : Result A E)
    (failures_before failures_after : ℕ) → Type 0
CountsFailure result before after = MatchResult result (λ _. after ≡ before)
    (λ _. after ≡ saturating_next before)

-- if the call fails, one more put than before has failed in the out; else as many as before
abbrev pub FailsByPut : {A E : Type 0} (result : Result A E) (before after : Tagging) → Type 0
FailsByPut result before after = CountsFailure result before.failures after.failures

-- if the call fails, a put has failed in the out, now or before; else none ever has
abbrev pub FailsIfPutFailed : {A E : Type 0} (result : Result A E) (after : Tagging) → Type 0
FailsIfPutFailed result after =
    MatchResult result (λ _. after.failures ≡ 0) (λ _. 0 < after.failures)

-- The out with tags fails if the out below does, or if it refuses: it can't count these octets and
-- a whole tag in addition to the octets since the tag was set.
abbrev pub FailsBelow : {A E : Type 0} (result : Result A E) (before after : Tagging)
    (octets_to_put : List ℕ) → Type 0
FailsBelow result before after octets =
    MatchResult result (λ _. after.below ≡ before.below)
    (λ _. (after.below ≡ saturating_next before.below)
    ⊎ ((after.refused ≡ true) × (2 ^ 64 - 1 < after.since + (length after.tag + length octets))))
