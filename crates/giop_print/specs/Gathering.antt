-- Gathering parts for one put: what was written, and what is still to be written (steps).
use Rattle.std.specs.Prelude.{◌≡◌, ℕ, List, ◌++◌, Result, MatchResult}
use Rattle.giop_print.specs.Output.{OutLog, Wrote, WroteFront}

-- all that was due was written, except what is left to be written
pub record WroteAllBut (before after : OutLog) (octets_left octets_due : List ℕ) : Type 0 where
  pub front : List ℕ
  pub wrote : Wrote before after front
  pub both : front ++ octets_left ≡ octets_due

-- what gathering a part did: all was written except what is gathered now; or a front of it was
-- written, and then a put failed
abbrev pub Gathers : {A E : Type 0} (result : Result A E) (before after : OutLog)
    (gathered_before gathered_after new_part : List ℕ) → Type 0
Gathers r before after gathered left part =
    MatchResult r (λ _. WroteAllBut before after left (gathered ++ part))
    (λ _. WroteFront before after (gathered ++ part))
