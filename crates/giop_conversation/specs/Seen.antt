-- All that was put to an out can be seen (meaning).
use Rattle.std.specs.Prelude.{◌≡◌, ℕ, List, [], Option}
use Rattle.giop_print.specs.Output.{OutLog}

-- There is an out, as the last flush left it, that has all that was put and keeps nothing of it
-- back.
pub record IsSeen {O : Type 0} (log : O → OutLog) (kept_back : O → List ℕ)
    (all_put : Option (List ℕ)) : Type 0 where
  pub out : O
  pub none : kept_back out ≡ []
  pub same : (log out).written ≡ all_put
