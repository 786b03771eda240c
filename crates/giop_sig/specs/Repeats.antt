-- Reading in repeated steps, each of which says whether it was the last (steps).
use Rattle.std.specs.Prelude.{ℕ, zero, suc, Bool, if◌then◌else◌, Result, Ok, Err}
use Rattle.giop_tokens.specs.declared.fault.TokenError.{TokenError}
use Rattle.giop_tokens.specs.Reading.{◌>>=◌}

-- at most `left` steps; if none of them is the last, the state after them is refused
unfoldable pub in_steps : {S : Type 0} (step : S → Result (Bool × S) TokenError)
    (error_if_not_done : S → TokenError) (most_steps : ℕ) (state : S) → Result S TokenError
in_steps step limit zero s = Err (limit s)
in_steps step limit (suc left) s = do
  x ← step s
  if x.0 then Ok x.1 else in_steps step limit left x.1
