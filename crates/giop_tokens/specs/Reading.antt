-- Reading from left to right: one thing, and then another one from what follows it; and how a
-- function of the code is compared with such a reading (steps).
use Rattle.std.specs.Prelude.{◌≡◌, Result, Ok, Err}
use Rattle.giop_tokens.specs.declared.fault.TokenError.{TokenError}

infixl 10 ◌>>=◌
abbrev pub ◌>>=◌ : {A B : Type 0} → Result A TokenError → (A → Result B TokenError) →
    Result B TokenError
(Ok x) >>= f = f x
(Err e) >>= f = Err e

-- what a function returned, seen through a view, is what the reading gives; so is a refusal
abbrev pub Gives : {X Y : Type 0} (view : X → Y) (code_result : Result X TokenError)
    (expected_reading : Result Y TokenError) → Type 0
Gives view (Ok x) read = read ≡ Ok (view x)
Gives view (Err e) read = read ≡ Err e
