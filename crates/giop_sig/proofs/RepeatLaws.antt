-- Any loop of the reader compared with reading in repeated steps.
use Rattle.std.proofs.Common.{◌≡◌, ℕ, suc, ◌+◌, ◌-◌, ◌<◌, ◌≤◌, Bool, true, false, cond, Result, Ok, Err, refl, sym, ap, ◌∙◌, arith}
use Rattle.giop_tokens.specs.declared.fault.TokenError.{TokenError}
use Rattle.giop_sig.specs.declared.parse_stop.ParseError.{ParseError}
use Rattle.giop_sig.specs.declared.parse_stop.ParseError.TheVariants as stops
use Rattle.giop_sig.specs.Outcomes.{StopsAsRead}
use Rattle.giop_tokens.specs.Reading.{◌>>=◌}
use Rattle.giop_sig.specs.Repeats.{in_steps}

module _ {S : Type 0} (step : S → Result (Bool × S) TokenError) (limit : S →
    TokenError) (most i : ℕ)
    (s : S) (total : Result S TokenError)
    (so_far : in_steps step limit (most - i) s ≡ total) where
  pub goes_on : i < most → (x : Bool × S) → step s ≡ Ok x → x.0 ≡ false →
      in_steps step limit (most - (i + 1)) x.1 ≡ total
  unfolding in_steps
  goes_on lt x h c =
      let k : most - i ≡ suc (most - (i + 1)) = omega arith in
      let one : in_steps step limit (most - i) s ≡ in_steps step limit (most - (i + 1)) x.1 =
      rw (k, h, c) refl in
      sym one ∙ so_far

  pub ends : i < most → (x : Bool × S) → step s ≡ Ok x → x.0 ≡ true → total ≡ Ok x.1
  unfolding in_steps
  ends lt x h c = search (arith)

  pub fails : i < most → (e : ParseError) → StopsAsRead e (step s) → StopsAsRead e total
  unfolding in_steps
  fails lt stops.Memory h = tt
  fails lt (stops.Refused r) h =
      let k : most - i ≡ suc (most - (i + 1)) = omega arith in
      let one : in_steps step limit (most - i) s ≡ Err r = rw (k, h) refl in
      sym so_far ∙ one

  pub limited : most ≤ i → total ≡ Err (limit s)
  unfolding in_steps
  limited le = search (arith)

-- what stops a reading stops what is made of it
pub stops_on : {X Y : Type 0} (e : ParseError) (r : Result X TokenError) (f : X →
    Result Y TokenError)
    → StopsAsRead e r → StopsAsRead e (r >>= f)
stops_on stops.Memory r f h = tt
stops_on (stops.Refused q) r f h = ap (λ x. x >>= f) h

pub bind_bind : {A B C : Type 0} (r : Result A TokenError) (f : A → Result B TokenError)
    (g : B → Result C TokenError) → ((r >>= f) >>= g) ≡ (r >>= λ x. f x >>= g)
bind_bind (Ok x) f g = refl
bind_bind (Err e) f g = refl

-- what is made of the last state, from the first step
pub step_first : {S Y : Type 0} (step : S → Result (Bool × S) TokenError) (limit : S → TokenError)
    (make : S → Result Y TokenError) (left : ℕ) (s : S)
    → (in_steps step limit (suc left) s >>= make)
    ≡ (step s >>= λ x. cond x.0 (Ok x.1) (in_steps step limit left x.1) >>= make)
unfolding in_steps
step_first step limit make left s = search (arith, bind_bind, cond)
