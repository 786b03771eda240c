-- A packet that gives up nothing, since it acknowledges nothing that is to come and all that waits
-- is young.
use Rattle.std.proofs.Common.{◌≡◌, ℕ, ◌-◌, ◌*◌, ◌<◌, Bool, false, nat_le, ◌&&◌, ◌||◌, List, [], ◌∷◌, length, get_or, Option, Some, None, IfSome, refl}
use Rattle.std.specs.List.{AllByRecursion}
use Rattle.std.specs.Option.{option_map}
use Rattle.std.proofs.lemmas.Bool.{lt-leb}
use Rattle.tcp_waiting.specs.Payload.{Payload, no_payload, AreYounger}
use Rattle.tcp_waiting.proofs.Held.{all_at}
use Rattle.tcp_flow.specs.declared.hearing.Heard.{Heard}
use Rattle.tcp_flow.specs.Flow.{acknowledges, gives_up, second}

abbrev between : (came now : Option ℕ) → Option ℕ
between came now =
    elim came [ None ↦ None | Some before ↦ option_map (λ time. time - before) now ]

-- whether a packet gives up what is missing, by when it and the payload came
abbrev gives_up_by_times : (acknowledges answers : Bool) (came now : Option ℕ) → Bool
gives_up_by_times a b came now =
    elim (between came now) [
      | None ↦ a
      | Some time ↦ (a && (b || nat_le second time)) || nat_le (30 * second) time
    ]

timeless : (a b : Bool) (came now : Option ℕ) → a ≡ false → now ≡ None →
    gives_up_by_times a b came now ≡ false
timeless a b None now e is = e
timeless a b (Some before) now e is = rw is e

early : (a b : Bool) (came now : Option ℕ) (time : ℕ) → a ≡ false → now ≡ Some time →
    ((before : ℕ) → came ≡ Some before → time - before < 30 * second)
    → gives_up_by_times a b came now ≡ false
early a b None now time e is young = e
early a b (Some before) now time e is young =
    rw (is, e) (lt-leb (30 * second) (time - before) (young before refl))

pub timeless_kept : (h : Heard) (next : ℕ) (ps : List Payload) → acknowledges h next ≡ false →
    h.arrival.time ≡ None → AllByRecursion (λ p. gives_up h next p.arrival ≡ false) ps
timeless_kept h next [] e is = tt
timeless_kept h next (p ∷ ps) e is = (
  timeless (acknowledges h next) h.answers p.arrival.time h.arrival.time e is,
  timeless_kept h next ps e is,
)

pub young_kept : (h : Heard) (next time : ℕ) (ps : List Payload) → acknowledges h next ≡ false →
    h.arrival.time ≡ Some time → AreYounger (30 * second) time ps
    → AllByRecursion (λ p. gives_up h next p.arrival ≡ false) ps
young_kept h next time [] e is young = tt
young_kept h next time (p ∷ ps) e is young = (
  early (acknowledges h next) h.answers p.arrival.time h.arrival.time time e is young.0,
  young_kept h next time ps e is young.1,
)

-- the first payload is kept, if each is
pub first_kept : (h : Heard) (next : ℕ) (o : Option ℕ) (ps : List Payload) →
    IfSome o (λ k. k < length ps) → AllByRecursion (λ p. gives_up h next p.arrival ≡ false) ps →
    elim o [ None ↦ false | Some i ↦ gives_up h next (get_or ps i no_payload).arrival ] ≡ false
first_kept h next None ps l all = refl
first_kept h next (Some i) ps l all =
    all_at (λ p. gives_up h next p.arrival ≡ false) ps i no_payload all l
