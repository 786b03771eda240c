-- How far a call reads, if it stops after the first octet after which its correspondent is due
-- (meaning).
use Rattle.std.specs.Prelude.{◌≡◌, ◌<◌, ◌≤◌, ℕ, Bool, false, List, length, take, Result, IfOk}
use Rattle.giop_sig.specs.Table.{Table}
use Rattle.giop_message.specs.HeaderEnds.{HeaderEnd, CallEvent, after_ends}

-- A call took the first n of these octets, as many as its result counts, or it failed in them.
-- `holds_of_shorter_fronts` holds of each shorter front of them, and `holds_of_front_taken` of
-- these n octets.
pub record TakesFront {A E : Type 0} (octets_counted_by_result : A → ℕ)
    (holds_of_shorter_fronts holds_of_front_taken : List ℕ → Type 0) (result : Result A E)
    (given_octets : List ℕ) : Type 0 where
  pub n : ℕ
  pub counted : IfOk result (λ x. octets_counted_by_result x ≡ n)
  pub within : n ≤ length given_octets
  pub some : 0 < length given_octets → 0 < n
  pub fronts : (k : ℕ) → k < n → holds_of_shorter_fronts (take k given_octets)
  pub all : holds_of_front_taken (take n given_octets)

-- If a correspondent in this state isn't due, it isn't due either after it was told what ends in
-- these octets.
abbrev pub StaysUndue : {St : Type 0} (is_due : St → Bool)
    (state_after_call_event : St → CallEvent → St) (C : Table) (state_before : St)
    (header_ends_in : List ℕ → List HeaderEnd) (octets : List ℕ) → Type 0
StaysUndue due notified C state ends octets =
    due state ≡ false → due (after_ends notified C state (ends octets)) ≡ false
