-- How one more read of a source leads on.
use Rattle.std.proofs.Common.{◌≡◌, ◌∙◌, ℕ, ◌+◌, ◌<◌, ◌≤◌, Bool, true, false, List, [], ◌++◌, Option, Some, None, Err, Ok, length, take, length-take, length-append, sym, ap, append_assoc, refl, inl, inr, ◌⊎◌, ◌==◌, ◌&&◌, nat_lt, if◌then◌else◌, arith}
use Rattle.std.specs.Io.KnownBytes.{Consumes}
use Rattle.std.proofs.lemmas.Bool.{eq-eqb, ne_eqb, lt-ltb}
use Rattle.capture_file.specs.declared.capture.Capture.{Capture}
use Rattle.giop_print.specs.Output.{saturating_next}
use Rattle.giop_run.specs.SourceLog.{SourceLog}
use Rattle.giop_run.specs.Running.{ReadFoundEnd}
use Rattle.giop_run.specs.declared.fault.RunFault.{RunFault}
use Rattle.giop_run.specs.declared.fault.RunFault.TheVariants as faults
use Rattle.giop_capture.specs.Packets.{PacketView, HasGivenPackets, HasGivenUpToFault, ReadAll, ReadToEnd, HasReadOnce, Ran}

consumes_append : (x y z : Option (List ℕ)) (s t : List ℕ) → Consumes x y s → Consumes y z t
    → Consumes x z (s ++ t)
consumes_append None y z s t p q = tt
consumes_append (Some xs) None z s t p q = absurd p
consumes_append (Some xs) (Some ys) None s t p q = absurd q
consumes_append (Some xs) (Some ys) (Some zs) s t p q =
    p ∙ (ap (λ v. s ++ v) q ∙ sym (append_assoc s t zs))

-- one more read, in a count that has room for it
pub one_more_read : (before so_far turns after most : ℕ) → so_far ≤ before + turns
    → after ≡ saturating_next so_far → turns < most → after ≤ before + most
unfolding saturating_next
one_more_read before so_far turns after most below one room = omega arith

-- if a read gave octets, the source isn't at its end
pub not_end : (into : List ℕ) (n before after : ℕ) → 0 < n
    → after ≡ (if n == 0 && nat_lt 0 (length into) then saturating_next before else before)
    → after ≡ before
not_end into n before after some is = is ∙ rw (ne_eqb n 0 (λ none. omega arith)) refl

-- if a read gave none though there was slot, the source is at its end
pub is_end : (into : List ℕ) (n before after : ℕ) → n ≡ 0 → 0 < length into
    → after ≡ (if n == 0 && nat_lt 0 (length into) then saturating_next before else before)
    → after ≡ saturating_next before
is_end into n before after none room is =
    is ∙ rw (eq-eqb n 0 none, lt-ltb 0 (length into) room) refl

-- the octets of a read, whose packets were given to the listener
pub handed_once : (goes_on : Bool) (HasTaken : List PacketView → Type 0) (c : Capture)
    (p s : List ℕ)
    (before after : SourceLog) → 0 < length s → Consumes before.left after.left s
    → after.failures ≡ before.failures → after.ends ≡ before.ends
    → HasGivenUpToFault goes_on HasTaken c p s → HasReadOnce (Ok goes_on) HasTaken c p s before
    after
handed_once true HasTaken c p s before after some given failures ends handed =
    (record { given = given; failures = failures; ends = ends; handed = handed }, some)
handed_once false HasTaken c p s before after some given failures ends (read, rest, handed, shows) =
    record {
      given = given;
      failures = failures;
      read = read;
      rest = rest;
      handed = handed;
      over = inr shows;
    }

-- if a read gave octets, the list of them isn't empty
pub some_given : (into : List ℕ) (n : ℕ) → n ≤ length into → 0 < n → 0 < length (take n into)
some_given into n within some = let l = length-take n into in omega arith

-- each read gives at least one more octet
pub longer : (s t : List ℕ) (turns : ℕ) → turns ≤ length s → 0 < length t →
    turns + 1 ≤ length (s ++ t)
longer s t turns so_far some = let l = length-append s t in omega arith

-- what holds of the octets after others holds of all of them together
handed_behind : (HasTaken : List PacketView → Type 0) (c : Capture) (s t read rest : List ℕ)
    → HasGivenPackets HasTaken c s t read rest → HasGivenPackets HasTaken c [] (s ++ t) (s ++ read)
    rest
handed_behind HasTaken c s t read rest h =
    record {
      parts = ap (λ v. s ++ v) h.parts ∙ sym (append_assoc s read rest);
      reads = h.reads;
      taken = h.taken;
    }

pub all_after : (Before HasTaken : List PacketView → Type 0) (c d : Capture) (s t : List ℕ)
    (before between after : SourceLog) → ReadAll Before c [] s before between
    → ReadAll HasTaken d s t between after → ReadAll HasTaken d [] (s ++ t) before after
all_after Before HasTaken c d s t before between after so_far more =
    record {
      given = consumes_append before.left between.left after.left s t so_far.given more.given;
      failures = more.failures ∙ so_far.failures;
      ends = more.ends ∙ so_far.ends;
      handed = handed_behind HasTaken d s t t [] more.handed;
    }

over_after : (X : Type 0) (rest : List ℕ) (before between after : SourceLog)
    → between.ends ≡ before.ends → (ReadFoundEnd between after × (rest ≡ [])) ⊎ X
    → (ReadFoundEnd before after × (rest ≡ [])) ⊎ X
over_after X rest before between after same (inl (ended, none)) =
    inl (record { answered = ended.answered ∙ ap saturating_next same; none = ended.none }, none)
over_after X rest before between after same (inr x) = inr x

pub end_after : (Before HasTaken : List PacketView → Type 0) (c d : Capture) (s t : List ℕ)
    (before between after : SourceLog) → ReadAll Before c [] s before between
    → ReadToEnd HasTaken d s t between after → ReadToEnd HasTaken d [] (s ++ t) before after
end_after Before HasTaken c d s t before between after so_far more =
    record {
      given = consumes_append before.left between.left after.left s t so_far.given more.given;
      failures = more.failures ∙ so_far.failures;
      read = s ++ more.read;
      rest = more.rest;
      handed = handed_behind HasTaken d s t more.read more.rest more.handed;
      over = over_after _ more.rest before between after so_far.ends more.over;
    }

pub failed_after : (fault : RunFault) (Before HasTaken : List PacketView → Type 0) (c d : Capture)
    (s t : List ℕ) (before between after : SourceLog) → ReadAll Before c [] s before between
    → HasReadOnce (Err fault) HasTaken d s t between after →
    Ran (Err fault) HasTaken d (s ++ t) before after
failed_after faults.Read Before HasTaken c d s t before between after so_far more =
    record {
      given = consumes_append before.left between.left after.left s t so_far.given more.given;
      failures = more.failures ∙ ap saturating_next so_far.failures;
      handed = handed_behind HasTaken d s t t [] more.handed;
    }
failed_after faults.Turns Before HasTaken c d s t before between after so_far more = absurd more
failed_after faults.Out Before HasTaken c d s t before between after so_far more =
    record {
      given = consumes_append before.left between.left after.left s t so_far.given more.given;
      failures = more.failures ∙ so_far.failures;
    }
failed_after faults.Failed Before HasTaken c d s t before between after so_far more = absurd more
