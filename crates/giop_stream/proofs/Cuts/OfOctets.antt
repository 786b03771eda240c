-- The header of the current message consists of octets, and none of them is wrong; its size is
-- below 2^32.
use Rattle.std.proofs.Common.{inl, inr, ◌≡◌, ℕ, zero, suc, ◌+◌, ◌^◌, ◌<◌, Bool, true, false, List, length, take, drop, refl, Option, Some, None, arith, length-drop}
use Rattle.std.specs.Prelude.{nat_lt, IfSome}
use Rattle.std.proofs.lemmas.Bool.{cases_lt}
use Rattle.std.proofs.lemmas.List.Elements.{All-take, All-drop}
use Rattle.giop_cdr.specs.Numbers.{AreOctets}
use Rattle.giop_cdr.proofs.NumberLaws.{num_bound-4}
use Rattle.giop_message.specs.Headers.{order, size}
use Rattle.giop_checkpoint.specs.declared.fault.StreamFault.{StreamFault}
use Rattle.giop_stream.specs.HeaderOctets.{first_wrong_octet}
use Rattle.giop_stream.specs.Framing.{Cut, with_first, cut_from, limit, stop_or_limit, limited, cut}
use Rattle.giop_stream.proofs.Cuts.CutFrom.{cut_wrong, cut_short, cut_open, cut_more}

-- the header of the current message consists of octets, and none of them is wrong
abbrev pub HeaderOctets : (cut_stream : Cut) → Type 0
HeaderOctets c = IfSome c.current (λ m. AreOctets m.header × (first_wrong_octet m.header ≡ None))

from_by : (fuel number before : ℕ) (xs : List ℕ) → AreOctets xs
    → ((number before : ℕ) (ys : List ℕ) → AreOctets ys →
    HeaderOctets (cut_from fuel number before ys))
    → (o : Option (ℕ × StreamFault)) → first_wrong_octet (take 12 xs) ≡ o →
    HeaderOctets (cut_from (suc fuel) number before xs)
unfolding with_first
from_by fuel number before xs h ih (Some found) e = rw (cut_wrong fuel number before xs found e) tt
from_by fuel number before xs h ih None e = elim (cases_lt (length xs) 12) [
  | inl short ↦ rw (cut_short fuel number before xs e short) tt
  | inr long ↦ elim (cases_lt (length (drop 12 xs)) (size (take 12 xs))) [
    | inl lacks ↦ rw (cut_open fuel number before xs e long lacks)
        (All-take (λ x. x < 256) 12 xs h, e)
    | inr full ↦
        let header = take 12 xs in
        rw (cut_more fuel number before xs e long full)
        (ih (suc number) (before + 12 + size header) (drop (size header) (drop 12 xs))
        (All-drop (λ x. x < 256) (size header) (drop 12 xs) (All-drop (λ x. x < 256) 12 xs h)))
  ]
]

from_octets : (fuel number before : ℕ) (xs : List ℕ) → AreOctets xs →
    HeaderOctets (cut_from fuel number before xs)
unfolding cut_from
from_octets zero number before xs h = tt
from_octets (suc fuel) number before xs h =
    from_by fuel number before xs h (λ n b ys k. from_octets fuel n b ys k)
    (first_wrong_octet (take 12 xs)) refl

pub header_octets : (p : List ℕ) → AreOctets p → HeaderOctets (cut p)
unfolding cut limited
header_octets p h = go (nat_lt limit (length p))
  where
    whole : Cut
    whole = cut_from (suc (length p)) 1 0 (take limit p)

    all : HeaderOctets whole
    all = from_octets (suc (length p)) 1 0 (take limit p) (All-take (λ x. x < 256) limit p h)

    stopped : (o : Option (ℕ × StreamFault)) → HeaderOctets (stop_or_limit o whole)
    stopped (Some found) = all
    stopped None = all

    go : (b : Bool) → HeaderOctets (limited b whole)
    go true = stopped whole.stop
    go false = all

pub size_fits : (header : List ℕ) → AreOctets header → length header ≡ 12 → size header < 2 ^ 32
unfolding size
size_fits header h twelve = num_bound-4 (order header) (drop 8 header)
    (All-drop (λ x. x < 256) 8 header h) (omega (arith, length-drop 8 header, twelve))
