-- The messages of a stream are numbered from 1, so each number has one header.
use Rattle.std.proofs.Common.{◌≡◌, ℕ, zero, suc, ◌+◌, ◌<◌, Bool, true, false, List, [], ◌∷◌, ◌++◌, length, take, drop, refl, sym, subst, Option, Some, None, arith}
use Rattle.std.specs.Prelude.{nat_lt, ◌==◌, if◌then◌else◌, option_to_list}
use Rattle.std.specs.List.{AllByRecursion as Each}
use Rattle.std.proofs.lemmas.Bool.{cases_lt, eq-eqb, ne_eqb}
use Rattle.giop_checkpoint.specs.declared.fault.StreamFault.{StreamFault}
use Rattle.giop_message.specs.Headers.{size}
use Rattle.giop_stream.specs.HeaderOctets.{first_wrong_octet}
use Rattle.giop_stream.specs.Framing.{CutMessage, with_first, cut_from, limit, limited, cut, messages}
use Rattle.giop_stream.proofs.Cuts.CutFrom.{cut_wrong, cut_short, cut_open, cut_more}

-- the numbers of the messages are n, n + 1, and so on
abbrev NumberedFrom : (n : ℕ) (messages : List CutMessage) → Type 0
NumberedFrom n [] = Unit {0}
NumberedFrom n (m ∷ ms) = (m.number ≡ n) × NumberedFrom (suc n) ms

from_cut : (fuel number before : ℕ) (xs : List ℕ) →
    NumberedFrom number (messages (cut_from fuel number before xs))
unfolding messages cut_from with_first
from_cut zero number before xs = tt
from_cut (suc fuel) number before xs =
    go (from_cut fuel (suc number) (before + 12 + size (take 12 xs))
    (drop (size (take 12 xs)) (drop 12 xs))) (first_wrong_octet (take 12 xs)) refl
  where
    go : NumberedFrom (suc number) (messages
        (cut_from fuel (suc number) (before + 12 + size (take 12 xs))
        (drop (size (take 12 xs)) (drop 12 xs))))
        → (o : Option (ℕ × StreamFault)) → first_wrong_octet (take 12 xs) ≡ o →
        NumberedFrom number (messages (cut_from (suc fuel) number before xs))
    go rest (Some found) e = search (arith, cut_wrong)
    go rest None e = search (arith, cases_lt, cut_short, drop, take, cut_open, cut_more)

limited_same : (b : Bool) (whole : List CutMessage) (current : Option CutMessage) (held : List ℕ)
    (stop : Option (ℕ × StreamFault))
    → messages (limited b (record { whole = whole; current = current; held = held; stop = stop }))
    ≡ whole ++ option_to_list current
unfolding messages limited
limited_same false whole current held stop = refl
limited_same true whole current held (Some found) = refl
limited_same true whole current held None = refl

numbered : (p : List ℕ) → NumberedFrom 1 (messages (cut p))
unfolding cut messages
numbered p =
    let c = cut_from (suc (length p)) 1 0 (take limit p) in
    subst (NumberedFrom 1) (sym (limited_same (nat_lt limit (length p)) c.whole c.current c.held
    c.stop)) (from_cut (suc (length p)) 1 0 (take limit p))

-- the header of the message that has a number
pub header_of_number : List CutMessage → ℕ → Option (List ℕ)
header_of_number [] n = None
header_of_number (m ∷ ms) n = if m.number == n then Some m.header else header_of_number ms n

abbrev IsOfNumber : (ms : List CutMessage) (message : CutMessage) → Type 0
IsOfNumber ms m = header_of_number ms m.number ≡ Some m.header

later : (k n : ℕ) (ms : List CutMessage) → n < k → NumberedFrom k ms → Each (λ m. n < m.number) ms
later k n [] h from = tt
later k n (m ∷ ms) h from = search (arith, later (suc k) n ms (omega (arith, h)) from.1)

found_after_first : (first : CutMessage) (ms some : List CutMessage) →
    Each (λ m. first.number < m.number) some →
    Each (IsOfNumber ms) some
    → Each (IsOfNumber (first ∷ ms)) some
unfolding header_of_number
found_after_first first ms [] above h = tt
found_after_first first ms (m ∷ some) above h =
    search (arith, ne_eqb, found_after_first first ms some above.1 h.1)

each_of_number : (k : ℕ) (ms : List CutMessage) → NumberedFrom k ms → Each (IsOfNumber ms) ms
unfolding header_of_number
each_of_number k [] from = tt
each_of_number k (m ∷ ms) from = (
  rw (eq-eqb m.number m.number refl) refl,
  found_after_first m ms ms (later (suc k) m.number ms (omega (arith, from.0)) from.1)
      (each_of_number (suc k) ms from.1),
)

pub own_header : (p : List ℕ) → Each (λ m.
    header_of_number (messages (cut p)) m.number ≡ Some m.header) (messages (cut p))
own_header p = each_of_number 1 (messages (cut p)) (numbered p)
