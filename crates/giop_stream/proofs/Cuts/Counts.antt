-- How many octets and messages a stream can count.
use Rattle.std.proofs.Common.{◌≡◌, ℕ, suc, ◌+◌, ◌≤◌, Bool, true, false, List, [], ◌∷◌, ◌++◌, length, Option, Some, None, arith, append-nil}
use Rattle.std.specs.Prelude.{◌*◌, ◌==◌, nat_lt}
use Rattle.std.proofs.lemmas.Bool.{cases_lt, lt-ltb, le-ltb, eqb-true}
use Rattle.std.proofs.lemmas.List.{length_push}
use Rattle.giop_checkpoint.specs.declared.fault.StreamFault.{StreamFault}
use Rattle.giop_message.specs.MessageReader.{KeepsEarlierLines, IsStreamable}
use Rattle.giop_stream.specs.Rules.{Rules}
use Rattle.giop_stream.specs.Framing.{CutMessage, Cut, cut, limit, messages, octets_read}
use Rattle.giop_stream.specs.Stream.{totals_so_far}
use Rattle.giop_stream.proofs.Lists.{by_growth}
use Rattle.giop_stream.proofs.Cuts.Start.{cut_nothing}
use Rattle.giop_stream.proofs.Cuts.Cutting.{cut_of_parts, next_cut, cut_grows, next_limit, next_payload, next_front, next_stopped}
use Rattle.giop_stream.proofs.Cuts.CutFrom.{cut_with_last_message, header_case}
use Rattle.giop_stream.proofs.CodeSteps.EngineAlive.{sound}

-- bounds for a stream of n octets with `count` messages and `held` octets of the next header
abbrev CountsAreWithin : (n count held : ℕ) (found : Option (ℕ × StreamFault)) → Type 0
CountsAreWithin n count held (Some found) = (found.0 ≤ suc limit) × (12 * count ≤ found.0)
CountsAreWithin n count held None = (n ≤ limit) × (12 * count + held ≤ n)

IsCutCounted : ℕ → Cut → Type 0
IsCutCounted n c = CountsAreWithin n (length (messages c)) (length c.held) c.stop

settled : (n : ℕ) (whole : List CutMessage) (m : CutMessage) → n ≤ limit →
    12 * suc (length whole) ≤ n →
    IsCutCounted n (cut_with_last_message whole m)
unfolding IsCutCounted cut_with_last_message messages
settled n whole m room h = search (arith, length_push, append-nil)

fronted : (n : ℕ) (whole : List CutMessage) (front : List ℕ) (w : Option StreamFault) (b : Bool) →
    (length front == 12) ≡ b → n ≤ limit → 12 * length whole + length front ≤ n
    → IsCutCounted n (header_case 1 n whole front w b)
unfolding IsCutCounted header_case messages
fronted n whole front (Some word) b e room h = search (arith, append-nil)
fronted n whole front None false e room h = search (arith, append-nil)
fronted n whole front None true e room h = search (arith, settled, eqb-true)

counted_free : (n x : ℕ) (whole : List CutMessage) (current : Option CutMessage) (held : List ℕ) →
    IsCutCounted n (cut_of_parts whole current held None)
    → nat_lt limit (suc n) ≡ false → suc n ≤ limit →
    IsCutCounted (suc n) (next_cut n x (cut_of_parts whole current held None))
unfolding IsCutCounted cut_of_parts messages
counted_free n x whole (Some m) held h e room = search (arith, next_payload, settled, length_push)
counted_free n x whole None held h e room = search (
  arith,
  append-nil,
  next_front,
  fronted,
  length_push,
)

counted_next : (n x : ℕ) (whole : List CutMessage) (current : Option CutMessage) (held : List ℕ)
    (stop : Option (ℕ × StreamFault))
    → IsCutCounted n (cut_of_parts whole current held stop) →
    IsCutCounted (suc n) (next_cut n x (cut_of_parts whole current held stop))
unfolding IsCutCounted cut_of_parts messages
counted_next n x whole current held (Some found) h = search (arith, next_stopped)
counted_next n x whole current held None h = search (
  arith,
  cases_lt,
  next_limit,
  lt-ltb,
  counted_free,
  le-ltb,
)

counted_nothing : IsCutCounted 0 (cut [])
unfolding IsCutCounted cut_of_parts messages
counted_nothing = search (arith, cut_nothing)

counted_more : (p : List ℕ) (x : ℕ) → IsCutCounted (length p) (cut p) →
    IsCutCounted (length (p ++ x ∷ [])) (cut (p ++ x ∷ []))
unfolding cut_of_parts
counted_more p x h =
    let c = cut p in
    let len : length (p ++ x ∷ []) ≡ suc (length p) = omega (arith, length_push p x) in
    rw (len, cut_grows p x) (counted_next (length p) x c.whole c.current c.held c.stop h)

counted : (p : List ℕ) → IsCutCounted (length p) (cut p)
counted = search (arith, by_growth, counted_nothing, counted_more)

read_few : (p : List ℕ) (c : Cut) (stop : Option (ℕ × StreamFault)) →
    CountsAreWithin (length p) (length (messages c)) (length c.held) stop →
    octets_read p stop ≤ suc limit
unfolding octets_read
read_few p c (Some found) h = h.0
read_few p c None h = omega (arith, h.0)

read_free : (p : List ℕ) (c : Cut) (stop : Option (ℕ × StreamFault)) →
    CountsAreWithin (length p) (length (messages c)) (length c.held) stop → stop ≡ None →
    octets_read p stop ≤ limit
unfolding octets_read
read_free p c (Some found) h e = absurd cc
read_free p c None h e = h.0

read_many : (p : List ℕ) (c : Cut) (stop : Option (ℕ × StreamFault)) →
    CountsAreWithin (length p) (length (messages c)) (length c.held) stop →
    12 * length (messages c) ≤ octets_read p stop
unfolding octets_read
read_many p c (Some found) h = h.1
read_many p c None h = omega (arith, h.1)

pub octets_few : (R : Rules) (p : List ℕ) → (totals_so_far R p).octets ≤ suc limit
unfolding totals_so_far IsCutCounted
octets_few R p = search (arith, read_few, counted)

pub octets_free : (R : Rules) (p : List ℕ) → (cut p).stop ≡ None →
    (totals_so_far R p).octets ≤ limit
unfolding totals_so_far IsCutCounted
octets_free R p free = search (arith, read_free, counted)

pub messages_few : (R : Rules) → KeepsEarlierLines R.reading → IsStreamable R.reading →
    (p : List ℕ) →
    12 * (totals_so_far R p).messages ≤ (totals_so_far R p).octets
unfolding totals_so_far IsCutCounted
messages_few R causal laws p = rw ((sound R causal laws p).starts)
    (read_many p (cut p) (cut p).stop (counted p))
