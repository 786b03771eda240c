-- The cut of a stream with one more octet, from the cut of the stream.
use Rattle.std.proofs.Common.{◌≡◌, ℕ, suc, ◌+◌, ◌<◌, ◌≤◌, true, false, List, [], ◌∷◌, ◌++◌, length, take, refl, Option, Some, None, arith, length-take}
use Rattle.std.specs.Prelude.{nat_lt, ◌==◌, if◌then◌else◌}
use Rattle.std.proofs.lemmas.Bool.{lt-ltb, le-ltb, cases_lt}
use Rattle.std.proofs.lemmas.List.{take-append-le, take_all, length_push, append-nil}
use Rattle.giop_checkpoint.specs.declared.fault.StreamFault.{StreamFault}
use Rattle.giop_checkpoint.specs.declared.fault.StreamFault.TheVariants.{StreamLimit}
use Rattle.giop_stream.specs.HeaderOctets.{last_octet_fault}
use Rattle.giop_stream.specs.Framing.{CutMessage, with_payload, Cut, cut_from, limit, limited, cut, messages}
use Rattle.giop_stream.proofs.Cuts.CutFrom.{cut_with_last_message, header_case, cut_with_header_octet, cut_with_octet, cut_from_grows, more_fuel}

-- The cut of the whole stream, with its limit.
unfoldable pub cut_stopped_at : (n : ℕ) (word : StreamFault) (cut_stream : Cut) → Cut
cut_stopped_at n word c = record c { held = []; stop = Some (n, word) }

abbrev pub next_cut_by : (n x : ℕ) (cut_stream : Cut) (found : Option (ℕ × StreamFault)) → Cut
next_cut_by n x c (Some found) = c
next_cut_by n x c None = if nat_lt limit (suc n) then cut_stopped_at
    (suc n) StreamLimit c else cut_with_octet 1
    (suc n) x c

unfoldable pub next_cut : (n x : ℕ) (cut_stream : Cut) → Cut
next_cut n x c = next_cut_by n x c c.stop

inner : List ℕ → Cut
inner p = cut_from (suc (length p)) 1 0 (take limit p)

below_is : (p : List ℕ) → length p ≤ limit → cut p ≡ cut_from (suc (length p)) 1 0 p
unfolding cut limited
below_is p h = search (arith, le-ltb, take_all)

all_inner : (p : List ℕ) → length p ≤ limit → inner p ≡ cut_from (suc (length p)) 1 0 p
unfolding inner
all_inner p h = rw (take_all limit p h) refl

above_is : (p : List ℕ) → limit < length p → cut p ≡ limited true (inner p)
unfolding cut inner
above_is p h = search (arith, lt-ltb)

unfoldable pub cut_of_parts : (whole : List CutMessage) (current : Option CutMessage)
    (held : List ℕ)
    (stop : Option (ℕ × StreamFault)) → Cut
cut_of_parts whole current held stop = record {
  whole = whole;
  current = current;
  held = held;
  stop =
      stop;
}

pub parts_by : (c : Cut) (current : Option CutMessage) (found : Option (ℕ × StreamFault)) →
    c.current ≡ current
    → c.stop ≡ found → c ≡ cut_of_parts c.whole current c.held found
unfolding cut_of_parts
parts_by c current found e f = search (arith)

limited_stop_at : (whole : List CutMessage) (current : Option CutMessage) (held : List ℕ)
    (stop : Option (ℕ × StreamFault))
    (n x : ℕ) → next_cut n x (limited true (cut_of_parts whole current held stop))
    ≡ limited true (cut_of_parts whole current held stop)
unfolding limited next_cut cut_of_parts
limited_stop_at whole current held (Some found) n x = refl
limited_stop_at whole current held None n x = refl

limited_stop : (c : Cut) (n x : ℕ) → next_cut n x (limited true c) ≡ limited true c
unfolding cut_of_parts
limited_stop c n x = search (arith, limited_stop_at)

at_limit_at : (whole : List CutMessage) (current : Option CutMessage) (held : List ℕ)
    (stop : Option (ℕ × StreamFault)) (n x : ℕ)
    → n ≡ limit → limited true (cut_of_parts whole current held stop)
    ≡ next_cut n x (cut_of_parts whole current held stop)
unfolding limited next_cut cut_of_parts cut_stopped_at
at_limit_at whole current held (Some found) n x h = refl
at_limit_at whole current held None n x h = search (arith, lt-ltb)

at_limit : (c : Cut) (n x : ℕ) → n ≡ limit → limited true c ≡ next_cut n x c
unfolding cut_of_parts
at_limit c n x h = at_limit_at c.whole c.current c.held c.stop n x h

grows_free_at : (n x : ℕ) (whole : List CutMessage) (current : Option CutMessage) (held : List ℕ)
    (stop : Option (ℕ × StreamFault)) → n < limit
    → cut_with_octet 1 (suc n) x (cut_of_parts whole current held stop)
    ≡ next_cut n x (cut_of_parts whole current held stop)
unfolding cut_with_octet next_cut cut_of_parts
grows_free_at n x whole current held (Some found) h = refl
grows_free_at n x whole current held None h = search (arith, le-ltb)

grows_free : (n x : ℕ) (c : Cut) → n < limit → cut_with_octet 1 (suc n) x c ≡ next_cut n x c
unfolding cut_of_parts
grows_free n x c h = search (arith, grows_free_at)

inner_same : (p : List ℕ) (x : ℕ) → limit ≤ length p → inner (p ++ x ∷ []) ≡ inner p
unfolding inner
inner_same p x h = search (arith, length_push, take-append-le, more_fuel, take, length-take)

zero_is : (n : ℕ) → suc (0 + n) ≡ suc n
zero_is n = omega arith

pub cut_grows : (p : List ℕ) (x : ℕ) → cut (p ++ x ∷ []) ≡ next_cut (length p) x (cut p)
cut_grows p x = search (
  arith,
  cases_lt,
  length_push,
  below_is,
  cut_from_grows,
  more_fuel,
  zero_is,
  grows_free,
  above_is,
  inner_same,
  limited_stop,
  all_inner,
  at_limit,
)

-- ---- A message that may be complete with this octet.

pub settle_stop : (whole : List CutMessage) (m : CutMessage) →
    (cut_with_last_message whole m).stop ≡ None
unfolding cut_with_last_message
settle_stop whole m = search (arith)

pub settled_messages : (whole : List CutMessage) (m : CutMessage) →
    messages (cut_with_last_message whole m) ≡ whole
    ++ m ∷ []
unfolding cut_with_last_message messages
settled_messages whole m = search (arith, append-nil)

-- ---- The next octet, from the parts of the cut.

pub next_limit : (c : List CutMessage) (current : Option CutMessage) (held : List ℕ) (n x : ℕ) →
    nat_lt limit (suc n) ≡ true
    → next_cut n x (cut_of_parts c current held None) ≡ cut_of_parts c current [] (Some (
      suc n,
      StreamLimit,
    ))
unfolding next_cut cut_of_parts cut_stopped_at
next_limit c current held n x k = rw k refl

pub next_payload : (c : List CutMessage) (m : CutMessage) (held : List ℕ) (n x : ℕ) →
    nat_lt limit (suc n) ≡ false
    → next_cut n x (cut_of_parts c (Some m) held None)
    ≡ cut_with_last_message c (with_payload m (m.payload ++ x ∷ []))
unfolding next_cut cut_of_parts cut_with_octet
next_payload c m held n x k = rw k refl

pub next_front : (c : List CutMessage) (held : List ℕ) (n x : ℕ) → nat_lt limit (suc n) ≡ false
    → next_cut n x (cut_of_parts c None held None)
    ≡ header_case 1 (suc n) c (held ++ x ∷ []) (last_octet_fault (held ++ x ∷ []))
    (length (held ++ x ∷ []) == 12)
unfolding next_cut cut_of_parts cut_with_octet cut_with_header_octet
next_front c held n x k = rw k refl

pub next_stopped : (c : List CutMessage) (current : Option CutMessage) (held : List ℕ)
    (found : ℕ × StreamFault) (n x : ℕ)
    → next_cut n x (cut_of_parts c current held (Some found)) ≡ cut_of_parts c current held
    (Some found)
unfolding next_cut cut_of_parts
next_stopped c current held found n x = refl
