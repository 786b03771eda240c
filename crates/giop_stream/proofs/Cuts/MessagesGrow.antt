-- If more octets come, as many messages of a stream have begun, or more.
use Rattle.std.proofs.Common.{◌≡◌, ℕ, suc, ◌+◌, ◌-◌, ◌≤◌, Bool, true, false, List, [], ◌∷◌, ◌++◌, length, Option, Some, None, refl, ap, append-nil, append_assoc, length-append, arith}
use Rattle.std.specs.Prelude.{◌==◌, nat_lt}
use Rattle.std.proofs.lemmas.List.{length_push}
use Rattle.giop_checkpoint.specs.declared.fault.StreamFault.{StreamFault}
use Rattle.giop_stream.specs.HeaderOctets.{last_octet_fault}
use Rattle.giop_stream.specs.Framing.{CutMessage, Cut, limit, cut, messages, with_payload}
use Rattle.giop_stream.proofs.Cuts.Cutting.{cut_of_parts, next_cut, cut_grows, next_limit, next_payload, next_front, next_stopped, settled_messages}
use Rattle.giop_stream.proofs.Cuts.CutFrom.{header_case}

-- how many messages a cut has
abbrev Count : (cut_stream : Cut) → ℕ
Count c = length (messages c)

front_grows : (first n : ℕ) (whole : List CutMessage) (front : List ℕ) (o : Option StreamFault)
    (full : Bool) → length whole ≤ Count (header_case first n whole front o full)
unfolding header_case messages
front_grows first n whole front (Some word) full = omega (arith, length-append whole [])
front_grows first n whole front None false = omega (arith, length-append whole [])
front_grows first n whole front None true =
    let m : CutMessage = record {
      number = first + length whole;
      before = n - 12;
      header = front;
      payload = [];
    } in
    omega (arith, ap length (settled_messages whole m), length_push whole m)

module _ (whole : List CutMessage) (held : List ℕ) (n x : ℕ) where
  next_grows : (current : Option CutMessage) (stop : Option (ℕ × StreamFault)) →
      Count (cut_of_parts whole current held stop) ≤ Count (next_cut n x
      (cut_of_parts whole current held stop))
  unfolding cut_of_parts messages
  next_grows current (Some found) = omega (
    arith,
    ap Count (next_stopped whole current held found
        n x),
  )
  next_grows current None = go (nat_lt limit (suc n)) refl current
    where
      go : (b : Bool) → nat_lt limit (suc n) ≡ b → (current : Option CutMessage) →
          Count (cut_of_parts whole current held None)
          ≤ Count (next_cut n x (cut_of_parts whole current held None))
      go true e current = omega (arith, ap Count (next_limit whole current held n x e))
      go false e (Some m) = omega (
        arith,
        ap Count (next_payload whole m held n x e),
        ap length (settled_messages whole (with_payload m (m.payload ++ x ∷ []))),
        length_push whole (with_payload m (m.payload ++ x ∷ [])),
        length_push whole m,
      )
      go false e None = omega (
        arith,
        ap Count (next_front whole held n x e),
        front_grows 1 (suc n) whole (held ++ x ∷ []) (last_octet_fault (held ++ x ∷ []))
            (length (held ++ x ∷ []) == 12),
        length-append whole [],
      )

one_grows : (p : List ℕ) (x : ℕ) → Count (cut p) ≤ Count (cut (p ++ x ∷ []))
unfolding cut_of_parts
one_grows p x = omega (
  arith,
  ap Count (cut_grows p x),
  next_grows (cut p).whole (cut p).held (length p) x (cut p).current (cut p).stop,
)

pub messages_grow : (q p : List ℕ) → Count (cut p) ≤ Count (cut (p ++ q))
messages_grow [] p = omega (arith, ap (λ z. Count (cut z)) (append-nil p))
messages_grow (x ∷ q) p = omega (
  arith,
  one_grows p x,
  messages_grow q (p ++ x ∷ []),
  ap (λ z. Count (cut z)) (append_assoc p (x ∷ []) q),
)
