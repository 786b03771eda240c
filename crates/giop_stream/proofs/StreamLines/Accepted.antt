-- A message that begins with its request id, or is of 1.1, is never refused only because of its
-- header, if it has a place among the open messages.
use Rattle.std.proofs.Common.{inl, inr, ◌≡◌, ℕ, ◌<◌, true, false, List, None, refl, arith}
use Rattle.std.specs.Prelude.{nat_lt, ◌==◌, ◌&&◌}
use Rattle.std.proofs.lemmas.Bool.{ne_eqb, and_parts, and_right, eqb-true, le-ltb, or_cases}
use Rattle.giop_message.specs.Headers.{minor, kind, has_more, may_be_fragmented, is_opener_1_2, is_fragment_1_2, is_cancel_request, begins_with_request_id}
use Rattle.giop_stream.specs.Kinds.{is_opener_1_1, is_fragment_1_1, is_fragmented_1_1, header_fault}
use Rattle.giop_stream.proofs.Events.MessageKinds.{old_opener_low, old_fragment_kind, old_fragment_minor}

refused_by : (h : List ℕ) (k : ℕ) → kind h ≡ k → nat_lt 7 k ≡ false → (k == 7) ≡ false →
    (minor h == 1) ≡ false → header_fault h ≡ None
unfolding header_fault
refused_by h k e low other version = search (arith)

opener_accepted : (h : List ℕ) → is_opener_1_2 h ≡ true → header_fault h ≡ None
unfolding is_opener_1_2 may_be_fragmented
opener_accepted h o = search (arith, and_parts, eqb-true, ne_eqb, or_cases, refused_by)

fragment_accepted : (h : List ℕ) → is_fragment_1_2 h ≡ true → header_fault h ≡ None
unfolding is_fragment_1_2 header_fault
fragment_accepted h f = search (arith, and_parts, eqb-true)

-- a message of one of these types
low_accepted : (h : List ℕ) (k : ℕ) → kind h ≡ k → k < 3 → header_fault h ≡ None
unfolding header_fault
low_accepted h k e low =
    let within : nat_lt 7 (kind h) ≡ false = le-ltb 7 (kind h) (omega (arith, e, low)) in
    let a : (kind h == 7) ≡ false = ne_eqb _ _ (λ s. omega (arith, e, low, s)) in
    let b : (kind h == 3) ≡ false = ne_eqb _ _ (λ s. omega (arith, e, low, s)) in
    let c : (kind h == 4) ≡ false = ne_eqb _ _ (λ s. omega (arith, e, low, s)) in
    rw (within, a, b, c, and_right ((minor h == 1) && has_more h) false refl) refl

cancel_accepted : (h : List ℕ) → is_cancel_request h ≡ true → header_fault h ≡ None
unfolding is_cancel_request
cancel_accepted h c = low_accepted h 2 (eqb-true _ _ c) (omega arith)

old_opener_accepted : (h : List ℕ) → is_opener_1_1 h ≡ true → header_fault h ≡ None
old_opener_accepted h o = low_accepted h (kind h) refl (omega (arith, old_opener_low h o))

old_fragment_accepted : (h : List ℕ) → is_fragment_1_1 h ≡ true → header_fault h ≡ None
unfolding header_fault
old_fragment_accepted h f = rw (old_fragment_kind h f, old_fragment_minor h f)
    (rw (and_right (has_more h) false refl) refl)

pub old_accepted : (h : List ℕ) → is_fragmented_1_1 h ≡ true → header_fault h ≡ None
unfolding is_fragmented_1_1
old_accepted h e = elim (or_cases _ _ e) [
  | inl o ↦ old_opener_accepted h o
  | inr f ↦ old_fragment_accepted h f
]

pub named_accepted : (h : List ℕ) → begins_with_request_id h ≡ true → header_fault h ≡ None
named_accepted h n = search (arith, or_cases, cancel_accepted, opener_accepted, fragment_accepted)
