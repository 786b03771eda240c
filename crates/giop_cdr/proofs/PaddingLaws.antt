-- Laws of the padding that is computed: its value by the remainder; that it aligns an offset; and
-- that it depends only on the offset modulo 8.
use Rattle.std.proofs.Common.{◌≡◌, ◌≢◌, ℕ, ◌+◌, ◌-◌, ◌%◌, inl, inr, sym, arith}
use Rattle.giop_cdr.specs.Alignment.{IsAlignment, padding}

-- an alignment has one of four sizes: what holds for all four holds for it
pub by_alignment : (P : ℕ → Type 0) (size : ℕ) → IsAlignment size → P 1 → P 2 → P 4 → P 8 → P size
by_alignment P size (inl e) p1 p2 p4 p8 = rw e p1
by_alignment P size (inr (inl e)) p1 p2 p4 p8 = rw e p2
by_alignment P size (inr (inr (inl e))) p1 p2 p4 p8 = rw e p4
by_alignment P size (inr (inr (inr e))) p1 p2 p4 p8 = rw e p8

-- there is no padding if the offset is a multiple of the size
pub padding-aligned : (at size : ℕ) → IsAlignment size → at % size ≡ 0 → padding at size ≡ 0
unfolding padding
padding-aligned at size h = by_alignment (λ n. at % n ≡ 0 → (n - at % n) % n ≡ 0) size h
    (λ e. omega arith) (λ e. omega arith) (λ e. omega arith) (λ e. omega arith)

-- else the padding and the remainder together are the size
pub padding-remainder : (at size : ℕ) → IsAlignment size → at % size ≢ 0 →
    padding at size + at % size ≡ size
unfolding padding
padding-remainder at size h =
    by_alignment (λ n. at % n ≢ 0 → (n - at % n) % n + at % n ≡ n) size h (λ e. omega arith)
    (λ e. omega arith) (λ e. omega arith) (λ e. omega arith)

-- after the padding the offset is a multiple of the size
pub padding_aligns : (at size : ℕ) → IsAlignment size → (at + padding at size) % size ≡ 0
unfolding padding
padding_aligns at size h = by_alignment (λ n. (at + (n - at % n) % n) % n ≡ 0) size h (omega arith)
    (omega arith) (omega arith) (omega arith)

-- padding depends only on the offset modulo 8
pub padding-modulo : (at place size : ℕ) → IsAlignment size → at % 8 ≡ place % 8 →
    padding at size ≡ padding place size
unfolding padding
padding-modulo at place size h =
    by_alignment (λ n. at % 8 ≡ place % 8 → (n - at % n) % n ≡ (n - place % n) % n) size h
    (λ e. omega arith) (λ e. omega arith) (λ e. omega arith) (λ e. omega arith)

-- `pad` computes the padding by the remainder
pub padding-none : (at size : ℕ) → IsAlignment size → at % size ≡ 0 → 0 ≡ padding at size
padding-none at size h e = sym (padding-aligned at size h e)

pub padding-rest : (at size : ℕ) → IsAlignment size → at % size ≢ 0 →
    size - at % size ≡ padding at size
padding-rest at size h e = let sum : padding at size + at % size ≡ size =
    padding-remainder at size h e in omega arith

pub ruleset padding_counts = (padding-none, padding-rest)
