-- Messages that follow one another up to the end, step by step.
use Rattle.std.proofs.Common.{◌≡◌, ℕ, zero, suc, ◌-◌, ◌<◌, ◌≤◌, Bool, true, false, cond, nat_eq, ◌||◌, List, [], ◌∷◌, length, drop, Option, Some, None, refl, ap, arith, true≢false}
use Rattle.std.proofs.lemmas.Bool.{eq-eqb, eqb-true, ne_eqb}
use Rattle.tcp_flow.specs.Flow.{index_of_header, message_end, may_be_header, chain_from, is_chain, stream_begin_in}

pub some_octets : (xs : List ℕ) → nat_eq (length xs) 0 ≡ false → 0 < length xs
some_octets [] e = absurd (true≢false e)
some_octets (x ∷ xs) e = omega arith

pub no_octets : (xs : List ℕ) → nat_eq (length xs) 0 ≡ true → length xs ≡ 0
no_octets xs e = eqb-true (length xs) 0 e

-- nothing comes after the last message
pub chain_over : (count : ℕ) (whole : Bool) (xs : List ℕ) → length xs ≡ 0 →
    chain_from count whole xs ≡ whole
unfolding chain_from
chain_over zero whole xs e = refl
chain_over (suc n) whole xs e = search (arith, eq-eqb)

-- octets that begin no message
pub chain_broken : (count : ℕ) (whole : Bool) (xs : List ℕ) → 0 < length xs → length xs ≤ count →
    may_be_header xs ≡ false → chain_from count whole xs ≡ false
unfolding chain_from
chain_broken zero whole xs s l f = absurd (omega (arith, s, l))
chain_broken (suc n) whole xs s l f = search (arith, ne_eqb)

-- a message that is cut
pub chain_cut : (count : ℕ) (whole : Bool) (xs : List ℕ) → 0 < length xs → length xs ≤ count →
    may_be_header xs ≡ true → message_end xs ≡ None → chain_from count whole xs ≡ whole
unfolding chain_from
chain_cut zero whole xs s l f e = absurd (omega (arith, s, l))
chain_cut (suc n) whole xs s l f e = search (arith, ne_eqb)

-- a message that is whole
pub chain_on : (count : ℕ) (whole : Bool) (xs : List ℕ) (end : ℕ) → 0 < length xs →
    length xs ≤ count → may_be_header xs ≡ true → message_end xs ≡ Some end →
    chain_from count whole xs ≡ chain_from (count - 1) true (drop end xs)
unfolding chain_from
chain_on zero whole xs end s l f e = absurd (omega (arith, s, l))
chain_on (suc n) whole xs end s l f e = search (arith, ne_eqb, drop)

-- ---- Where a stream begins.

abbrev stream_from_header : (octets : List ℕ) (header : Option ℕ) → Option ℕ
stream_from_header xs o =
    elim o [
      | None ↦ None
      | Some place ↦ cond (nat_eq place 0 || is_chain (drop place xs)) (Some place) None
    ]

pub stream_none : (xs : List ℕ) → index_of_header xs ≡ None → stream_begin_in xs ≡ None
unfolding stream_begin_in
stream_none xs e = ap (stream_from_header xs) e

pub stream_front : (xs : List ℕ) (place : ℕ) → index_of_header xs ≡ Some place → place ≡ 0 →
    stream_begin_in xs ≡ Some place
unfolding stream_begin_in
stream_front xs place e z = search (arith, cond, drop, eq-eqb)

pub stream_later : (xs : List ℕ) (place : ℕ) (chain : Bool) → index_of_header xs ≡ Some place →
    nat_eq place 0 ≡ false → is_chain (drop place xs) ≡ chain →
    stream_begin_in xs ≡ cond chain (Some place) None
unfolding stream_begin_in
stream_later xs place chain e n is = search (arith, cond, drop)
