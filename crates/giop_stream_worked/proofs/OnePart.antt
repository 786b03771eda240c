-- If one part of a value has begun, the value fits its type.
use Rattle.std.proofs.Common.{ℕ, zero, suc, ◌<◌, [], ◌∷◌, None, arith, refl}
use Rattle.giop_sig.specs.Fits.{IsFit}
use Rattle.giop_sig.specs.Types.{Ty, Struct, Sequence, Array, Recursive, part_of}
use Rattle.giop_decode.specs.ReadResult.{Leaf}
use Rattle.giop_decode.specs.Fits.{FitsIn, HasParts}
use Rattle.giop_decode.specs.Transitions.{part_in, FrameIndexFits}

-- A type of one part; the part has begun and fits. `leaf` is what was read of it.
pub one_part : (d : ℕ) (T : Ty) (leaf : Leaf) → HasParts T 1 → IsFit d (part_of T 0) →
    FitsIn (part_of T 0) [] leaf →
    IsFit (suc d) T × FitsIn T (part_in T 0 1 ∷ []) leaf × FrameIndexFits None 0 1 T
unfolding IsFit
one_part d (Struct n names parts) leaf kind fit fits = (
  (omega (arith, kind), one),
  (record { same = refl; kind = kind; below = omega arith }, fits),
  (omega (arith, kind), (λ is. is), λ is. absurd is),
)
  where
    one : (i : ℕ) → i < n → IsFit d (parts i)
    one zero below = fit
    one (suc i) below = absurd (omega (arith, kind, below))
one_part d (Array n T) leaf kind fit fits = (
  (omega (arith, kind), fit),
  (record { same = refl; kind = kind; below = omega arith }, fits),
  (tt, (λ is. is), λ is. absurd is),
)
one_part d (Sequence bound T) leaf kind fit fits = (
  fit,
  (record { same = refl; kind = kind; below = omega arith }, fits),
  (tt, (λ is. is), λ is. absurd is),
)
one_part d (Recursive bound room T) leaf kind fit fits = (
  (λ is. fit),
  (record { same = refl; kind = kind; below = omega arith }, fits),
  (tt, (λ is. is), λ is. absurd is),
)
one_part d T leaf kind fit fits = absurd kind
