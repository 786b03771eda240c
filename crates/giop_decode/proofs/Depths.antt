-- How many parts that have begun and not ended fit into a type, each within the one before.
use Rattle.std.proofs.Common.{◌≡◌, ℕ, zero, suc, ◌<◌, ◌≤◌, ◌==◌, Bool, true, false, cond, refl, max, List, [], ◌∷◌, length, arith, ◌⊎◌, inl, inr}
use Rattle.std.proofs.lemmas.Bool.{cases_lt, eqb-false}
use Rattle.giop_decode.specs.declared.decoder.Decoder.{Decoder}
use Rattle.giop_decode.specs.Fits.{FitsIn, HasParts, HasCase, IsEncapsulation, IsLed}
use Rattle.giop_decode.specs.SeenState.{Fits}
use Rattle.giop_decode.specs.ReadResult.{OpenPart, Part, Member, Inside, Leaf, Telling}
use Rattle.giop_decode.specs.Transitions.{leaf_of, open_parts}
use Rattle.giop_decode.proofs.Going.{length_places}
use Rattle.giop_decode.proofs.StoredChain.{fits_few}
use Rattle.giop_sig.proofs.PartLaws.{depth_is}
use Rattle.giop_sig.proofs.Unled.{HasNoLed, room_none}
use Rattle.giop_sig.specs.HeaderTypes.{AreBeforeVersion3, IsTable}
use Rattle.giop_sig.specs.Table.{Table}
use Rattle.giop_sig.specs.Trees.{catalogue_depth, depth_of, tree}
use Rattle.giop_sig.specs.Types.{Encapsulation, case_count, Ty, Struct, Union, Sequence, Array, part_of, depth, most, Led, Recursive}

most_at : (n i : ℕ) (f : ℕ → ℕ) → i < n → f i ≤ most n f
most_at zero i f lt = absurd (omega arith)
most_at (suc n) i f lt = by_place (cases_lt i n) (λ h. most_at n i f h)
  where
    by_place : (i < n) ⊎ (n ≤ i) → (i < n → f i ≤ most n f) → f i ≤ max (most n f) (f n)
    by_place (inl h) below = omega (arith, below h)
    by_place (inr h) below = search (arith)

depth_some : (T : Ty) → 0 < depth T
unfolding depth
depth_some (Struct n names parts) = omega arith
depth_some T = omega arith

part_shallower : (T : Ty) (i count : ℕ) → HasNoLed T → HasParts T count → i < count →
    depth (part_of T i) < depth T
unfolding depth
part_shallower (Struct n names parts) i count none kind lt =
    omega (arith, most_at n i (λ j. depth (parts j)) (omega (arith, kind)))
part_shallower (Array n T) i count none kind lt = omega arith
part_shallower (Sequence bound T) i count none kind lt = omega arith
part_shallower (Recursive bound fits T) i count none kind lt = absurd none
part_shallower T i count none kind lt = absurd kind

case_none : (T : Ty) (i : ℕ) → HasNoLed T → HasNoLed (part_of T i)
case_none (Struct count names parts) i h = h i
case_none (Union choice scalar select names cases) i h = h i
case_none (Sequence bound T) i h = h
case_none (Array count T) i h = h
case_none (Encapsulation T) i h = h
case_none (Recursive bound fits T) i h = absurd h
case_none (Led k F parts) i h = absurd h
case_none T i h = h

case_shallower : (T : Ty) (i : ℕ) → HasNoLed T → HasCase T i → depth (part_of T i) < depth T
unfolding depth
case_shallower (Union choice scalar select names cases) i none kind =
    omega (arith, most_at (case_count choice) i (λ j. depth (cases j)) kind)
case_shallower (Led h F parts) i none kind = absurd none
case_shallower T i none kind = absurd kind

inside_shallower : (T : Ty) → IsEncapsulation T → depth (part_of T 0) < depth T
unfolding depth
inside_shallower (Encapsulation T) kind = omega arith
inside_shallower T kind = absurd kind

first_shallower : (T : Ty) → IsLed T → depth (part_of T 0) < depth T
unfolding depth
first_shallower (Led h F parts) kind = omega arith
first_shallower T kind = absurd kind

fits_shallow : (ps : List OpenPart) (T : Ty) (leaf : Leaf) → HasNoLed T → FitsIn T ps leaf →
    length ps < depth T
fits_shallow [] T leaf none fits = depth_some T
fits_shallow (Part U i count ∷ ps) T leaf none fits =
    omega (
      arith,
      fits_shallow ps (part_of T i) leaf (case_none T i none) fits.1,
      part_shallower T i count none fits.0.kind fits.0.below,
    )
fits_shallow (Member U i ∷ ps) T leaf none fits = search
    (arith, fits_shallow ps (part_of T i) leaf (case_none T i none) fits.1, case_shallower)
fits_shallow (Telling U told ∷ ps) T leaf none fits = search
    (arith, fits_shallow ps (part_of T 0) leaf (case_none T 0 none) fits.1, first_shallower)
fits_shallow (Inside U coding end ∷ ps) T leaf none fits = search
    (arith, fits_shallow ps (part_of T 0) leaf (case_none T 0 none) fits.1, inside_shallower)

plain_depth : (C : Table) (d : Decoder) → AreBeforeVersion3 C.types → Fits C d
    → length d.outer.items < depth_of C.types
plain_depth C d plain h =
    omega (
      arith,
      length_places C 24 h.here d.outer.items,
      fits_shallow (open_parts C h.here d.outer.items) (tree C h.root)
          (leaf_of C d.outer.items h.leaf d.carry d.piece.items) (room_none C plain 24 h.root)
          h.fits,
      depth_is C h.root plain h.known_root,
    )

depth_by : (C : Table) (d : Decoder) (third : Bool) → (C.version == 3) ≡ third →
    IsTable C → Fits C d → length d.outer.items < cond third 24 (depth_of C.types)
depth_by C d true e laws h = fits_few C d h
depth_by C d false e laws h =
    plain_depth C d (laws.anys.plain (λ is. eqb-false C.version 3 e is)) h

-- A decoder has fewer such parts than the types of its table are deep.
pub fits_depth : (C : Table) (d : Decoder) → IsTable C → Fits C d
    → length d.outer.items < catalogue_depth C
fits_depth C d laws h = depth_by C d (C.version == 3) refl laws h
