-- The test of a restored decoder is exact: it passes exactly if the decoder fits the table. At the
-- end, how many parts that have begun fit into a type.
use Rattle.std.proofs.Common.{◌≡◌, ◌∙◌, ap, drop, get_or, take, ℕ, zero, suc, true, pred, ◌+◌, ◌-◌, ◌<◌, ◌≤◌, List, [], ◌∷◌, length, Option, Some, None, refl, sym, subst, arith}
use Rattle.std.specs.Prelude.{Bool, IfSome, IsTrue, ◌↔◌}
use Rattle.std.proofs.Math.Seq.{take-length}
use Rattle.giop_cdr.specs.declared.order.Order.{Order}
use Rattle.giop_decode.specs.declared.decoder.Decoder.{Decoder}
use Rattle.giop_decode.specs.declared.frame.Frame.{Frame}
use Rattle.giop_decode.specs.declared.frame.Stage.{Stage}
use Rattle.giop_decode.specs.declared.leaf.Leaf.{Leaf as Innermost}
use Rattle.giop_decode.specs.FrameChain.{HasFrame, HasFrameAs, HasPart, LeafFits, FramesChain, FitsCatalogue, root_of}
use Rattle.giop_decode.specs.Fits.{CanFollow, FitsIn, HasCase, IsEncapsulation}
use Rattle.giop_decode.specs.SeenState.{Fits}
use Rattle.giop_decode.specs.ReadResult.{OpenPart, Leaf}
use Rattle.giop_decode.specs.Transitions.{IsUncounted, parts_in_room, part_as, part_in, part_index, open_part_in, HaveOctetsLeft, AreKnown, FrameIndexFits, FrameIndexFitsAs, Link, LinkIn, StandAt, leaf_by, leaf_type}
use Rattle.giop_decode.proofs.Around.{fit_room}
use Rattle.giop_decode.proofs.Going.{length_places}
use Rattle.giop_decode.proofs.Starting.{fit_some}
use Rattle.giop_decode.proofs.Leaving.{leaf_at}
use Rattle.giop_sig.specs.Fits.{IsFit, IsEmptyStruct}
use Rattle.giop_sig.specs.HeaderTypes.{IsTable}
use Rattle.giop_sig.specs.Hearings.{inference_in}
use Rattle.giop_sig.specs.Table.{Table}
use Rattle.giop_sig.specs.Trees.{can_be_value, part_number_in, tree, tree_at}
use Rattle.giop_decode.proofs.Rooms.{place_in_room, within_as_in_room}
use Rattle.giop_sig.specs.Types.{Cases, Tag, Encapsulation, Enum, Marked, Plain, Ty, Single, Text, Octets, Struct, Union, Sequence, Array, HasIndex, HasShape, TypeInference, Is, Recursive, elements_fit, part_of, shape_in, Led}
use Rattle.giop_sig.specs.declared.types.Shape.TheVariants as shapes
use Rattle.giop_sig.proofs.HearingLaws.{follows_known, follows_led, led_follows}
use Rattle.giop_sig.proofs.PartLaws.{part_in_is, part_in_known, root_is, shape_room}

-- ---- one open part

pub part_place : (T : Ty) (i count : ℕ) → HasPart T i count → HasIndex (shape_in T) i
part_place (Union (Cases n) scalar select names cases) i count has = has.0
part_place (Union Tag scalar select names cases) i count has = has.0
part_place (Struct n names parts) i count has = search (arith)
part_place (Single scalar) i count has = absurd has.0
part_place (Text bound) i count has = absurd has.0
part_place (Octets kind) i count has = absurd has.0
part_place T i count has = tt

part_uncounted : (T : Ty) (i count : ℕ) → HasPart T i count →
    IsUncounted (shape_in T) → count ≡ 0
part_uncounted (Union choice scalar select names cases) i count has is = has.1
part_uncounted (Single scalar) i count has is = absurd has.0
part_uncounted (Text bound) i count has is = absurd has.0
part_uncounted (Octets kind) i count has is = absurd has.0
part_uncounted (Led h F parts) i count has is = has.1
part_uncounted T i count has is = absurd is

fits_one_more : (T : Ty) (i count : ℕ) (outer : List OpenPart) (leaf : Leaf) → HasPart T i count →
    FitsIn (part_of T i) outer leaf → FitsIn T (part_in T i count ∷ outer) leaf
fits_one_more (Union choice scalar select names cases) i count outer leaf has fits = search (arith)
fits_one_more (Struct n names parts) i count outer leaf has fits = search (arith)
fits_one_more (Array n T) i count outer leaf has fits = search (arith)
fits_one_more (Sequence bound T) i count outer leaf has fits = search (arith)
fits_one_more (Recursive bound fits T) i count outer leaf has fit = search (arith)
fits_one_more (Led h F parts) i count outer leaf has fits = search (arith)
fits_one_more T i count outer leaf has fits = absurd has.0

fits_part : (T : Ty) (i count : ℕ) (outer : List OpenPart) (leaf : Leaf) →
    FitsIn T (part_in T i count ∷ outer) leaf → (IsUncounted (shape_in T) → count ≡ 0) →
    HasPart T i count × FitsIn (part_of T i) outer leaf
fits_part (Led h F parts) i count outer leaf fits uncounted = search (arith)
fits_part (Union (Cases n) scalar select names cases) i count outer leaf fits uncounted = search
    (arith)
fits_part (Union Tag scalar select names cases) i count outer leaf fits uncounted = search (arith)
fits_part (Struct n names parts) i count outer leaf fits uncounted = search (arith)
fits_part (Array n T) i count outer leaf fits uncounted = search (arith)
fits_part (Sequence bound T) i count outer leaf fits uncounted = search (arith)
fits_part (Recursive bound fits T) i count outer leaf fit uncounted = search (arith)
fits_part T i count outer leaf fits uncounted = absurd fits.0.kind

part_bare : (T : Ty) (i count : ℕ) → HasPart T i count → IsEncapsulation T → ⊥
part_bare (Encapsulation T) i count has is = absurd has.0
part_bare T i count has is = absurd is

pub inside_place : (T : Ty) (i : ℕ) → IsEncapsulation T → HasIndex (shape_in T) i
inside_place (Encapsulation T) i is = tt
inside_place T i is = absurd is

-- ---- one frame

pub frame_place : (inside : Option Order) (T : Ty) (i count : ℕ) → HasFrame inside T i count →
    HasIndex (shape_in T) (part_index None inside i)
frame_place None T i count has = part_place T i count has
frame_place (Some order) T i count has = inside_place T 0 has.0

frame_within : (inside : Option Order) (T : Ty) (i count : ℕ) → HasFrame inside T i count →
    FrameIndexFits inside i count T
frame_within None T i count has = search (arith, part_place, part_bare, part_uncounted)
frame_within (Some order) T i count has = search (arith)

frame_place_as : (told : Option Stage) (inside : Option Order) (T : Ty) (i count : ℕ) →
    HasFrameAs told inside T i count → HasIndex (shape_in T) (part_index told inside i)
frame_place_as None None T i count has = frame_place None T i count has
frame_place_as None (Some order) T i count has = frame_place (Some order) T i count has
frame_place_as (Some stage) inside (Led h F parts) i count has = tt
frame_place_as (Some stage) inside T i count has = absurd has.0

frame_within_as : (told : Option Stage) (inside : Option Order) (T : Ty) (i count : ℕ) →
    HasFrameAs told inside T i count → FrameIndexFitsAs told inside i count T
frame_within_as None inside T i count has = frame_within inside T i count has
frame_within_as (Some stage) inside T i count has = has

frame_ahead : (inside : Option Order) (T : Ty) (i count : ℕ) → HasFrame inside T i count →
    IfSome inside (λ order. i < count)
frame_ahead None T i count has = tt
frame_ahead (Some order) T i count has = has.2

frame_ahead_as : (told : Option Stage) (inside : Option Order) (T : Ty) (i count : ℕ) →
    HasFrameAs told inside T i count → IfSome inside (λ order. i < count)
frame_ahead_as None inside T i count has = frame_ahead inside T i count has
frame_ahead_as (Some stage) inside T i count has = rw has.1 tt

frame_fits : (here : ℕ) (inside : Option Order) (T : Ty) (i count : ℕ) (outer : List OpenPart)
    (leaf : Leaf) → HasFrame inside T i count →
    FitsIn (part_of T (part_index None inside i)) outer leaf →
    FitsIn T (open_part_in here inside T i count ∷ outer) leaf
frame_fits here None T i count outer leaf has fits = search (arith, fits_one_more)
frame_fits here (Some order) T i count outer leaf has fits = search (arith)

frame_fits_as : (told : Option Stage) (here : ℕ) (inside : Option Order) (T : Ty) (i count : ℕ)
    (outer : List OpenPart) (leaf : Leaf) → HasFrameAs told inside T i count →
    FitsIn (part_of T (part_index told inside i)) outer leaf →
    FitsIn T (part_as told here inside T i count ∷ outer) leaf
frame_fits_as None here inside T i count outer leaf has fits =
    frame_fits here inside T i count outer leaf has fits
frame_fits_as (Some stage) here inside T i count outer leaf has fits =
    (record { same = refl; kind = has.0 }, fits)

record FrameFitsOuter (told : Option Stage) (inside : Option Order) (T : Ty) (i count : ℕ)
    (outer : List OpenPart) (leaf : Leaf) : Type 0 where
  has : HasFrameAs told inside T i count
  fits : FitsIn (part_of T (part_index told inside i)) outer leaf

frame_is : (told : Option Stage) (here : ℕ) (inside : Option Order) (T : Ty) (i count : ℕ)
    (outer : List OpenPart) (leaf : Leaf) → FrameIndexFitsAs told inside i count T →
    IfSome inside (λ order. i < count) →
    FitsIn T (part_as told here inside T i count ∷ outer) leaf →
    FrameFitsOuter told inside T i count outer leaf
frame_is None here None T i count outer leaf within ahead fits = search (arith, fits_part)
frame_is None here (Some order) T i count outer leaf within ahead fits = search (arith)
frame_is (Some stage) here inside T i count outer leaf within ahead fits =
    record { has = within; fits = fits.1 }

-- ---- a chain

-- parts that begin in this room, of which `left` is left for the innermost part
record ChainFits (C : Table) (room left here id : ℕ) (frames : List Frame) (leaf : Innermost)
    (carry piece : List ℕ) : Type 0 where
  fits : FitsIn (tree_at C room id) (parts_in_room C room here frames)
      (leaf_by (tree_at C left (leaf_type leaf)) leaf carry piece)
  ahead : HaveOctetsLeft frames
  known_outer : AreKnown C frames
  link : LinkIn C room id frames (leaf_type leaf)

-- what can come after a part that tells it is a type of the table
follow_part : (T : Ty) (i count : ℕ) → shape_in T ≡ shapes.Led → HasPart T i count →
    CanFollow (inference_in T) i
follow_part (Led h F parts) i count led has = has.0
follow_part (Single (Plain p)) i count led has = absurd has.0
follow_part (Single (Enum n names)) i count led has = absurd has.0
follow_part (Single (Marked mark)) i count led has = absurd has.0
follow_part (Union (Cases n) scalar select names cases) i count led has = absurd cc
follow_part (Union Tag scalar select names cases) i count led has = absurd cc
follow_part (Octets kind) i count led has = absurd has.0
follow_part T i count led has = absurd cc

follow_known : (C : Table) (room id i : ℕ) → shape_in (tree_at C (suc room) id) ≡ shapes.Led →
    CanFollow (inference_in (tree_at C (suc room) id)) i → i ≤ length C.types
follow_known C room id zero led can = absurd can
follow_known C room id (suc k) led can =
    let below = follows_known C room k (led_follows C room id led can.0 k can.1) in
    omega (arith, below)

-- so is the case of such a type

case_follow : (T : Ty) (i : ℕ) → shape_in T ≡ shapes.Led → HasCase T i →
    CanFollow (inference_in T) i
case_follow (Led h F parts) i led has = has
case_follow (Union (Cases n) scalar select names cases) i led has = absurd cc
case_follow (Union Tag scalar select names cases) i led has = absurd cc
case_follow T i led has = absurd has

pub case_known : (C : Table) (room id i : ℕ) → HasCase (tree_at C (suc room) id) i →
    shape_in (tree C id) ≡ shapes.Led → i ≤ length C.types
case_known C room id i has led =
    let here = shape_room C (suc room) 24 id ∙ led in
    follow_known C room id i here (case_follow (tree_at C (suc room) id) i here has)

-- what the table lets come after such a part can come after it, and the other way round

pub can_start : (h : TypeInference) (i : ℕ) → CanFollow h i → 0 < i
can_start h zero can = absurd can
can_start h (suc k) can = omega arith

pub can_follows : (C : Table) (room id i : ℕ) → shape_in (tree_at C (suc room) id) ≡ shapes.Led →
    CanFollow (inference_in (tree_at C (suc room) id)) i → can_be_value C room (i - 1) ≡ true
can_follows C room id zero led can = absurd can
can_follows C room id (suc k) led can =
    let less : suc k - 1 ≡ k = omega arith in
    rw less (led_follows C room id led can.0 k can.1)

pub follows_can : (C : Table) (room id i : ℕ) → shape_in (tree_at C (suc room) id) ≡ shapes.Led →
    0 < i → can_be_value C room (i - 1) ≡ true →
    CanFollow (inference_in (tree_at C (suc room) id)) i
follows_can C room id zero led some is = absurd (omega arith)
follows_can C room id (suc k) led some is =
    let less : suc k - 1 ≡ k = omega arith in
    (Is k, follows_led C room id led k (rw less at is))

pub part_led : (T : Ty) (i count : ℕ) → HasShape T shapes.Led → count ≡ 0 →
    CanFollow (inference_in T) i → HasPart T i count
part_led T i count h none can = rw h.3 (rw h.3 at can, none)

pub led_part : (T : Ty) (i count : ℕ) → HasShape T shapes.Led → HasPart T i count →
    CanFollow (inference_in T) i × (count ≡ 0)
led_part T i count h has = rw h.3 (rw h.3 at has)

-- elements are parts if they have room

pub part_recursive : (T : Ty) (bound : Option ℕ) (i count : ℕ) → HasShape T (shapes.Recursive bound)
    → i < count → elements_fit T ≡ true → HasPart T i count
part_recursive T bound i count h below fit = rw h.2 (rw h.2 at fit, below)

pub recursive_part : (T : Ty) (bound : Option ℕ) (i count : ℕ) → HasShape T (shapes.Recursive bound)
    → HasPart T i count → (i < count) × (elements_fit T ≡ true)
recursive_part T bound i count h has = let e = rw h.2 at has in (e.1, rw h.2 e.0)

-- the part that a frame is at is a type of the table, if another part told it
pub frame_known : (C : Table) (room id : ℕ) (told : Option Stage) (inside : Option Order)
    (i count : ℕ) → HasFrameAs told inside (tree_at C (suc room) id) i count →
    shape_in (tree C id) ≡ shapes.Led → part_index told inside i ≤ length C.types
frame_known C room id None None i count has led =
    let here = shape_room C (suc room) 24 id ∙ led in
    follow_known C room id i here (follow_part (tree_at C (suc room) id) i count here has)
frame_known C room id None (Some order) i count has led = omega arith
frame_known C room id (Some stage) inside i count has led = omega arith

-- and it is a place of the frame's type
pub frame_there : (C : Table) (room id : ℕ) (told : Option Stage) (inside : Option Order)
    (i count : ℕ) → HasFrameAs told inside (tree_at C (suc room) id) i count →
    HasIndex (shape_in (tree C id)) (part_index told inside i)
frame_there C room id told inside i count has =
    place_in_room C (suc room) 24 id (part_index told inside i)
    (frame_place_as told inside (tree_at C (suc room) id) i count has)

-- if there is a first frame, the frames are it and the rest
pub first_rest : (frames : List Frame) (d : Frame) → 1 ≤ length frames →
    frames ≡ get_or frames 0 d ∷ take (length frames - 1) (drop 1 frames)
first_rest [] d some = absurd (omega arith)
first_rest (f ∷ frames) d some =
    let e : length (f ∷ frames) - 1 ≡ length frames = omega arith in
    ap (λ fs. f ∷ fs) (sym (ap (λ n. take n frames) e ∙ take-length frames))

-- the first frame of a chain, and the frames after it
pub chained_more : (C : Table) (room left id part : ℕ) (frames rest : List Frame) (f : Frame)
    (leaf : Innermost) (goes : Bool) → frames ≡ f ∷ rest → suc left ≡ room → f.of.0 ≡ id →
    HasFrameAs f.told f.inside (tree_at C (suc left) id) f.index f.count →
    part ≡ part_number_in C left id (part_index f.told f.inside f.index) →
    (IsTrue goes ↔ FramesChain C left part rest leaf) →
    IsTrue goes ↔ FramesChain C room id frames leaf
chained_more C room left id part frames rest f leaf goes is one same has number rests =
    subst (λ fs. IsTrue goes ↔ FramesChain C room id fs leaf) (sym is)
    (subst (λ n. IsTrue goes ↔ FramesChain C n id (f ∷ rest) leaf) one (
      λ yes. (
        same,
        has,
        subst (λ p. FramesChain C left p rest leaf) number (rests.0 yes),
      ),
      λ chain. rests.1 (subst (λ p. FramesChain C left p rest leaf) (sym number) chain.2),
    ))

-- the part that a frame is at, of a type that has room
module _ (C : Table) (room id : ℕ) (f : Frame) (laws : IsTable C) (known : id < length C.types)
    (some : 0 < room) (has : HasFrameAs f.told f.inside (tree_at C room id) f.index f.count) where
  abbrev i : ℕ
  i = part_index f.told f.inside f.index

  one : suc (pred room) ≡ room
  one = omega (arith, some)

  place_there : HasIndex (shape_in (tree C id)) i
  place_there = place_in_room C room 24 id i
      (frame_place_as f.told f.inside (tree_at C room id) f.index f.count has)

  below_there : part_number_in C (pred room) id i < length C.types
  below_there = part_in_known C (pred room) id i laws known place_there
      (frame_known C (pred room) id f.told f.inside f.index f.count
      (subst (λ n. HasFrameAs f.told f.inside (tree_at C n id) f.index f.count) (sym one) has))

  same_there : tree_at C (pred room) (part_number_in C (pred room) id i)
      ≡ part_of (tree_at C room id) i
  same_there =
      subst (λ n. tree_at C (pred room) (part_number_in C (pred room) id i)
      ≡ part_of (tree_at C n id) i) one (part_in_is C (pred room) id i laws known place_there)

chain_fits : (C : Table) (room left here id : ℕ) (frames : List Frame) (leaf : Innermost)
    (carry piece : List ℕ) → IsTable C → id < length C.types → room ≡ length frames + left →
    FramesChain C room id frames leaf → LeafFits C left leaf carry piece →
    ChainFits C room left here id frames leaf carry piece
chain_fits C room left here id [] leaf carry piece laws known rooms h inner = record {
  fits = (let is : room ≡ left = omega (arith, rooms) in rw (is, ← h) inner.0);
  ahead = tt;
  known_outer = tt;
  link = h;
}
chain_fits C room left here id (f ∷ frames) leaf carry piece laws known rooms h inner =
    let has = h.1 in
    let i = part_index f.told f.inside f.index in
    let T = tree_at C room id in
    let some : 0 < room = omega (arith, rooms) in
    let next = part_number_in C (pred room) id i in
    let rest = chain_fits C (pred room) left here next frames leaf carry piece laws
    (below_there C room id f laws known some has) (omega (arith, rooms)) h.2 inner in
    let ps = parts_in_room C (pred room) here frames in
    let inmost = leaf_by (tree_at C left (leaf_type leaf)) leaf carry piece in
    let fits = frame_fits_as f.told here f.inside T f.index f.count ps inmost has
    (subst (λ (P : Ty). FitsIn P ps inmost) (same_there C room id f laws known some has)
    rest.fits) in
    let is : id ≡ f.of.0 = sym h.0 in
    record {
      fits = subst (λ (n : ℕ). FitsIn T
          (part_as f.told here f.inside (tree_at C room n) f.index f.count ∷ ps) inmost) is fits;
      ahead = (frame_ahead_as f.told f.inside T f.index f.count has, rest.ahead);
      known_outer = (
        record {
          known = subst (λ (n : ℕ). n < length C.types) is known;
          within = λ n. subst (λ (m : ℕ). FrameIndexFitsAs f.told f.inside f.index f.count
              (tree_at C n m)) is
              (within_as_in_room C room n id f.told f.inside f.index f.count
              (frame_within_as f.told f.inside T f.index f.count has));
        },
        rest.known_outer,
      );
      link = (h.0, rest.link);
    }

record FitsChain (C : Table) (room left id : ℕ) (frames : List Frame) (leaf : Innermost)
    (carry piece : List ℕ) : Type 0 where
  chain : FramesChain C room id frames leaf
  inner : (let T = tree_at C left (leaf_type leaf) in FitsIn T [] (leaf_by T leaf carry piece))

fits_chain : (C : Table) (room left here id : ℕ) (frames : List Frame) (leaf : Innermost)
    (carry piece : List ℕ) → IsTable C → id < length C.types → room ≡ length frames + left →
    FitsIn (tree_at C room id) (parts_in_room C room here frames)
    (leaf_by (tree_at C left (leaf_type leaf)) leaf carry piece) → HaveOctetsLeft frames →
    AreKnown C frames → LinkIn C room id frames (leaf_type leaf) →
    FitsChain C room left id frames leaf carry piece
fits_chain C room left here id [] leaf carry piece laws known rooms fits ahead are link = record {
  chain = link;
  inner = (let is : room ≡ left = omega (arith, rooms) in rw (is, ← link) at fits);
}
fits_chain C room left here id (f ∷ frames) leaf carry piece laws known rooms fits ahead are link =
    let T = tree_at C room id in
    let ps = parts_in_room C (pred room) here frames in
    let inmost = leaf_by (tree_at C left (leaf_type leaf)) leaf carry piece in
    let i = part_index f.told f.inside f.index in
    let some : 0 < room = omega (arith, rooms) in
    let there = subst (λ (n : ℕ). FitsIn T
    (part_as f.told here f.inside (tree_at C room n) f.index f.count ∷ ps) inmost) link.0 fits in
    let within = subst (λ (n : ℕ). FrameIndexFitsAs f.told f.inside f.index f.count
    (tree_at C room n))
    link.0
    (are.0.within room) in
    let u = frame_is f.told here f.inside T f.index f.count ps inmost within ahead.0 there in
    let inner = subst (λ (P : Ty). FitsIn P ps inmost)
    (sym (same_there C room id f laws known some u.has)) u.fits in
    let next = part_number_in C (pred room) id i in
    let rest = fits_chain C (pred room) left here next frames leaf carry piece laws
    (below_there C room id f laws known some u.has) (omega (arith, rooms)) inner ahead.1 are.1
    link.1 in
    record { chain = (link.0, u.has, rest.chain); inner = rest.inner }

-- ---- an offset that frames can be at

all_octets : List Frame → ℕ
all_octets [] = 0
all_octets (f ∷ frames) = f.index + all_octets frames

stands_above : (here i : ℕ) (inside : Option Order) → i ≤ here → IfSome inside (λ order. i ≤ here)
stands_above here i None h = tt
stands_above here i (Some order) h = h

stand_above : (here : ℕ) (frames : List Frame) → all_octets frames ≤ here → StandAt here frames
unfolding all_octets
stand_above here [] h = tt
stand_above here (f ∷ frames) h =
    let sum : f.index + all_octets frames ≤ here = h in (
      stands_above here f.index f.inside (omega (arith, sum)),
      stand_above here frames (omega (arith, sum)),
    )

-- ---- how many frames

-- room is left for the innermost part's frame
pub fits_few : (C : Table) (d : Decoder) → Fits C d → length d.outer.items < 24
fits_few C d h = search (arith, leaf_at, length_places, fit_room)

-- ---- a decoder

some_fit : (T : Ty) → IsFit 24 T → IsEmptyStruct T → ⊥
unfolding IsFit
some_fit (Struct zero names parts) fit empty = absurd (omega (arith, fit.0))
some_fit _ fit empty = empty

root_linked : (C : Table) (root : ℕ) (frames : List Frame) (leaf : Innermost) →
    Link C root frames (leaf_type leaf) → root ≡ root_of frames leaf
root_linked C root [] leaf link = sym link
root_linked C root (f ∷ frames) leaf link = sym link.0

pub chains_fits : (C : Table) (d : Decoder) → IsTable C → d.forbids_wide ≡ C.forbids_wide →
    FitsCatalogue C d → Fits C d
chains_fits C d laws forbids_wide h =
    let root = root_of d.outer.items h.leaf in
    let here = all_octets d.outer.items in
    let few = h.few in
    let left = 24 - length d.outer.items in
    let c = chain_fits C 24 left here root d.outer.items h.leaf d.carry d.piece.items laws h.known
    (omega (arith, few)) h.chain h.fits in
    record {
      leaf = h.leaf;
      goes_on = h.goes_on;
      root = root;
      known_root = h.known;
      link = c.link;
      fit = fit_some (tree C root) (root_is C root laws h.known) h.some;
      forbids_wide = forbids_wide;
      here = here;
      stands = stand_above here d.outer.items (omega arith);
      fits = c.fits;
      ahead = c.ahead;
      inside = h.inside;
      known_outer = c.known_outer;
      known = h.known_leaf;
      clean = h.fits.1;
      at = h.at;
      of_root = h.of_root;
      name = h.name;
    }

pub fits_chains : (C : Table) (d : Decoder) → IsTable C → Fits C d → FitsCatalogue C d
fits_chains C d laws h =
    let few = fits_few C d h in
    let left = 24 - length d.outer.items in
    let is = root_linked C h.root d.outer.items h.leaf h.link in
    let c = fits_chain C 24 left h.here h.root d.outer.items h.leaf d.carry d.piece.items laws
    h.known_root (omega (arith, few)) h.fits h.ahead h.known_outer h.link in
    record {
      leaf = h.leaf;
      goes_on = h.goes_on;
      known_leaf = h.known;
      known = rw is at h.known_root;
      some = subst (λ n. IsEmptyStruct (tree C n) → ⊥) is (some_fit (tree C h.root) h.fit);
      chain = subst (λ n. FramesChain C 24 n d.outer.items h.leaf) is c.chain;
      few = few;
      inside = h.inside;
      fits = (c.inner, h.clean);
      at = h.at;
      of_root = h.of_root;
      name = h.name;
    }
