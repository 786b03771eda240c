-- What fits inside a type, and what one more octet leaves of it.
use Rattle.std.proofs.Common.{◌≡◌, ℕ, zero, suc, ◌+◌, ◌-◌, ◌<◌, ◌≤◌, List, [], ◌∷◌, ◌++◌, length, refl, subst, arith, add-zero, lt-ltb, le-ltb}
use Rattle.std.proofs.lemmas.Bool.{cases_lt}
use Rattle.giop_decode.specs.Fits.{leaf_ty, IsSoundReading, FitsIn, HasCase, HasContent, HasLeadingNumber, OpenPartFits, OpenPartsFit, IsEncapsulation, AllHoldOffset, IsLed}
use Rattle.giop_decode.specs.Pieces.{Complete, Block, Partial, terminator_size}
use Rattle.giop_decode.specs.Reading.{parts_from, enclosed, order_of, after_order_octet, none_left}
use Rattle.giop_decode.specs.ReadResult.{Coding, Content, LeadingNumber, Leaf, Member, Part, OpenPart, PathSegment, Held, Inside, Opening, Telling}
use Rattle.giop_decode.specs.ReadingSteps.{block_step, content_step, leading_width, leaf_step, number_step, part_at, segment_of, step, encapsulated_value}
use Rattle.giop_sig.specs.Fits.{IsFit}
use Rattle.giop_sig.specs.Types.{Encapsulation, Led, Ty, Union, part_of}
use Rattle.giop_decode.proofs.Law.{read_after_leading_number, block_step_waits, block_step_got, number_step_pads, number_step_blocks, padding_or, length_one_more}
use Rattle.giop_decode.proofs.Around.{fit_none, fit_part}
use Rattle.giop_decode.proofs.OctetResults.{step_now}
use Rattle.giop_decode.proofs.Sound.{BlockFits, begun_later, now_leaves, sound_led, ordered_sound, sound_enclosed, sound_followed, sound_part, sound_member, parts_keep, after_keeps, read_keeps, full_piece_sound, last_piece_sound, content_keeps}

-- the leaf, and how much depth is left for it
pub record LeafHasDepth (d : ℕ) (outer : List OpenPart) (leaf : Leaf) : Type 0 where
  pub are_open : OpenPartsFit d outer
  pub left : ℕ
  pub depth : d ≡ length outer + left
  pub fit : IsFit left (leaf_ty leaf)
  pub fits : FitsIn (leaf_ty leaf) [] leaf

pub fit_case : (d : ℕ) (T : Ty) (i : ℕ) → IsFit (suc d) T → HasCase T i → IsFit d (part_of T i)
unfolding IsFit
fit_case d (Union choice scalar select names cases) i fit kind = fit.1 i kind
fit_case d (Led h F parts) zero fit kind = absurd kind
fit_case d (Led h F parts) (suc i) fit kind = fit.1 kind.0 i kind.1
fit_case d T i fit kind = absurd kind

pub fit_first : (d : ℕ) (T : Ty) → IsFit (suc d) T → IsLed T → IsFit d (part_of T 0)
unfolding IsFit
fit_first d (Led h F parts) fit kind = fit.0
fit_first d T fit kind = absurd kind

pub fit_held : (d : ℕ) (T : Ty) → IsFit (suc d) T → IsEncapsulation T → IsFit d (part_of T 0)
unfolding IsFit
fit_held d (Encapsulation T) fit kind = fit
fit_held d T fit kind = absurd kind

deeper : (d : ℕ) (place : OpenPart) (outer : List OpenPart) (leaf : Leaf) →
    OpenPartFits (suc d) place → LeafHasDepth d outer leaf →
    LeafHasDepth (suc d) (place ∷ outer) leaf
deeper d place outer leaf is l = search (arith)

leaf_same : (T : Ty) (leaf : Leaf) → FitsIn T [] leaf → leaf_ty leaf ≡ T
leaf_same T (LeadingNumber U carry) fits = fits.same
leaf_same T leaf fits = fits.same

-- If a leaf fits inside a type of at most d levels, its own type fits in the levels that the parts
-- around it leave.
pub leaf_at : (d : ℕ) (T : Ty) (outer : List OpenPart) (leaf : Leaf) → FitsIn T outer leaf →
    IsFit d T → LeafHasDepth d outer leaf
unfolding IsFit
leaf_at d T [] leaf fits fit = search (arith, leaf_same)
leaf_at zero T (Part U i count ∷ outer) leaf fits fit = absurd fit
leaf_at (suc d) T (Part U i count ∷ outer) leaf fits fit =
    deeper d (Part U i count) outer leaf (rw fits.0.same (fits.0.kind, fits.0.below, fit))
    (leaf_at d (part_of T i) outer leaf fits.1 (fit_part d T i count fit fits.0.kind fits.0.below))
leaf_at zero T (Member U i ∷ outer) leaf fits fit = absurd fit
leaf_at (suc d) T (Member U i ∷ outer) leaf fits fit =
    deeper d (Member U i) outer leaf (rw fits.0.same (fits.0.kind, fit))
    (leaf_at d (part_of T i) outer leaf fits.1 (fit_case d T i fit fits.0.kind))
leaf_at zero T (Inside U c end ∷ outer) leaf fits fit = absurd fit
leaf_at (suc d) T (Inside U c end ∷ outer) leaf fits fit =
    deeper d (Inside U c end) outer leaf (rw fits.0.same (fits.0.kind, fit))
    (leaf_at d (part_of T 0) outer leaf fits.1 (fit_held d T fit fits.0.kind))
leaf_at zero T (Telling U told ∷ outer) leaf fits fit = absurd fit
leaf_at (suc d) T (Telling U told ∷ outer) leaf fits fit =
    deeper d (Telling U told) outer leaf (rw fits.0.same (fits.0.kind, fit))
    (leaf_at d (part_of T 0) outer leaf fits.1 (fit_first d T fit fits.0.kind))

-- one more octet

block_step_takes : (n at : ℕ) (held : List ℕ) (b : ℕ) → length held < n →
    BlockFits n (at + 1) (block_step n at held b)
block_step_takes n at held b room = search (
  arith,
  cases_lt,
  block_step_waits,
  length_one_more,
  block_step_got,
)

number_step_takes : (phase : ℕ → ℕ) (n at : ℕ) (carry : List ℕ) (b : ℕ) → length carry < n →
    BlockFits n (at + 1) (number_step phase n at carry b)
number_step_takes phase n at [] b room = search (
  arith,
  padding_or,
  number_step_pads,
  number_step_blocks,
  block_step_takes,
)
number_step_takes phase n at (x ∷ xs) b room = search (arith, number_step_blocks, block_step_takes)

headed_sound : (d : ℕ) (coding : Coding) (path : List PathSegment) (T : Ty) (end : ℕ) → IsFit d T →
    HasLeadingNumber T → (g : Block) → BlockFits (leading_width T) end g →
    IsSoundReading T end (read_after_leading_number coding path T g)
headed_sound d coding path T end fit kind (Partial carry at) h = search (arith)
headed_sound d coding path T end fit kind (Complete xs at rest) h = search (arith, after_keeps)

content_step_sound : (T : Ty) (path : List PathSegment) (total offset at : ℕ) (piece : List ℕ)
    (b : ℕ) →
    HasContent T → offset ≤ total → (32 < total - offset → length piece < 32) →
    (total - offset ≤ 32 → length piece < total - offset + terminator_size T) →
    IsSoundReading T (at + 1) (content_step T path total offset at piece b)
content_step_sound T path total offset at piece b kind ahead room_full room_last = search (
  arith,
  cases_lt,
  lt-ltb,
  full_piece_sound,
  content_keeps,
  block_step_takes,
  le-ltb,
  last_piece_sound,
)

leaf_step_sound : (d : ℕ) (coding : Coding) (path : List PathSegment) (T : Ty) (leaf : Leaf)
    (at b : ℕ) →
    IsFit d T → FitsIn T [] leaf → IsSoundReading T (at + 1) (leaf_step coding path leaf at b)
leaf_step_sound d coding path T (LeadingNumber U carry) at b fit fits = search (
  arith,
  headed_sound,
  number_step_takes,
)
leaf_step_sound zero coding path T (Opening U n) at b fit fits = absurd (fit_none T fit)
leaf_step_sound (suc d) coding path T (Opening U n) at b fit fits =
    rw (fits.same, block_step_got 1 at [] b (omega arith))
    (subst (λ m. IsSoundReading T m (after_order_octet path T (encapsulated_value path T) at n
    (order_of b) (at + 1) [])) (add-zero (at + 1))
    (ordered_sound T path at n (order_of b) (at + 1) [] fits.kind (omega arith)
    (λ inner. read_keeps d inner (path ++ Held ∷ []) (part_of T 0)
    (fit_held d T fit fits.kind))))
leaf_step_sound d coding path T (Content U total offset piece) at b fit fits = search (
  arith,
  content_step_sound,
)

-- What one more octet leaves still fits into the type.
pub step_keeps : (d : ℕ) (coding : Coding) (path : List PathSegment) (T : Ty)
    (outer : List OpenPart)
    (leaf : Leaf) (at b : ℕ) → IsFit d T → FitsIn T outer leaf → AllHoldOffset at outer →
    IsSoundReading T (at + 1) (step coding path outer leaf at b)
step_keeps d coding path T [] leaf at b fit fits around =
    leaf_step_sound d coding path T leaf at b fit fits
step_keeps zero coding path T (Part U i count ∷ outer) leaf at b fit fits around =
    absurd (fit_none T fit)
step_keeps (suc d) coding path T (Part U i count ∷ outer) leaf at b fit fits around =
    let inner = step coding (path ++ segment_of T i ∷ []) outer leaf at b in
    let part_fits : (j : ℕ) → j < count → IsFit d (part_of T j) =
    λ j below. fit_part d T j count fit fits.0.kind below in
    rw fits.0.same (sound_followed T (at + 1) _
    (parts_from (part_at coding path T count) (count - suc i) (suc i))
    (sound_part T (at + 1) i count inner fits.0.kind fits.0.below
    (step_keeps d coding (path ++ segment_of T i ∷ []) (part_of T i) outer leaf at b
    (part_fits i fits.0.below) fits.1 around.1))
    (parts_keep coding path T count fits.0.kind
    (λ j below. read_keeps d coding (path ++ segment_of T j ∷ []) (part_of T j)
    (part_fits j below)) (count - suc i)
    (suc i) refl))
step_keeps zero coding path T (Member U i ∷ outer) leaf at b fit fits around =
    absurd (fit_none T fit)
step_keeps (suc d) coding path T (Member U i ∷ outer) leaf at b fit fits around =
    let inner = step coding (path ++ segment_of T i ∷ []) outer leaf at b in
    rw fits.0.same (sound_member T (at + 1) i inner fits.0.kind
    (step_keeps d coding (path ++ segment_of T i ∷ []) (part_of T i) outer leaf at b
    (fit_case d T i fit fits.0.kind) fits.1 around.1))
step_keeps zero coding path T (Inside U c end ∷ outer) leaf at b fit fits around =
    absurd (fit_none T fit)
step_keeps (suc d) coding path T (Inside U c end ∷ outer) leaf at b fit fits around =
    let inner = step c (path ++ Held ∷ []) outer leaf at b in
    let began = begun_later c at (at + 1) (omega arith) around.0.1 in
    rw fits.0.same (subst (λ m. IsSoundReading T m (enclosed path T c end none_left inner []))
    (add-zero (at + 1))
    (sound_enclosed T path c end (at + 1) none_left fits.0.kind began inner []
    (step_keeps d c (path ++ Held ∷ []) (part_of T 0) outer leaf at b (fit_held d T fit fits.0.kind)
    fits.1 around.1) (λ _. refl)
    (now_leaves (at + 1) inner (step_now c (path ++ Held ∷ []) outer leaf at b))))
step_keeps zero coding path T (Telling U told ∷ outer) leaf at b fit fits around =
    absurd (fit_none T fit)
step_keeps (suc d) coding path T (Telling U told ∷ outer) leaf at b fit fits around =
    let inner = step coding (path ++ segment_of T 0 ∷ []) outer leaf at b in
    rw fits.0.same (sound_led coding path T told (at + 1) inner fits.0.kind
    (λ i case. read_keeps d coding (path ++ segment_of T (suc i) ∷ []) (part_of T (suc i))
    (fit_case d T (suc i) fit case))
    (step_keeps d coding (path ++ segment_of T 0 ∷ []) (part_of T 0) outer leaf at b
    (fit_first d T fit fits.0.kind) fits.1 around.1))
