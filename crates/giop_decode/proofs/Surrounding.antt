-- The encapsulations among a decoder's frames.
use Rattle.std.proofs.Common.{◌≡◌, ℕ, zero, suc, pred, ◌+◌, ◌-◌, ◌%◌, ◌<◌, ◌≤◌, Bool, true, false, cond, List, [], ◌∷◌, ◌++◌, length, map, take, drop, get_or, set, Option, Some, None, refl, sym, ◌∙◌, ap, subst, arith, add-one, append-nil, length-set, lt-ltb, le-ltb, ne_eqb}
use Rattle.std.specs.Prelude.{◌||◌, IfSome}
use Rattle.std.proofs.lemmas.Bool.{cases_lt, eq-eqb}
use Rattle.std.proofs.lemmas.List.{map-append, take_more, take_more_set}
use Rattle.giop_cdr.specs.declared.order.Order.{Order}
use Rattle.giop_decode.specs.declared.frame.Within.TheVariants as withins
use Rattle.giop_decode.specs.declared.frame.Frame.{Frame}
use Rattle.giop_decode.specs.DecoderSteps.{read_unless_ended_with}
use Rattle.giop_decode.proofs.Around.{around-front}
use Rattle.giop_decode.specs.declared.frame.Stage.{Stage}
use Rattle.giop_decode.specs.declared.frame.Within.{Within}
use Rattle.std.specs.List.{list_any}
use Rattle.giop_sig.specs.declared.types.TypeId.{TypeId}
use Rattle.giop_decode.specs.declared.progress.ValueFault.TheVariants as kinds
use Rattle.giop_decode.specs.declared.leaf.Leaf.{Leaf as Innermost}
use Rattle.giop_decode.specs.Fits.{HoldsOffset, AllHoldOffset}
use Rattle.giop_decode.specs.Reading.{type_at_cut}
use Rattle.giop_decode.specs.ReadResult.{Done, with_front, Coding, Fault, Leaf, ValueAt, OpenPart, Read, PathSegment, Short}
use Rattle.giop_decode.specs.ReadingSteps.{resume_outer, coding_at, coding_in, part_after_lines, parts_after_lines, resume_part, segment_in}
use Rattle.giop_decode.specs.Transitions.{HasOctetsLeft, frame_after_octet, frame_after_octets, HaveOctetsLeft, AreKnown, IsAtMost, FrameIndexFits, FrameIndexFitsAs, any_is_encapsulation, any_tells, within_by, within_after_encapsulation, within_after_frame, StandAt, StandsAt, innermost_coding, coding_in_frame, encapsulation_ended, read_from_next_leaf, short_unless_ended, leaf_by, leaf_of, leaf_type, any_encapsulation_ended, within_of, is_some_order, is_some_stage, part_as, part_in, open_part, open_part_in, open_parts, parts_in_room, tree_in, frames_after_octet, index_after_octet, frames_after_octets}
use Rattle.giop_sig.specs.Table.{Table}
use Rattle.giop_sig.specs.Trees.{tree_at}
use Rattle.giop_sig.specs.Types.{Led, Ty, Union}

-- ---- one more octet

place_after_octet : (here : ℕ) (inside : Option Order) (T : Ty) (i count : ℕ) →
    IfSome inside (λ order. i < count) →
    open_part_in (here + 1) inside T (index_after_octet inside i) count
    ≡ open_part_in here inside T i count
place_after_octet here None T i count h = refl
place_after_octet here (Some order) T i count h = search (arith)

place_as_after_octet : (told : Option Stage) (here : ℕ) (inside : Option Order) (T : Ty)
    (i count : ℕ) → IfSome inside (λ order. i < count) → FrameIndexFitsAs told inside i count T →
    part_as told (here + 1) inside T (index_after_octet inside i) count
    ≡ part_as told here inside T i count
place_as_after_octet None here inside T i count h k = place_after_octet here inside T i count h
place_as_after_octet (Some stage) here inside T i count h k = rw k.1 refl

pub places_after_octet : (C : Table) (room here : ℕ) (frames : List Frame) → HaveOctetsLeft frames →
    AreKnown C frames → parts_in_room C room (here + 1) (frames_after_octet frames)
    ≡ parts_in_room C room here frames
places_after_octet C room here [] h k = refl
places_after_octet C room here (f ∷ frames) h k =
    ap (λ p. p ∷ parts_in_room C (pred room) (here + 1) (frames_after_octet frames))
    (place_as_after_octet f.told here f.inside (tree_at C room f.of.0) f.index f.count h.0
    (k.0.within room))
    ∙ ap (λ ps. open_part C room here f ∷ ps) (places_after_octet C (pred room) here frames h.1 k.1)

within_after_octet : (inside : Option Order) (i count : ℕ) (T : Ty) →
    IfSome inside (λ order. i < count) → FrameIndexFits inside i count T →
    FrameIndexFits inside (index_after_octet inside i) count T
within_after_octet None i count T h k = k
within_after_octet (Some order) i count T h k = search (arith)

within_as_after_octet : (told : Option Stage) (inside : Option Order) (i count : ℕ) (T : Ty) →
    IfSome inside (λ order. i < count) → FrameIndexFitsAs told inside i count T →
    FrameIndexFitsAs told inside (index_after_octet inside i) count T
within_as_after_octet None inside i count T h k = within_after_octet inside i count T h k
within_as_after_octet (Some stage) inside i count T h k = k

pub known_after_octet : (C : Table) (frames : List Frame) → HaveOctetsLeft frames →
    AreKnown C frames → AreKnown C (frames_after_octet frames)
known_after_octet C [] h k = tt
known_after_octet C (f ∷ frames) h k = search
    (arith, within_as_after_octet, known_after_octet C frames h.1 k.1)

stands_after_octet : (here : ℕ) (inside : Option Order) (i : ℕ) →
    IfSome inside (λ order. i ≤ here) →
    IfSome inside (λ order. index_after_octet inside i ≤ here + 1)
stands_after_octet here None i h = tt
stands_after_octet here (Some order) i h = omega (arith, h)

pub stand_after_octet : (here : ℕ) (frames : List Frame) → StandAt here frames →
    StandAt (here + 1) (frames_after_octet frames)
stand_after_octet here [] h = tt
stand_after_octet here (f ∷ frames) h = search
    (arith, stands_after_octet, stand_after_octet here frames h.1)

pub length_after_octet : (frames : List Frame) → length (frames_after_octet frames) ≡ length frames
length_after_octet [] = refl
length_after_octet (f ∷ frames) = ap suc (length_after_octet frames)

-- counting an octet leaves as much room as before
pub tree_after_octet : (C : Table) (frames : List Frame) (of : ℕ) →
    tree_in C (frames_after_octet frames) of ≡ tree_in C frames of
tree_after_octet C frames of = ap (λ n. tree_at C (24 - n) of) (length_after_octet frames)

pub leaf_after_octet : (C : Table) (old new : List Frame) (leaf : Innermost)
    (carry piece : List ℕ) →
    new ≡ frames_after_octet old → leaf_of C old leaf carry piece ≡ leaf_of C new leaf carry piece
leaf_after_octet C old new leaf carry piece counts =
    ap (λ T. leaf_by T leaf carry piece) (sym (ap (λ fs. tree_in C fs (leaf_type leaf)) counts
    ∙ tree_after_octet C old (leaf_type leaf)))

-- ---- if no encapsulation has ended

neither : (a b : Bool) → a || b ≡ false → (a ≡ false) × (b ≡ false)
neither true b h = let e = h in cc
neither false b h = (refl, h)

ahead_at : (inside : Option Order) (i count : ℕ) (T : Ty) → FrameIndexFits inside i count T →
    encapsulation_ended inside i count ≡ false → IfSome inside (λ order. i < count)
ahead_at None i count T k h = tt
ahead_at (Some order) i count T k h = search (arith, cases_lt, eq-eqb)

ahead_as : (told : Option Stage) (inside : Option Order) (i count : ℕ) (T : Ty) →
    FrameIndexFitsAs told inside i count T → encapsulation_ended inside i count ≡ false →
    IfSome inside (λ order. i < count)
ahead_as None inside i count T k h = ahead_at inside i count T k h
ahead_as (Some stage) inside i count T k h = rw k.1 tt

pub ahead_by : (C : Table) (frames : List Frame) → AreKnown C frames →
    any_encapsulation_ended frames ≡ false → HaveOctetsLeft frames
ahead_by C [] k h = tt
ahead_by C (f ∷ frames) k h =
    let n = neither (encapsulation_ended f.inside f.index f.count) (any_encapsulation_ended frames)
    h in (
      ahead_as f.told f.inside f.index f.count (tree_at C 24 f.of.0) (k.0.within 24) n.0,
      ahead_by C frames k.1 n.1,
    )

part_surrounds : (here : ℕ) (T : Ty) (i count : ℕ) → HoldsOffset here (part_in T i count)
part_surrounds here (Union n scalar select names cases) i count = tt
part_surrounds here (Led h F parts) i count = tt
part_surrounds here T i count = tt

surround_at : (here : ℕ) (inside : Option Order) (T : Ty) (i count : ℕ) →
    FrameIndexFits inside i count T → IfSome inside (λ order. i < count) →
    IfSome inside (λ order. i ≤ here) → HoldsOffset here (open_part_in here inside T i count)
surround_at here None T i count k a s = part_surrounds here T i count
surround_at here (Some order) T i count k a s =
    let some = k.1 in
    (omega (arith, a), λ later h. omega (arith, some, s, h))

surround_as : (told : Option Stage) (here : ℕ) (inside : Option Order) (T : Ty) (i count : ℕ) →
    FrameIndexFitsAs told inside i count T → IfSome inside (λ order. i < count) →
    IfSome inside (λ order. i ≤ here) → HoldsOffset here (part_as told here inside T i count)
surround_as None here inside T i count k a s = surround_at here inside T i count k a s
surround_as (Some stage) here inside T i count k a s = tt

pub surrounds : (C : Table) (room here : ℕ) (frames : List Frame) → AreKnown C frames →
    HaveOctetsLeft frames →
    StandAt here frames → AllHoldOffset here (parts_in_room C room here frames)
surrounds C room here [] k a s = tt
surrounds C room here (f ∷ frames) k a s = (
  surround_as f.told here f.inside (tree_at C room f.of.0) f.index f.count (k.0.within room) a.0
      s.0,
  surrounds C (pred room) here frames k.1 a.1 s.1,
)

-- ---- a part that goes on inside these frames

resumed_short : (coding : Coding) (path : List PathSegment) (T : Ty) (i count : ℕ)
    (lines : List ValueAt)
    (at : ℕ) (outer : List OpenPart) (leaf : Leaf) →
    resume_part coding path (part_in T i count) (Short lines at outer leaf)
    ≡ Short lines at (part_in T i count ∷ outer) leaf
resumed_short coding path (Union n scalar select names cases) i count lines at outer leaf = refl
resumed_short coding path (Led h F parts) i count lines at outer leaf = refl
resumed_short coding path T i count lines at outer leaf = refl

resumed_fault : (coding : Coding) (path : List PathSegment) (T : Ty) (i count : ℕ)
    (lines : List ValueAt)
    (at : ℕ) (S : Ty) → resume_part coding path (part_in T i count)
    (Fault lines at kinds.EncapShort S)
    ≡ Fault lines at kinds.EncapShort S
resumed_fault coding path (Union n scalar select names cases) i count lines at S = refl
resumed_fault coding path (Led h F parts) i count lines at S = refl
resumed_fault coding path T i count lines at S = refl

-- a reading inside these open parts, or cut off by the end of an encapsulation
abbrev pub unless_ended : (ended : Bool) (lines : List ValueAt) (at : ℕ) (outer : List OpenPart)
    (leaf : Leaf) → Read
unless_ended ended lines at outer leaf =
    cond ended (Fault lines at kinds.EncapShort (type_at_cut leaf)) (Short lines at outer leaf)

pub resumed_shut : (coding : Coding) (path : List PathSegment) (inside : Option Order) (T : Ty)
    (i count : ℕ)
    (ended : Bool) (lines : List ValueAt) (at : ℕ) (outer : List OpenPart) (leaf : Leaf) →
    FrameIndexFits inside i count T → resume_part coding path (open_part_in at inside T i count)
    (unless_ended ended lines at outer leaf) ≡ unless_ended
    (encapsulation_ended inside i count || ended) lines
    at (open_part_in at inside T i count ∷ outer) leaf
resumed_shut coding path None T i count true lines at outer leaf k = search (arith, resumed_fault)
resumed_shut coding path None T i count false lines at outer leaf k = search (arith, resumed_short)
resumed_shut coding path (Some order) T i count ended lines at outer leaf k = search (
  arith,
  cases_lt,
  ne_eqb,
  lt-ltb,
  eq-eqb,
  le-ltb,
)

shut_as : (coding : Coding) (path : List PathSegment) (told : Option Stage) (inside : Option Order)
    (T : Ty) (i count : ℕ) (ended : Bool) (at : ℕ) (outer : List OpenPart) (leaf : Leaf) →
    FrameIndexFitsAs told inside i count T →
    resume_part coding path (part_as told at inside T i count) (unless_ended ended [] at outer leaf)
    ≡ unless_ended (encapsulation_ended inside i count || ended) [] at
    (part_as told at inside T i count ∷ outer) leaf
shut_as coding path None inside T i count ended at outer leaf k =
    resumed_shut coding path inside T i count ended [] at outer leaf k
shut_as coding path (Some stage) inside T i count true at outer leaf k = rw k.1 refl
shut_as coding path (Some stage) inside T i count false at outer leaf k = rw k.1 refl

-- a reading without a line, since the frames would hear a line
pub around_unless_ended : (C : Table) (room : ℕ) (coding : Coding) (path : List PathSegment)
    (at : ℕ) (frames : List Frame) (inner : List OpenPart) (leaf : Leaf) → AreKnown C frames →
    resume_outer coding path (parts_in_room C room at frames) (Short [] at inner leaf)
    ≡ unless_ended (any_encapsulation_ended frames) [] at (parts_in_room C room at frames ++ inner)
    leaf
around_unless_ended C room coding path at [] inner leaf k = refl
around_unless_ended C room coding path at (f ∷ frames) inner leaf k =
    let place = open_part C room at f in
    ap (resume_part coding path place)
    (around_unless_ended C (pred room) (coding_at coding place) (path ++ segment_in place ∷ []) at
    frames inner leaf k.1)
    ∙ shut_as coding path f.told f.inside (tree_at C room f.of.0) f.index f.count
    (any_encapsulation_ended frames) at (parts_in_room C (pred room) at frames ++ inner) leaf
    (k.0.within room)

pub around_gone : (C : Table) (coding : Coding) (path : List PathSegment) (at : ℕ)
    (frames : List Frame) (leaf : Leaf) → AreKnown C frames →
    resume_outer coding path (open_parts C at frames) (Short [] at [] leaf)
    ≡ short_unless_ended C [] at frames leaf
around_gone C coding path at frames leaf k = search (arith, around_unless_ended, append-nil)

-- a part that tells nothing hears nothing
heard_in_part : (lines : List ValueAt) (T : Ty) (i count : ℕ) →
    part_after_lines lines (part_in T i count) ≡ part_in T i count
heard_in_part lines (Union choice scalar select names cases) i count = refl
heard_in_part lines (Led h F parts) i count = refl
heard_in_part lines T i count = refl

pub heard_in_open : (lines : List ValueAt) (here : ℕ) (inside : Option Order) (T : Ty) (i count :
    ℕ) →
    part_after_lines lines (open_part_in here inside T i count) ≡ open_part_in here inside T i count
heard_in_open lines here None T i count = heard_in_part lines T i count
heard_in_open lines here (Some order) T i count = refl

-- one more frame
pub or_false : (b : Bool) → b || false ≡ b
or_false true = refl
or_false false = refl

pub or_true : (b : Bool) → b || true ≡ true
or_true true = refl
or_true false = refl

any_push : (p : Frame → Bool) (frames : List Frame) (f : Frame) →
    list_any p (frames ++ f ∷ []) ≡ list_any p frames || p f
any_push p [] f = or_false (p f)
any_push p (g ∷ frames) f = go (p g) (list_any p (frames ++ f ∷ [])) (list_any p frames) (p f)
    (any_push p frames f)
  where
    go : (b c d e : Bool) → c ≡ d || e → b || c ≡ (b || d) || e
    go true c d e h = refl
    go false c d e h = h

inside_push : (frames : List Frame) (f : Frame) → within_of (frames ++ f ∷ [])
    ≡ within_by (any_tells frames || is_some_stage f.told)
    (any_is_encapsulation frames || is_some_order
    f.inside)
inside_push frames f = rw (
  any_push (λ g. is_some_stage g.told) frames f,
  any_push (λ g. is_some_order g.inside) frames f,
) refl

by_more : (a b t : Bool) → within_by (a || t) (b || false) ≡ within_after_frame t (within_by a b)
by_more true b true = refl
by_more true b false = refl
by_more false b true = refl
by_more false true false = refl
by_more false false false = refl

by_held : (a b : Bool) → within_by (a || false) (b || true)
    ≡ within_after_encapsulation (within_by a b)
by_held true b = refl
by_held false true = refl
by_held false false = refl

-- one more frame that is of no encapsulation, and one that is of an encapsulation
pub push_more : (frames : List Frame) (f : Frame) → f.inside ≡ None →
    within_of (frames ++ f ∷ []) ≡ within_after_frame (is_some_stage f.told) (within_of frames)
push_more frames f none =
    inside_push frames f
    ∙ (ap (λ x. within_by (any_tells frames || is_some_stage f.told) (any_is_encapsulation frames
    || is_some_order x)) none ∙ by_more (any_tells frames) (any_is_encapsulation frames)
    (is_some_stage f.told))

pub push_held : (frames : List Frame) (f : Frame) (order : Order) → f.inside ≡ Some order →
    f.told ≡ None → within_of (frames ++ f ∷ []) ≡ within_after_encapsulation (within_of frames)
push_held frames f order is quiet =
    inside_push frames f
    ∙ (ap (λ x. within_by (any_tells frames || is_some_stage f.told) (any_is_encapsulation frames
    || is_some_order x)) is ∙ (ap (λ x. within_by (any_tells frames || is_some_stage x)
    (any_is_encapsulation frames || true)) quiet
    ∙ by_held (any_tells frames) (any_is_encapsulation frames)))

pub more_more : (s t : Bool) (within : Within) →
    within_after_frame t (within_after_frame s within) ≡ within_after_frame (s || t) within
more_more true true within = refl
more_more true false within = refl
more_more false t within = refl

pub more_most : (t : Bool) (within most : Within) → IsAtMost within most →
    IsAtMost (within_after_frame t within) (within_after_frame t most)
more_most true within most h = tt
more_most false within most h = h

pub at_most : (within : Within) → IsAtMost within within
at_most withins.Nothing = tt
at_most withins.Encapsulation = tt
at_most withins.Telling = tt

less_by : (a b s t : Bool) (most : Within) → IsAtMost (within_by (a || s) (b || t)) most →
    IsAtMost (within_by a b) most
less_by true b s t withins.Telling h = tt
less_by true b s t withins.Nothing h = h
less_by true b s t withins.Encapsulation h = h
less_by false false s t most h = tt
less_by false true true t withins.Telling h = tt
less_by false true true t withins.Nothing h = absurd h
less_by false true true t withins.Encapsulation h = tt
less_by false true false t most h = h

pub most_pop : (frames : List Frame) (f : Frame) (most : Within) →
    IsAtMost (within_of (frames ++ f ∷ [])) most → IsAtMost (within_of frames) most
most_pop frames f most h = less_by (any_tells frames) (any_is_encapsulation frames)
    (is_some_stage f.told)
    (is_some_order f.inside) most (subst (λ w. IsAtMost w most) (inside_push frames f) h)

at_none : (within : Within) → IsAtMost within withins.Nothing → within ≡ withins.Nothing
at_none withins.Nothing h = refl
at_none withins.Encapsulation h = absurd h
at_none withins.Telling h = absurd h

none_by : (a b : Bool) → within_by a b ≡ withins.Nothing → (a ≡ false) × (b ≡ false)
none_by true b h = absurd cc
none_by false true h = absurd cc
none_by false false h = (refl, refl)

most_by : (a b s t : Bool) (most : Within) → IsAtMost (within_by (a || s) (b || false)) most →
    IsAtMost (within_by (a || false) (b || false)) most
most_by true b s t most h = h
most_by false true true t withins.Telling h = tt
most_by false true true t withins.Encapsulation h = absurd h
most_by false true true t withins.Nothing h = absurd h
most_by false true false t most h = h
most_by false false s t most h = tt

-- A frame is put in the place of another. Both are of no encapsulation, and the new one doesn't
-- tell what comes after it.
pub most_replaced : (frames : List Frame) (f g : Frame) (most : Within) → f.inside ≡ None →
    g.inside ≡ None → g.told ≡ None → IsAtMost (within_of (frames ++ f ∷ [])) most →
    IsAtMost (within_of (frames ++ g ∷ [])) most
most_replaced frames f g most none gone quiet h =
    let was = rw none at (subst (λ w. IsAtMost w most) (inside_push frames f) h) in
    subst (λ w. IsAtMost w most) (sym (inside_push frames g))
    (rw (gone, quiet) (most_by (any_tells frames) (any_is_encapsulation frames)
    (is_some_stage f.told) false most
    was))

-- a part begins inside the frames
pub most_begun : (t : Bool) (mid new was now : Within) → new ≡ within_after_frame t mid →
    now ≡ within_after_frame t was → IsAtMost mid was → IsAtMost new now
most_begun t mid new was now is e h = rw (is, e) (more_most t mid was h)

pub outside_pop : (frames : List Frame) (f : Frame) →
    within_of (frames ++ f ∷ []) ≡ withins.Nothing → within_of frames ≡ withins.Nothing
outside_pop frames f h = at_none (within_of frames)
    (most_pop frames f withins.Nothing (rw h (at_most withins.Nothing)))

pub untelling : (frames : List Frame) → within_of frames ≡ withins.Nothing → any_tells frames ≡
    false
untelling frames h = (none_by (any_tells frames) (any_is_encapsulation frames) h).0

pub ended_push : (frames : List Frame) (f : Frame) → encapsulation_ended f.inside f.index f.count
    ≡ false → any_encapsulation_ended (frames ++ f ∷ []) ≡ any_encapsulation_ended frames
ended_push [] f h = rw h refl
ended_push (g ∷ frames) f h = search (arith, ended_push frames f h)

-- ---- how the innermost part's octets are taken

part_coding : (c : Coding) (T : Ty) (i count : ℕ) → coding_at c (part_in T i count) ≡ c
part_coding c (Union n scalar select names cases) i count = refl
part_coding c (Led h F parts) i count = refl
part_coding c T i count = refl

-- the order and the alignment of a coding at an offset, as a decoder has them
pub record IsCoded (here : ℕ) (c : Coding) (by : Order × ℕ) : Type 0 where
  pub order : c.order ≡ by.0
  pub at : c.phase here % 8 ≡ by.1

coded_at : (C : Table) (here : ℕ) (c : Coding) (by : Order × ℕ) (inside : Option Order) (T : Ty)
    (i count : ℕ) → IfSome inside (λ order. i ≤ here) → IsCoded here c by →
    IsCoded here (coding_at c (open_part_in here inside T i count)) (coding_in_frame by inside i)
coded_at C here c by None T i count s h = search (arith, part_coding)
coded_at C here c by (Some order) T i count s h = search (arith)

coded_as : (C : Table) (told : Option Stage) (here : ℕ) (c : Coding) (by : Order × ℕ)
    (inside : Option Order) (T : Ty) (i count : ℕ) → FrameIndexFitsAs told inside i count T →
    IfSome inside (λ order. i ≤ here) → IsCoded here c by →
    IsCoded here (coding_at c (part_as told here inside T i count)) (coding_in_frame by inside i)
coded_as C None here c by inside T i count k s h = coded_at C here c by inside T i count s h
coded_as C (Some stage) here c by inside T i count k s h = rw k.1 h

pub coded_in : (C : Table) (room here : ℕ) (c : Coding) (order : Order) (at : ℕ)
    (frames : List Frame) → AreKnown C frames → StandAt here frames → IsCoded here c (order, at) →
    IsCoded here (coding_in c (parts_in_room C room here frames)) (innermost_coding order at frames)
coded_in C room here c order at [] k s h = h
coded_in C room here c order at (f ∷ frames) k s h =
    let by = coding_in_frame (order, at) f.inside f.index in
    coded_in C (pred room) here (coding_at c (open_part C room here f)) by.0 by.1 frames k.1 s.1
    (coded_as C f.told here c (order, at) f.inside (tree_at C room f.of.0) f.index f.count
    (k.0.within room) s.0 h)

-- ---- if there is no encapsulation

either_none : (told : Option Stage) (inside : Option Order) (a b : Bool) →
    is_some_stage told || a ≡ false → is_some_order inside || b ≡ false →
    (inside ≡ None) × (told ≡ None) × (a ≡ false) × (b ≡ false)
either_none None None a b s t = (refl, refl, s, t)
either_none (Some stage) inside a b s t = absurd cc
either_none None (Some order) a b s t = absurd cc

pub free_first : (f : Frame) (frames : List Frame) → within_of (f ∷ frames) ≡ withins.Nothing →
    (f.inside ≡ None) × (f.told ≡ None) × (within_of frames ≡ withins.Nothing)
free_first f frames h =
    let n = none_by (any_tells (f ∷ frames)) (any_is_encapsulation (f ∷ frames)) h in
    let e = either_none f.told f.inside (any_tells frames) (any_is_encapsulation frames) n.0 n.1 in
    (e.0, e.1, rw (e.2, e.3) refl)

free_index : (inside : Option Order) (i : ℕ) → inside ≡ None → index_after_octet inside i ≡ i
free_index inside i h = rw h refl

pub free_after_octet : (frames : List Frame) → within_of frames ≡ withins.Nothing → frames
    ≡ frames_after_octet frames
free_after_octet [] h = refl
free_after_octet (f ∷ frames) h =
    let n = free_first f frames h in
    let one : f ≡ frame_after_octet f = rw (free_index f.inside f.index n.0) refl in
    ap (λ g. g ∷ frames) one ∙ ap (λ fs. frame_after_octet f ∷ fs) (free_after_octet frames n.2)

pub free_ended : (frames : List Frame) → within_of frames ≡ withins.Nothing →
    any_encapsulation_ended frames ≡ false
free_ended [] h = refl
free_ended (f ∷ frames) h =
    let n = free_first f frames h in
    rw n.0 (free_ended frames n.2)

pub free_coding_by : (order : Order) (at : ℕ) (frames : List Frame) → within_of frames ≡
    withins.Nothing →
    innermost_coding order at frames ≡ (order, at)
free_coding_by order at [] h = refl
free_coding_by order at (f ∷ frames) h =
    let n = free_first f frames h in
    rw n.0 (free_coding_by order at frames n.2)

unheard_as : (told : Option Stage) (lines : List ValueAt) (here : ℕ) (inside : Option Order) (T :
    Ty)
    (i count : ℕ) → told ≡ None →
    part_after_lines lines (part_as told here inside T i count) ≡ part_as told here inside T i count
unheard_as told lines here inside T i count none = rw none (heard_in_open lines here inside T i
    count)

quiet_first : (told : Option Stage) (rest : Bool) → is_some_stage told || rest ≡ false →
    (told ≡ None) × (rest ≡ false)
quiet_first None rest h = (refl, h)
quiet_first (Some stage) rest h = absurd cc

-- if no frame tells what comes after it, nothing is heard
pub unheard : (C : Table) (room here : ℕ) (lines : List ValueAt) (frames : List Frame) →
    any_tells frames ≡ false →
    parts_after_lines lines (parts_in_room C room here frames) ≡ parts_in_room C room here frames
unheard C room here lines [] h = refl
unheard C room here lines (f ∷ frames) h =
    let n = quiet_first f.told (any_tells frames) h in
    search (arith, unheard_as, unheard C (pred room) here lines frames n.1)

-- counting an octet doesn't change what the frames ask of an octet
tells_after_octet : (frames : List Frame) → any_tells (frames_after_octet frames) ≡ any_tells frames
tells_after_octet [] = refl
tells_after_octet (f ∷ frames) = ap (λ b. is_some_stage f.told || b) (tells_after_octet frames)

holds_after_octet : (frames : List Frame) → any_is_encapsulation (frames_after_octet frames)
    ≡ any_is_encapsulation frames
holds_after_octet [] = refl
holds_after_octet (f ∷ frames) = ap (λ b. is_some_order f.inside || b) (holds_after_octet frames)

pub inside_after_octet : (frames : List Frame) → within_of (frames_after_octet frames)
    ≡ within_of frames
inside_after_octet frames = rw (tells_after_octet frames, holds_after_octet frames) refl

pub stand_push : (at : ℕ) (frames : List Frame) (f : Frame) → StandAt at frames → StandsAt at f →
    StandAt at (frames ++ f ∷ [])
stand_push at [] f h k = (k, tt)
stand_push at (g ∷ frames) f h k = (h.0, stand_push at frames f h.1 k)

pub stand_pop : (at : ℕ) (frames : List Frame) (f : Frame) → StandAt at (frames ++ f ∷ []) →
    StandAt at frames
stand_pop at [] f h = tt
stand_pop at (g ∷ frames) f h = (h.0, stand_pop at frames f h.1)

pub coding_push : (order : Order) (at : ℕ) (frames : List Frame) (f : Frame) →
    innermost_coding order at (frames ++ f ∷ [])
    ≡ coding_in_frame (innermost_coding order at frames) f.inside f.index
coding_push order at [] f = refl
coding_push order at (g ∷ frames) f = let c = coding_in_frame (order, at) g.inside g.index in
    coding_push c.0 c.1 frames f

-- the frames before an index are counted by `tick`, and the others are as before
pub record AreFirstMapped (tick : Frame → Frame) (i : ℕ) (now old : List Frame) : Type 0 where
  pub front : take i now ≡ map tick (take i old)
  pub back : drop i now ≡ drop i old
  pub same : length now ≡ length old

pub get_at : (i : ℕ) (now old : List Frame) (d : Frame) → drop i now ≡ drop i old →
    get_or now i d ≡ get_or old i d
get_at i now old d e = sym (get_or-drop-zero i now d)
    ∙ (ap (λ xs. get_or xs 0 d) e ∙ get_or-drop-zero i old d)
  where
    get_or-drop-zero : (k : ℕ) (xs : List Frame) (z : Frame) →
        get_or (drop k xs) 0 z ≡ get_or xs k z
    get_or-drop-zero zero xs z = refl
    get_or-drop-zero (suc k) [] z = refl
    get_or-drop-zero (suc k) (x ∷ xs) z = get_or-drop-zero k xs z

drop_set : (i : ℕ) (xs : List Frame) (y : Frame) → drop (i + 1) (set xs i y) ≡ drop (i + 1) xs
drop_set i xs y = rw add-one (go i xs)
  where
    go : (k : ℕ) (zs : List Frame) → drop (suc k) (set zs k y) ≡ drop (suc k) zs
    go zero [] = refl
    go zero (z ∷ zs) = refl
    go (suc k) [] = refl
    go (suc k) (z ∷ zs) = go k zs

drop_more : (i : ℕ) (xs ys : List Frame) → drop i xs ≡ drop i ys → drop (i + 1) xs ≡ drop (i + 1) ys
drop_more i xs ys e = rw (add-one, drop_suc i xs, drop_suc i ys, e) refl
  where
    drop_suc : (k : ℕ) (zs : List Frame) → drop (suc k) zs ≡ drop 1 (drop k zs)
    drop_suc zero zs = refl
    drop_suc (suc k) [] = refl
    drop_suc (suc k) (z ∷ zs) = drop_suc k zs

pub counted_more : (tick : Frame → Frame) (i : ℕ) (now old : List Frame) (d y : Frame) →
    AreFirstMapped tick i now old → i < length now → y ≡ tick (get_or now i d) →
    AreFirstMapped tick (i + 1) (set now i y) old
counted_more tick i now old d y h below is =
    let lt : i < length old = omega (arith, h.same) in
    record {
      front = take_more_set now i y below ∙ (rw (h.front, is, get_at i now old d h.back) refl
          ∙ (sym (map-append tick (take i old) (get_or old i d ∷ []))
          ∙ ap (map tick) (sym (take_more old i d lt))));
      back = drop_set i now y ∙ drop_more i now old h.back;
      same = length-set now i y ∙ h.same;
    }

-- several octets are counted together
ahead_after_octet_get : (n : ℕ) (frames : List Frame) (i : ℕ) (d : Frame) →
    HaveOctetsLeft (frames_after_octets n frames) → i < length frames →
    HasOctetsLeft (frame_after_octets n (get_or frames i d))
ahead_after_octet_get n [] i d h below = absurd (omega arith)
ahead_after_octet_get n (f ∷ frames) zero d h below = h.0
ahead_after_octet_get n (f ∷ frames) (suc i) d h below =
    ahead_after_octet_get n frames i d h.1 (omega arith)

pub counted_ahead_by : (tick : Frame → Frame) (n i : ℕ) (now old : List Frame) (d : Frame) →
    AreFirstMapped tick i now old → HaveOctetsLeft (frames_after_octets n old) → i < length now →
    HasOctetsLeft (frame_after_octets n (get_or now i d))
counted_ahead_by tick n i now old d h ahead below =
    let lt : i < length old = omega (arith, h.same) in
    rw (get_at i now old d h.back) (ahead_after_octet_get n old i d ahead lt)

pub coding_next : (order : Order) (at : ℕ) (outer : List Frame) (i : ℕ) (d : Frame) →
    i < length outer → coding_in_frame (innermost_coding order at (take i outer))
    (get_or outer i d).inside
    (get_or outer i d).index ≡ innermost_coding order at (take (i + 1) outer)
coding_next order at outer i d below =
    rw (take_more outer i d below, coding_push order at (take i outer) (get_or outer i d)) refl

-- the reading after a part has ended, if it has these lines
abbrev pub read_with_next_leaf : (C : Table) (lines : List ValueAt) (at : ℕ) (frames : List Frame)
    (leaf : Option Innermost) → Read
read_with_next_leaf C lines at frames None = Done lines at []
read_with_next_leaf C lines at frames (Some leaf) = short_unless_ended C lines at frames
    (leaf_of C frames leaf [] [])

pub front_shut : (ended : Bool) (front : List ValueAt) (at : ℕ) (outer : List OpenPart) (leaf :
    Leaf) →
    with_front front (unless_ended ended [] at outer leaf) ≡ unless_ended ended front at outer leaf
front_shut true front at outer leaf = search (arith, append-nil)
front_shut false front at outer leaf = search (arith, append-nil)

pub front_gone : (C : Table) (lines : List ValueAt) (at : ℕ) (frames : List Frame)
    (leaf : Option Innermost) → with_front lines (read_from_next_leaf C at frames leaf)
    ≡ read_with_next_leaf C lines at frames leaf
front_gone C lines at frames None = search (arith, append-nil)
front_gone C lines at frames (Some leaf) = search (arith, front_shut)

pub behind_stopped : (C : Table) (frames : List Frame) (carry piece : List ℕ)
    (leaf : Option Innermost) (lines : List ValueAt) (at : ℕ) → carry ≡ [] → piece ≡ [] →
    read_with_next_leaf C lines at frames leaf ≡ read_unless_ended_with C frames carry piece leaf
    lines at
behind_stopped C frames carry piece None lines at no_carry no_piece = refl
behind_stopped C frames carry piece (Some leaf) lines at no_carry no_piece =
    rw (no_carry, no_piece) refl

pub gone_stopped : (C : Table) (frames : List Frame) (carry piece : List ℕ)
    (leaf : Option Innermost) (at : ℕ) → carry ≡ [] → piece ≡ [] →
    read_from_next_leaf C at frames leaf ≡ read_unless_ended_with C frames carry piece leaf [] at
gone_stopped C frames carry piece None at no_carry no_piece = refl
gone_stopped C frames carry piece (Some leaf) at no_carry no_piece = rw (no_carry, no_piece) refl

-- the same with lines, if no frame hears them
pub around_free : (C : Table) (coding : Coding) (path : List PathSegment) (at : ℕ)
    (frames : List Frame) (lines : List ValueAt) (leaf : Leaf) →
    within_of frames ≡ withins.Nothing →
    AreKnown C frames → resume_outer coding path (open_parts C at frames) (Short lines at [] leaf)
    ≡ short_unless_ended C lines at frames leaf
around_free C coding path at frames lines leaf free k =
    let ps = open_parts C at frames in
    let r = Short [] at [] leaf in
    ap (λ ls. resume_outer coding path ps (Short ls at [] leaf)) (sym (append-nil lines))
    ∙ (around-front coding path ps lines r
    ∙ (ap (λ qs. with_front lines (resume_outer coding path qs r))
    (unheard C 24 at lines frames (untelling frames free))
    ∙ (ap (with_front lines) (around_gone C coding path at frames leaf k)
    ∙ front_shut (any_encapsulation_ended frames) lines at ps leaf)))

-- the frame of an encapsulation whose byte order was read
abbrev pub inside_frame : (of : TypeId) (order : Order) (count : ℕ) → Frame
inside_frame of order count = record {
  of = of;
  index = 1;
  count = count;
  inside = Some order;
  told = None;
}
