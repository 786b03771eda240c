-- What comes after a part has ended: the next of several parts, or the rest of an encapsulation.
use Rattle.std.proofs.Common.{◌≡◌, ℕ, zero, suc, pred, ◌+◌, ◌-◌, ◌<◌, ◌≤◌, List, [], ◌∷◌, ◌++◌, length, Option, Some, None, refl, ap, subst, ◌∙◌, arith}
use Rattle.std.specs.List.{AllByRecursion}
use Rattle.giop_decode.specs.ReadResult.{Coding, PathSegment, OpenPart, Part, Member, Done, Short, coding_from, Inside, Content}
use Rattle.giop_decode.specs.ReadingSteps.{resume_outer}
use Rattle.giop_decode.specs.Fits.{HasParts, HasCase, OpenPartFits, OpenPartsFit, IsEncapsulation}
use Rattle.giop_decode.specs.Begins.{start_outer, start_leaf}
use Rattle.giop_decode.specs.Transitions.{IsUncounted, FrameIndexFits, FrameIndexFitsAs, part_as, part_in, open_part, open_parts, parts_in_room, tree_in, IsKnown, AreKnown}
use Rattle.giop_decode.specs.declared.frame.Frame.{Frame}
use Rattle.giop_decode.specs.declared.frame.Stage.{Stage}
use Rattle.giop_decode.specs.NextParts.{frames_above}
use Rattle.giop_decode.proofs.TransitionLaws.{content_none}
use Rattle.giop_decode.proofs.Beginning.{places_push}
use Rattle.giop_decode.proofs.Around.{around-append, next_part, last_part}
use Rattle.giop_sig.specs.Types.{Cases, Led, Ty, Struct, Union, Sequence, Array, part_of, shape_in, HasIndex, Tag, Encapsulation, Recursive}
use Rattle.giop_sig.specs.Fits.{IsFit}
use Rattle.giop_cdr.specs.declared.order.Order.{Order}
use Rattle.giop_sig.specs.Trees.{tree_at}
use Rattle.giop_sig.specs.Table.{Table}

-- the innermost open part, and how much depth is left for it
pub record Innermost (d : ℕ) (ps : List OpenPart) (p : OpenPart) : Type 0 where
  pub front : OpenPartsFit d ps
  pub left : ℕ
  pub depth : d ≡ length ps + suc left
  pub «open» : OpenPartFits (suc left) p

innermost_deeper : (d : ℕ) (q : OpenPart) (ps : List OpenPart) (p : OpenPart) →
    OpenPartFits (suc d) q → Innermost d ps p → Innermost (suc d) (q ∷ ps) p
innermost_deeper d q ps p is i = search (arith)

pub innermost : (d : ℕ) (ps : List OpenPart) (p : OpenPart) → OpenPartsFit d (ps ++ p ∷ []) →
    Innermost d ps p
innermost zero [] p h = absurd h
innermost zero (q ∷ ps) p h = absurd h
innermost (suc d) [] p h = search (arith)
innermost (suc d) (q ∷ ps) p h = innermost_deeper d q ps p h.0 (innermost d ps p h.1)

-- an open part that is followed by another part is one of several parts
pub record HasPartAfter (d : ℕ) (T : Ty) (i count : ℕ) : Type 0 where
  pub is : part_in T i count ≡ Part T i count
  pub then : part_in T (suc i) count ≡ Part T (suc i) count
  pub parts : HasParts T count
  pub fit : IsFit d T
  pub placed : HasIndex (shape_in T) (suc i)

pub next_in : (d : ℕ) (T : Ty) (i count : ℕ) → OpenPartFits d (part_in T i count) →
    (IsUncounted (shape_in T) → count ≡ 0) → suc i < count → HasPartAfter d T i count
next_in d (Struct n names parts) i count h none below = search (arith)
next_in d (Array n E) i count h none below = search (arith)
next_in d (Sequence bound E) i count h none below = search (arith)
next_in d (Recursive bound fits E) i count h none below = search (arith)
next_in d (Union (Cases n) scalar select names cases) i count h none below = search (arith)
next_in d (Union Tag scalar select names cases) i count h none below = search (arith)
next_in d (Led h F parts) i count k none below = search (arith)
next_in d T i count h none below = absurd h.0

pub goes_next : (coding : Coding) (path : List PathSegment) (ps : List OpenPart) (T : Ty)
    (i count at e : ℕ) →
    HasPartAfter (suc e) T i count → suc i < count →
    resume_outer coding path (ps ++ part_in T i count ∷ []) (Done [] at [])
    ≡ resume_outer coding path ps (Short [] at (part_in T (suc i) count
    ∷ start_outer (part_of T (suc i))) (start_leaf (part_of T (suc i))))
goes_next coding path ps T i count at e next below = search (arith, around-append, next_part)

-- after the value in an encapsulation comes the rest of its octets
pub goes_rest : (coding : Coding) (path : List PathSegment) (ps : List OpenPart) (T : Ty)
    (inner : Coding)
    (end at left : ℕ) → 0 < left → end - at ≡ left →
    resume_outer coding path (ps ++ Inside T inner end ∷ []) (Done [] at [])
    ≡ resume_outer coding path ps (Short [] at [] (Content T left 0 []))
goes_rest coding path ps T inner end at zero some e = absurd (omega arith)
goes_rest coding path ps T inner end at (suc left) some e = search (
  arith,
  around-append,
  content_none,
)

pub part_is : (C : Table) (room at : ℕ) (f : Frame) → f.inside ≡ None → f.told ≡ None →
    open_part C room at f ≡ part_in (tree_at C room f.of.0) f.index f.count
part_is C room at f none quiet = rw (quiet, none) refl

-- the frame of an encapsulation doesn't tell what comes after it,
quiet_held : (told : Option Stage) (inside : Option Order) (order : Order) (T : Ty) (i count : ℕ) →
    FrameIndexFitsAs told inside i count T → inside ≡ Some order → told ≡ None
quiet_held None inside order T i count k is = refl
quiet_held (Some stage) inside order T i count k is = let none = k.1 in absurd cc

pub held_is : (C : Table) (room at : ℕ) (f : Frame) (order : Order) → IsKnown C f →
    f.inside ≡ Some order →
    open_part C room at f ≡ Inside (tree_at C room f.of.0) (coding_from order (at - f.index))
    (at + (f.count - f.index))
held_is C room at f order k some =
    rw (
      quiet_held f.told f.inside order (tree_at C room f.of.0) f.index f.count (k.within room)
          some,
      some,
    ) refl

-- nor does a frame with a part that is followed by another part
quiet_next : (told : Option Stage) (inside : Option Order) (T : Ty) (i count : ℕ) →
    FrameIndexFitsAs told inside i count T → i < count - 1 → told ≡ None
quiet_next None inside T i count k below = refl
quiet_next (Some stage) inside T i count k below = absurd (omega (arith, k.2))

pub next_quiet : (C : Table) (f : Frame) → IsKnown C f → f.index < f.count - 1 → f.told ≡ None
next_quiet C f k below =
    quiet_next f.told f.inside (tree_at C 24 f.of.0) f.index f.count (k.within 24) below

module _ (coding : Coding) (path : List PathSegment) (ps : List OpenPart) where
  pub goes_past : (T : Ty) (inner : Coding) (end at : ℕ) → end - at ≡ 0 →
      resume_outer coding path (ps ++ Inside T inner end ∷ []) (Done [] at [])
      ≡ resume_outer coding path ps (Done [] at [])
  goes_past T inner end at e = search (arith, around-append)

  part_out : (T : Ty) (i count at : ℕ) → count ≤ suc i →
      resume_outer coding path (ps ++ Part T i count ∷ []) (Done [] at [])
      ≡ resume_outer coding path ps (Done [] at [])
  part_out T i count at h = search (arith, around-append, last_part)

  pub goes_out : (T : Ty) (i count at : ℕ) → count ≤ suc i →
      resume_outer coding path (ps ++ part_in T i count ∷ []) (Done [] at [])
      ≡ resume_outer coding path ps (Done [] at [])
  goes_out (Union n scalar select names cases) i count at h = search (arith, around-append)
  goes_out (Led k F parts) i count at h = search (arith, around-append)
  goes_out T i count at h = part_out T i count at h

pub all_pop : {X : Type 0} (P : X → Type 0) (xs : List X) (x : X) →
    AllByRecursion P (xs ++ x ∷ []) → AllByRecursion P xs × P x
all_pop P [] x h = (tt, h.0)
all_pop P (y ∷ xs) x h = search (arith, all_pop P xs x h.1)

pub length_places : (C : Table) (room at : ℕ) (frames : List Frame) →
    length (parts_in_room C room at frames) ≡ length frames
length_places C room at [] = refl
length_places C room at (f ∷ frames) = ap suc (length_places C (pred room) at frames)

pub record FitsWhenPopped (C : Table) (at : ℕ) (rest : List Frame) (f : Frame) : Type 0 where
  pub known_rest : AreKnown C rest
  pub known : IsKnown C f
  pub inner : Innermost 24 (open_parts C at rest) (open_part C (24 - length rest) at f)

pub popped : (C : Table) (at : ℕ) (items rest : List Frame) (f : Frame) → AreKnown C items →
    OpenPartsFit 24 (open_parts C at items) → items ≡ rest ++ f ∷ [] → FitsWhenPopped C at rest f
popped C at items rest f known are_open e =
    let all = all_pop (IsKnown C) rest f (subst (AreKnown C) e known) in
    record {
      known_rest = all.0;
      known = all.1;
      inner = innermost 24 (open_parts C at rest) (open_part C (24 - length rest) at f)
          (subst (OpenPartsFit 24) (ap (open_parts C at) e ∙ places_push C 24 at rest f) are_open);
    }

-- what holds when a frame is removed that is of no encapsulation and doesn't tell what comes after
-- it
pub record PartPopped (C : Table) (at : ℕ) (rest : List Frame) (f : Frame) : Type 0 where
  pub known_rest : AreKnown C rest
  pub known : f.of.0 < length C.types
  pub within : (room : ℕ) → FrameIndexFits None f.index f.count (tree_at C room f.of.0)
  pub front : OpenPartsFit 24 (open_parts C at rest)
  pub left : ℕ
  pub depth : 24 - length rest ≡ suc left
  pub few : length rest < 24
  pub «open» : OpenPartFits (suc left) (part_in (tree_in C rest f.of.0) f.index f.count)

pub part_popped : (C : Table) (at : ℕ) (items rest : List Frame) (f : Frame) → AreKnown C items →
    OpenPartsFit 24 (open_parts C at items) → items ≡ rest ++ f ∷ [] → f.inside ≡ None →
    f.told ≡ None → PartPopped C at rest f
part_popped C at items rest f known are_open e none quiet =
    let p = popped C at items rest f known are_open e in
    let size = length_places C 24 at rest in
    let deep = p.inner.depth in
    record {
      known_rest = p.known_rest;
      known = p.known.known;
      within = λ room. subst (λ x. FrameIndexFits x f.index f.count (tree_at C room f.of.0)) none
          (subst (λ x. FrameIndexFitsAs x f.inside f.index f.count (tree_at C room f.of.0)) quiet
          (p.known.within room));
      front = p.inner.front;
      left = p.inner.left;
      depth = omega (arith, deep, size);
      few = omega (arith, deep, size);
      «open» = subst (OpenPartFits (suc p.inner.left))
          (part_is C (24 - length rest) at f none quiet)
          p.inner.«open»;
    }

-- what holds when a frame is removed that tells what comes after it
pub record TellPopped (C : Table) (at : ℕ) (rest : List Frame) (f : Frame) (stage : Stage) : Type 0
  where
    pub known_rest : AreKnown C rest
    pub known : f.of.0 < length C.types
    pub within : (room : ℕ) → FrameIndexFitsAs (Some stage) f.inside f.index f.count
        (tree_at C room f.of.0)
    pub front : OpenPartsFit 24 (open_parts C at rest)
    pub left : ℕ
    pub depth : 24 - length rest ≡ suc left
    pub few : length rest < 24
    pub fit : IsFit (suc left) (tree_in C rest f.of.0)

pub tell_popped : (C : Table) (at : ℕ) (items rest : List Frame) (f : Frame) (stage : Stage) →
    AreKnown C items → OpenPartsFit 24 (open_parts C at items) → items ≡ rest ++ f ∷ [] →
    f.told ≡ Some stage → TellPopped C at rest f stage
tell_popped C at items rest f stage known are_open e tells =
    let p = popped C at items rest f known are_open e in
    let size = length_places C 24 at rest in
    let deep = p.inner.depth in
    let T = tree_in C rest f.of.0 in
    record {
      known_rest = p.known_rest;
      known = p.known.known;
      within = λ room. subst (λ x. FrameIndexFitsAs x f.inside f.index f.count
          (tree_at C room f.of.0))
          tells (p.known.within room);
      front = p.inner.front;
      left = p.inner.left;
      depth = omega (arith, deep, size);
      few = omega (arith, deep, size);
      fit = (subst (λ x. OpenPartFits (suc p.inner.left) (part_as x at f.inside T f.index f.count))
          tells
          p.inner.«open»).1;
    }

-- what holds when the frame of an encapsulation is removed
pub record HeldPopped (C : Table) (at : ℕ) (rest : List Frame) (f : Frame) (order : Order) : Type 0
  where
    pub known_rest : AreKnown C rest
    pub known : IsKnown C f
    pub kind : IsEncapsulation (tree_in C rest f.of.0)
    pub within : f.index ≤ f.count
    pub front : OpenPartsFit 24 (open_parts C at rest)

pub held_popped : (C : Table) (at : ℕ) (items rest : List Frame) (f : Frame) (order : Order) →
    AreKnown C items → OpenPartsFit 24 (open_parts C at items) → items ≡ rest ++ f ∷ [] →
    f.inside ≡ Some order → HeldPopped C at rest f order
held_popped C at items rest f order known are_open e some =
    let p = popped C at items rest f known are_open e in
    let T = tree_in C rest f.of.0 in
    let within = p.known.within (24 - length rest) in
    let quiet = quiet_held f.told f.inside order T f.index f.count within some in
    let w : FrameIndexFits (Some order) f.index f.count T =
    subst (λ x. FrameIndexFits x f.index f.count T) some
    (subst (λ x. FrameIndexFitsAs x f.inside f.index f.count T) quiet within) in
    record {
      known_rest = p.known_rest;
      known = p.known;
      kind = w.0;
      within = w.2;
      front = p.inner.front;
    }

-- the frames that are left when the innermost frame is removed
pub popped_is : (old new : List Frame) (f : Frame) → new ≡ frames_above old →
    old ≡ frames_above old ++ f ∷ [] → old ≡ new ++ f ∷ []
popped_is old new f e is = search (arith)

-- a type that has parts can be at the first of them
pub parts_within : (T : Ty) (count : ℕ) → HasParts T count → 0 < count →
    FrameIndexFits None 0 count T
parts_within (Struct n names parts) count has some = search (arith)
parts_within (Array n E) count has some = search (arith)
parts_within (Sequence bound E) count has some = search (arith)
parts_within (Recursive bound fits E) count has some = search (arith)
parts_within T count has some = absurd has

pub case_within : (T : Ty) (i : ℕ) → HasCase T i → FrameIndexFits None i 0 T
case_within (Union (Cases n) scalar select names cases) i has = search (arith)
case_within (Union Tag scalar select names cases) i has = search (arith)
case_within (Led h F parts) i has = search (arith)
case_within T i has = absurd has

pub place_part : (T : Ty) (i count : ℕ) → HasParts T count → part_in T i count ≡ Part T i count
place_part (Encapsulation E) i count h = absurd h
place_part (Union choice scalar select names cases) i count h = absurd h
place_part (Led k F parts) i count h = absurd h
place_part T i count h = refl

pub place_case : (T : Ty) (i count : ℕ) → HasCase T i → part_in T i count ≡ Member T i
place_case (Union choice scalar select names cases) i count h = refl
place_case (Led k F parts) i count h = refl
place_case T i count h = absurd h
