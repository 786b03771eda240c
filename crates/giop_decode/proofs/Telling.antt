-- What comes after a part that tells it.
use Rattle.std.proofs.Common.{◌≡◌, ℕ, zero, suc, ◌+◌, ◌-◌, ◌<◌, List, [], ◌∷◌, ◌++◌, length, Option, Some, None, refl, sym, ◌∙◌, ap, subst, arith, append_assoc, length-append}
use Rattle.giop_cdr.specs.declared.order.Order.{Order}
use Rattle.giop_decode.specs.declared.frame.Frame.{Frame}
use Rattle.giop_decode.specs.declared.frame.Stage.{Stage}
use Rattle.giop_decode.specs.declared.leaf.Leaf.TheVariants as innermost
use Rattle.giop_decode.specs.declared.progress.ValueFault.TheVariants as kinds
use Rattle.giop_decode.specs.Begins.{start_leaf, start_outer}
use Rattle.giop_decode.specs.Fits.{HasCase, IsLed, OpenPartsFit}
use Rattle.giop_decode.specs.Heard.{SameComesNext, PartComesNext, read_at_start}
use Rattle.giop_decode.specs.ReadResult.{Coding, PathSegment, OpenPart, Part, Member, Inside, Telling, LeadingNumber, Done, Short, Fault, coding_from}
use Rattle.giop_decode.specs.Reading.{none_left, done_if_untyped}
use Rattle.giop_decode.specs.ReadingSteps.{resume_outer, coding_in, inner_path, path_in}
use Rattle.giop_decode.specs.Transitions.{AreKnown, IsKnown, FrameIndexFits, Link, read_from_next_leaf, any_encapsulation_ended, open_part, open_parts, part_as, part_in, signal_by, tree_in}
use Rattle.giop_decode.proofs.Advancing.{rooted_to}
use Rattle.giop_decode.proofs.Around.{around-append, read_none}
use Rattle.giop_decode.proofs.Beginning.{all_push, part_in_frames, places_push}
use Rattle.giop_decode.proofs.Going.{TellPopped, held_is, innermost}
use Rattle.giop_decode.proofs.Leaving.{fit_case}
use Rattle.giop_decode.proofs.Linking.{link_next, link_pop}
use Rattle.giop_decode.proofs.Rooms.{led_bare}
use Rattle.giop_decode.proofs.Surrounding.{around_unless_ended, ended_push}
use Rattle.giop_sig.specs.declared.types.TypeId.{TypeId}
use Rattle.giop_sig.specs.Fits.{IsFit}
use Rattle.giop_sig.specs.Hearings.{inference_in, inferred_of_signal}
use Rattle.giop_sig.specs.Table.{Table, part_number}
use Rattle.giop_sig.specs.Trees.{tree_at}
use Rattle.giop_sig.specs.Types.{Ends, Led, Sequel, Stops, Then, InferredType, Ty, Union, part_of, sequel}

-- an open part that is of no encapsulation
abbrev pub IsOutside : OpenPart → Type 0
IsOutside (Inside T inner end) = ⊥
IsOutside place = Unit {0}

module _ (coding : Coding) (path : List PathSegment) (ps : List OpenPart) where
  -- the part that was told comes next
  goes_then : (d : ℕ) (T : Ty) (told : InferredType) (i at : ℕ) → sequel (inference_in T) told
      ≡ Then i → IsFit d (part_of T (suc i)) →
      resume_outer coding path (ps ++ Telling T told ∷ []) (Done [] at [])
      ≡ resume_outer coding path ps (Short [] at (Member T (suc i)
      ∷ start_outer (part_of T (suc i))) (start_leaf (part_of T (suc i))))
  goes_then d T told i at e fit =
      around-append coding path ps (Telling T told) (Done [] at [])
      ∙ ap (resume_outer coding path ps) (rw (
        e,
        read_none (coding_in coding ps) (inner_path (path_in path ps) T (suc i)) d
            (part_of T (suc i)) at fit,
      ) refl)

  -- no part comes next
  goes_ended : (T : Ty) (told : InferredType) (at : ℕ) → sequel (inference_in T) told ≡ Ends →
      resume_outer coding path (ps ++ Telling T told ∷ []) (Done [] at [])
      ≡ resume_outer coding path ps (Done [] at [])
  goes_ended T told at e =
      around-append coding path ps (Telling T told) (Done [] at [])
      ∙ ap (resume_outer coding path ps) (rw e refl)

  -- octets of no type come next
  goes_untyped : (T : Ty) (told : InferredType) (at : ℕ) → sequel (inference_in T) told ≡ Stops →
      resume_outer coding path (ps ++ Telling T told ∷ []) (Done [] at [])
      ≡ resume_outer coding path ps (Fault [] at kinds.Untyped T)
  goes_untyped T told at e =
      around-append coding path ps (Telling T told) (Done [] at [])
      ∙ ap (resume_outer coding path ps) (rw e refl)

  -- they end each part around them,
  untyped_out : (place : OpenPart) (at : ℕ) (S : Ty) → IsOutside place →
      resume_outer coding path (ps ++ place ∷ []) (Fault [] at kinds.Untyped S)
      ≡ resume_outer coding path ps (Fault [] at kinds.Untyped S)
  untyped_out (Inside T inner end) at S outside = absurd outside
  untyped_out (Part T i count) at S outside =
      around-append coding path ps (Part T i count) (Fault [] at kinds.Untyped S)
  untyped_out (Member T i) at S outside =
      around-append coding path ps (Member T i) (Fault [] at kinds.Untyped S)
  untyped_out (Telling T told) at S outside =
      around-append coding path ps (Telling T told) (Fault [] at kinds.Untyped S)

  -- up to an encapsulation, in which they end the value
  untyped_held : (T : Ty) (inner : Coding) (end at : ℕ) (S : Ty) →
      resume_outer coding path (ps ++ Inside T inner end ∷ []) (Fault [] at kinds.Untyped S)
      ≡ resume_outer coding path (ps ++ Inside T inner end ∷ []) (Done [] at [])
  untyped_held T inner end at S =
      around-append coding path ps (Inside T inner end) (Fault [] at kinds.Untyped S)
      ∙ sym (around-append coding path ps (Inside T inner end) (Done [] at []))

outside_as : (told : Option Stage) (here : ℕ) (T : Ty) (i count : ℕ) →
    IsOutside (part_as told here None T i count)
outside_as (Some stage) here T i count = tt
outside_as None here (Union choice scalar select names cases) i count = tt
outside_as None here (Led h F parts) i count = tt
outside_as None here T i count = tt

-- ---- a part that comes next

-- the part begins in a frame that is of no encapsulation
pub begun_at : (C : Table) (coding : Coding) (path : List PathSegment) (at : ℕ)
    (rest new : List Frame) (g : Frame) (p : OpenPart) (P : Ty) → AreKnown C rest →
    new ≡ rest ++ g ∷ [] → g.inside ≡ None → open_part C (24 - length rest) at g ≡ p →
    done_if_untyped none_left (resume_outer coding path (open_parts C at rest)
    (Short [] at (p ∷ start_outer P) (start_leaf P))) ≡ read_at_start C at new P
begun_at C coding path at rest new g p P known is none place =
    let ended : any_encapsulation_ended new ≡ any_encapsulation_ended rest =
    rw is (ended_push rest g (rw none refl)) in
    ap (done_if_untyped none_left) (around_unless_ended C 24 coding path at rest (p ∷ start_outer P)
    (start_leaf P) known)
    ∙ (rooted_to (any_encapsulation_ended rest) [] at (open_parts C at rest ++ p ∷ start_outer P)
    (start_leaf P) ∙ rw (ended, is, places_push C 24 at rest g, place, append_assoc) refl)

-- the part begins with its first number
pub begun_gone : (C : Table) (at : ℕ) (mid new : List Frame) (T : Ty) (first : TypeId) →
    any_encapsulation_ended new ≡ any_encapsulation_ended mid → open_parts C at new
    ≡ open_parts C at mid ++ start_outer T →
    start_leaf T ≡ LeadingNumber (tree_in C new first.0) [] →
    read_at_start C at mid T ≡ read_from_next_leaf C at new (Some (innermost.Number first))
begun_gone C at mid new T first ended begun leaf = rw (ended, begun, leaf) refl

-- ---- after a part has told what comes after it

can_follow : (T : Ty) (told : InferredType) (i : ℕ) → IsLed T → sequel (inference_in T) told
    ≡ Then i → HasCase T (suc i)
can_follow (Led h F parts) told i led e = (told, e)
can_follow T told i led e = absurd led

follows_known : (T : Ty) (i : ℕ) → IsLed T → FrameIndexFits None i 0 T
follows_known (Led h F parts) i led = (tt, λ h. h, λ h. refl)
follows_known T i led = absurd led

follows_part : (T : Ty) (i : ℕ) → IsLed T → part_in T i 0 ≡ Member T i
follows_part (Led h F parts) i led = refl
follows_part T i led = absurd led

-- a frame whose first part has told what comes after it, in the room that the frames around it
-- leave
module _ (C : Table) (old rest : List Frame) (f : Frame) (stage : Stage) (start : ℕ)
    (is : old ≡ rest ++ f ∷ []) (tells : f.told ≡ Some stage)
    (P : TellPopped C start rest f stage) where
  abbrev T : Ty
  T = tree_in C rest f.of.0

  abbrev told : InferredType
  told = inferred_of_signal (signal_by stage f.index)

  room_is : (n : ℕ) → n ≡ length old → suc (24 - n) ≡ 24 - length rest
  room_is n e = omega (arith, e, P.few, ap length is, length-append rest (f ∷ []))

  -- what comes next, if the frame's room is counted from all frames
  pub told_here : (depth : ℕ) (what : Sequel) → depth ≡ length old →
      sequel (inference_in (tree_at C (suc (24 - depth)) f.of.0)) told ≡ what →
      sequel (inference_in T) told ≡ what
  told_here n what e h =
      subst (λ m. sequel (inference_in (tree_at C m f.of.0)) told ≡ what) (room_is n e) h

  parts_here : (at : ℕ) → open_parts C at old ≡ open_parts C at rest ++ Telling T told ∷ []
  parts_here at = ap (open_parts C at) is
      ∙ (places_push C 24 at rest f ∙ ap (λ x. open_parts C at rest
      ++ part_as x at f.inside T f.index f.count ∷ []) tells)

  inside_none : f.inside ≡ None
  inside_none = (P.within 24).1

  pub then_told : (place : ℕ) (new : List Frame) (g : Frame) (part : ℕ) → 0 < place →
      sequel (inference_in T) told ≡ Then (place - 1) → new ≡ rest ++ g ∷ [] →
      g ≡ record { of = f.of; index = place; count = f.count; inside = f.inside; told = None } →
      part < length C.types → part ≡ part_number C f.of.0 place →
      ((room : ℕ) → tree_at C room part ≡ part_of (tree_at C (suc room) f.of.0) place) →
      PartComesNext C old new part × AreKnown C new
  then_told zero new g part some s to it known number rooms = absurd (omega arith)
  then_told (suc i) new g part some s to it known number rooms =
      let less : suc i - 1 ≡ i = omega arith in
      let s' : sequel (inference_in T) told ≡ Then i = rw less at s in
      let led = (P.within (24 - length rest)).0 in
      let zero_count : f.count ≡ 0 = (P.within 24).2 in
      let more : length new ≡ suc (length rest) =
      omega (arith, ap length to, length-append rest (g ∷ [])) in
      let parted = part_in_frames C rest new f.of.0 part (suc i) more P.few rooms in
      let fits : IsFit P.left (part_of T (suc i)) =
      fit_case P.left T (suc i) (subst (λ n. IsFit n T) refl P.fit) (can_follow T told i led s') in
      let left : P.left ≡ 24 - length new = omega (arith, P.depth, more) in
      let none : g.inside ≡ None = rw it inside_none in
      let here : (at : ℕ) → open_part C (24 - length rest) at g ≡ Member T (suc i) =
      λ at. rw (it, inside_none, zero_count) (follows_part T (suc i) led) in (
        record {
          known = known;
          fit = rw (parted, ← left) fits;
          next = λ coding path at.
              ap (λ ps. done_if_untyped none_left (resume_outer coding path ps (Done [] at [])))
              (parts_here at)
              ∙ (ap (done_if_untyped none_left) (goes_then coding path (open_parts C at rest) P.left
              T told i at s' fits)
              ∙ (begun_at C coding path at rest new g (Member T (suc i)) (part_of T (suc i))
              P.known_rest to none (here at)
              ∙ ap (read_at_start C at new) (sym parted)));
          link = λ root inner h. link_next C root rest new f.of.0 part g (rw it refl) to
              (24 - length rest) (led_bare T led) (rw (it, inside_none) number)
              (link_pop C root old rest f inner is h);
        },
        rw to (all_push (IsKnown C) rest g P.known_rest (record {
          known = rw it P.known;
          within = λ room. rw (it, inside_none, zero_count)
              (follows_known (tree_at C room f.of.0) (suc i) (P.within room).0);
        })),
      )

  pub ends_told : (new : List Frame) → sequel (inference_in T) told ≡ Ends → new ≡ rest →
      SameComesNext C old new
  ends_told new s to = record {
    are_open = λ at h. rw to (open_rest at h);
    next = λ coding path at. rw to
        (ap (λ ps. done_if_untyped none_left (resume_outer coding path ps (Done [] at [])))
        (parts_here at)
        ∙ ap (done_if_untyped none_left) (goes_ended coding path (open_parts C at rest) T told
        at s));
    link = λ root inner h. (f.of.0, rw to (link_pop C root old rest f inner is h));
  }
    where
      open_rest : (at : ℕ) → OpenPartsFit 24 (open_parts C at old) →
          OpenPartsFit 24 (open_parts C at rest)
      open_rest at h = (innermost 24 (open_parts C at rest) (Telling T told)
          (subst (OpenPartsFit 24) (parts_here at) h)).front

  pub stops_told : (mid new : List Frame) → sequel (inference_in T) told ≡ Stops → mid ≡ rest →
      ((at : ℕ) → OpenPartsFit 24 (open_parts C at mid) → OpenPartsFit 24 (open_parts C at new)) →
      ((coding : Coding) (path : List PathSegment) (at : ℕ) (S : Ty) →
      done_if_untyped none_left (resume_outer coding path (open_parts C at mid)
      (Fault [] at kinds.Untyped S))
      ≡ done_if_untyped none_left (resume_outer coding path (open_parts C at new)
      (Done [] at []))) →
      ((root inner : ℕ) → Link C root mid inner → (now : ℕ) × Link C root new now) →
      SameComesNext C old new
  stops_told mid new s to are_open left link = record {
    are_open = λ at h. are_open at (rw to ((innermost 24 (open_parts C at rest) (Telling T told)
        (subst (OpenPartsFit 24) (parts_here at) h)).front));
    next = λ coding path at.
        ap (λ ps. done_if_untyped none_left (resume_outer coding path ps (Done [] at [])))
        (parts_here at)
        ∙ (ap (done_if_untyped none_left) (goes_untyped coding path (open_parts C at rest) T told
        at s) ∙ (ap (λ fs. done_if_untyped none_left (resume_outer coding path (open_parts C at fs)
        (Fault [] at kinds.Untyped T))) (sym to) ∙ left coding path at T));
    link = λ root inner h. link root f.of.0 (rw to (link_pop C root old rest f inner is h));
  }

-- ---- octets of no type

-- the octets end a frame that is of no encapsulation
pub untyped_past : (C : Table) (rest : List Frame) (f : Frame) (coding : Coding)
    (path : List PathSegment) (at : ℕ) (S : Ty) → f.inside ≡ None →
    resume_outer coding path (open_parts C at (rest ++ f ∷ [])) (Fault [] at kinds.Untyped S)
    ≡ resume_outer coding path (open_parts C at rest) (Fault [] at kinds.Untyped S)
untyped_past C rest f coding path at S e =
    let T = tree_in C rest f.of.0 in
    let p = part_as f.told at None T f.index f.count in
    ap (λ ps. resume_outer coding path ps (Fault [] at kinds.Untyped S))
    (places_push C 24 at rest f
    ∙ ap (λ x. open_parts C at rest ++ part_as f.told at x T f.index f.count ∷ []) e)
    ∙ untyped_out coding path (open_parts C at rest) p at S
    (outside_as f.told at T f.index f.count)

-- in the frame of an encapsulation, the rest of the encapsulation comes next
pub untyped_rest : (C : Table) (rest : List Frame) (f : Frame) (order : Order) (coding : Coding)
    (path : List PathSegment) (at : ℕ) (S : Ty) → IsKnown C f → f.inside ≡ Some order →
    resume_outer coding path (open_parts C at (rest ++ f ∷ [])) (Fault [] at kinds.Untyped S)
    ≡ resume_outer coding path (open_parts C at (rest ++ f ∷ [])) (Done [] at [])
untyped_rest C rest f order coding path at S k e =
    let T = tree_in C rest f.of.0 in
    let inner = coding_from order (at - f.index) in
    let end = at + (f.count - f.index) in
    let is : open_parts C at (rest ++ f ∷ []) ≡ open_parts C at rest ++ Inside T inner end ∷ [] =
    places_push C 24 at rest f ∙ ap (λ q. open_parts C at rest ++ q ∷ [])
    (held_is C (24 - length rest) at f order k e) in
    rw is (untyped_held coding path (open_parts C at rest) T inner end at S)

pub open_pop : (C : Table) (at : ℕ) (rest : List Frame) (f : Frame) →
    OpenPartsFit 24 (open_parts C at (rest ++ f ∷ [])) → OpenPartsFit 24 (open_parts C at rest)
open_pop C at rest f h =
    (innermost 24 (open_parts C at rest) (open_part C (24 - length rest) at f)
    (subst (OpenPartsFit 24) (places_push C 24 at rest f) h)).front
