-- The frames around a part, after they have heard the part's line.
use Rattle.std.proofs.Common.{◌≡◌, ℕ, zero, suc, pred, ◌<◌, ◌≤◌, Bool, true, false, List, [], ◌∷◌, ◌++◌, length, get_or, Option, Some, None, refl, sym, ◌∙◌, ap, subst, arith}
use Rattle.std.specs.Prelude.{IfSome, ◌||◌}
use Rattle.giop_cdr.specs.declared.order.Order.{Order}
use Rattle.giop_decode.specs.declared.frame.Frame.{Frame}
use Rattle.giop_decode.specs.declared.frame.Stage.{Stage}
use Rattle.giop_decode.specs.declared.frame.Within.TheVariants as withins
use Rattle.giop_decode.specs.declared.leaf.Output.{Output}
use Rattle.giop_decode.specs.Fits.{OpenPartFits, OpenPartsFit}
use Rattle.giop_decode.specs.Heard.{FramesHear, IsSignOf}
use Rattle.giop_decode.specs.ReadResult.{ValueAt, OpenPart, PathSegment, Telling}
use Rattle.giop_decode.specs.Reading.{sign_of}
use Rattle.giop_decode.specs.ReadingSteps.{part_after_lines, parts_after_lines, path_in, segment_in}
use Rattle.giop_decode.specs.Transitions.{AreKnown, IsOutput, FrameIndexFitsAs, LinkIn, StandAt, frames_after_sign, within_of, is_some_order, is_some_stage, any_is_encapsulation, any_tells, number_after_sign, number_of, open_part, open_parts, part_as, part_index, parts_in_room, signal_by, stage_after_sign, stage_of, frames_after_octet, frames_after_octets, tree_in, within_by}
use Rattle.giop_decode.proofs.Surrounding.{AreFirstMapped, free_after_octet, get_at, heard_in_open, unheard, untelling}
use Rattle.giop_decode.proofs.Counting.{free_after_octets}
use Rattle.giop_decode.proofs.Rooms.{in_frames}
use Rattle.giop_sig.proofs.HearingLaws.{told_after_sign}
use Rattle.giop_sig.specs.declared.types.Sign.{Sign}
use Rattle.giop_sig.specs.declared.types.Signal.{Signal}
use Rattle.giop_sig.specs.declared.types.Signal.TheVariants as signals
use Rattle.giop_sig.specs.Hearings.{inference_in as hearing_of, sign_view, signal_after}
use Rattle.giop_sig.specs.Table.{Table}
use Rattle.giop_sig.specs.Trees.{part_number_in, tree_at}
use Rattle.giop_sig.specs.Types.{Ty}

-- a signal is what its stage and its number spell
again : (s : Signal) → signal_by (stage_of s) (number_of s) ≡ s
again (signals.Awaits n) = refl
again (signals.Offers n) = refl
again (signals.Is n) = refl
again signals.Untold = refl
again signals.Empty = refl
again signals.Unknown = refl

-- ---- the frames after a sign

module _ (C : Table) (sign : Sign) where
  part_heard : (l : ValueAt) (of room here : ℕ) (told : Option Stage) (inside : Option Order)
      (i count : ℕ) → sign_of l.value ≡ Some (sign_view sign) →
      part_as (stage_after_sign C sign of told i) here inside (tree_at C room of)
      (number_after_sign C sign of told i) count
      ≡ part_after_lines (l ∷ []) (part_as told here inside (tree_at C room of) i count)
  part_heard l of room here None inside i count e =
      sym (heard_in_open (l ∷ []) here inside (tree_at C room of) i count)
  part_heard l of room here (Some stage) inside i count e =
      let T = tree_at C room of in
      rw (e, again (signal_after C of (signal_by stage i) sign))
      (ap (Telling T) (told_after_sign C room of (signal_by stage i) sign))

  pub parts_heard : (l : ValueAt) (room here : ℕ) (frames : List Frame) →
      sign_of l.value ≡ Some (sign_view sign) →
      parts_in_room C room here (frames_after_sign C sign frames)
      ≡ parts_after_lines (l ∷ []) (parts_in_room C room here frames)
  parts_heard l room here [] e = refl
  parts_heard l room here (f ∷ frames) e =
      ap (λ p. p ∷ parts_in_room C (pred room) here (frames_after_sign C sign frames))
      (part_heard l f.of.0 room here f.told f.inside f.index f.count e)
      ∙ ap (λ ps. part_after_lines (l ∷ []) (open_part C room here f) ∷ ps)
      (parts_heard l (pred room) here frames e)

  within_heard : (of : ℕ) (told : Option Stage) (inside : Option Order) (i count : ℕ) (T : Ty) →
      FrameIndexFitsAs told inside i count T →
      FrameIndexFitsAs (stage_after_sign C sign of told i) inside
      (number_after_sign C sign of told i) count T
  within_heard of None inside i count T k = k
  within_heard of (Some stage) inside i count T k = k

  known_heard : (frames : List Frame) → AreKnown C frames →
      AreKnown C (frames_after_sign C sign frames)
  known_heard [] k = tt
  known_heard (f ∷ frames) k = (
    record {
      known = k.0.known;
      within = λ room. within_heard f.of.0 f.told f.inside f.index f.count (tree_at C room f.of.0)
          (k.0.within room);
    },
    known_heard frames k.1,
  )

  open_one : (of d here : ℕ) (told : Option Stage) (inside : Option Order) (i count : ℕ) (T : Ty) →
      OpenPartFits d (part_as told here inside T i count) →
      OpenPartFits d (part_as (stage_after_sign C sign of told i) here inside T
      (number_after_sign C sign of told i) count)
  open_one of d here None inside i count T h = h
  open_one of d here (Some stage) inside i count T h = h

  open_heard : (d room here : ℕ) (frames : List Frame) →
      OpenPartsFit d (parts_in_room C room here frames) →
      OpenPartsFit d (parts_in_room C room here (frames_after_sign C sign frames))
  open_heard d room here [] h = h
  open_heard zero room here (f ∷ frames) h = absurd h
  open_heard (suc d) room here (f ∷ frames) h = (
    open_one f.of.0 (suc d) here f.told f.inside f.index f.count (tree_at C room f.of.0) h.0,
    open_heard d (pred room) here frames h.1,
  )

  length_heard : (frames : List Frame) → length (frames_after_sign C sign frames) ≡ length frames
  length_heard [] = refl
  length_heard (f ∷ frames) = ap suc (length_heard frames)

  some_heard : (of : ℕ) (told : Option Stage) (i : ℕ) →
      is_some_stage (stage_after_sign C sign of told i) ≡ is_some_stage told
  some_heard of None i = refl
  some_heard of (Some stage) i = refl

  tells_heard : (frames : List Frame) → any_tells (frames_after_sign C sign frames)
      ≡ any_tells frames
  tells_heard [] = refl
  tells_heard (f ∷ frames) =
      ap (λ b. b || any_tells (frames_after_sign C sign frames)) (some_heard f.of.0 f.told f.index)
      ∙ ap (λ b. is_some_stage f.told || b) (tells_heard frames)

  holds_heard : (frames : List Frame) → any_is_encapsulation (frames_after_sign C sign frames)
      ≡ any_is_encapsulation frames
  holds_heard [] = refl
  holds_heard (f ∷ frames) = ap (λ b. is_some_order f.inside || b) (holds_heard frames)

  stands_heard : (at of : ℕ) (told : Option Stage) (inside : Option Order) (i count : ℕ) (T : Ty) →
      FrameIndexFitsAs told inside i count T → IfSome inside (λ order. i ≤ at) →
      IfSome inside (λ order. number_after_sign C sign of told i ≤ at)
  stands_heard at of None inside i count T k h = h
  stands_heard at of (Some stage) inside i count T k h = rw k.1 tt

  stand_heard : (at : ℕ) (frames : List Frame) → AreKnown C frames → StandAt at frames →
      StandAt at (frames_after_sign C sign frames)
  stand_heard at [] k h = tt
  stand_heard at (f ∷ frames) k h = (
    stands_heard at f.of.0 f.told f.inside f.index f.count (tree_at C 24 f.of.0) (k.0.within 24)
        h.0,
    stand_heard at frames k.1 h.1,
  )

  index_heard : (of : ℕ) (told : Option Stage) (inside : Option Order) (i : ℕ) →
      part_index (stage_after_sign C sign of told i) inside (number_after_sign C sign of told i)
      ≡ part_index told inside i
  index_heard of None inside i = refl
  index_heard of (Some stage) inside i = refl

  link_heard : (room root inner : ℕ) (frames : List Frame) → LinkIn C room root frames inner →
      LinkIn C room root (frames_after_sign C sign frames) inner
  link_heard room root inner [] h = h
  link_heard room root inner (f ∷ frames) h = (
    h.0,
    rw (index_heard f.of.0 f.told f.inside f.index)
        (link_heard (pred room)
        (part_number_in C (pred room) root (part_index f.told f.inside f.index)) inner frames h.1),
  )

-- the type of the frame that hears is a type of the table
known_get : (C : Table) (frames : List Frame) (i : ℕ) (d : Frame) → AreKnown C frames →
    i < length frames → (get_or frames i d).of.0 < length C.types
known_get C [] i d k below = absurd (omega arith)
known_get C (f ∷ frames) zero d k below = k.0.known
known_get C (f ∷ frames) (suc i) d k below = known_get C frames i d k.1 (omega arith)

pub known_counted : (C : Table) (tick : Frame → Frame) (i : ℕ) (now old : List Frame) (d : Frame) →
    AreFirstMapped tick i now old → AreKnown C old → i < length now →
    (get_or now i d).of.0 < length C.types
known_counted C tick i now old d h k below =
    let lt : i < length old = omega (arith, h.same) in
    rw (get_at i now old d h.back) (known_get C old i d k lt)

-- ---- after the line of an output

module _ (C : Table) (frames : List Frame) (of : ℕ) (output : Output) (piece : List ℕ)
    (known : AreKnown C frames) where
  -- nothing changes if no line changes what an open part was told
  pub heard_same : ((here at : ℕ) (path : List PathSegment) (lines : List ValueAt) →
      IsOutput (tree_in C frames of) path at output piece lines →
      parts_after_lines lines (open_parts C here frames) ≡ open_parts C here frames) →
      FramesHear C frames frames of output piece
  heard_same same = record {
    parts = λ here at path lines says. sym (same here at path lines says);
    known = known;
    are_open = λ at h. h;
    same = refl;
    inside = refl;
    stand = λ at h. h;
    link = λ root inner h. h;
  }

  -- so it is if no frame tells what comes after it,
  pub heard_untold : any_tells frames ≡ false → FramesHear C frames frames of output piece
  heard_untold quiet = heard_same (λ here at path lines says. unheard C 24 here lines frames quiet)

  -- or if the output is no sign
  pub heard_nothing : ((at : ℕ) (path : List PathSegment) (lines : List ValueAt) →
      IsOutput (tree_in C frames of) path at output piece lines → IsSignOf None lines) →
      FramesHear C frames frames of output piece
  heard_nothing says = heard_same (λ here at path lines is.
      unsaid lines (open_parts C here frames) (says at path lines is))
    where
      unsaid : (lines : List ValueAt) (ps : List OpenPart) → IsSignOf None lines →
          parts_after_lines lines ps ≡ ps
      unsaid lines [] is = refl
      unsaid lines (Telling T told ∷ ps) is =
          ap (λ t. Telling T t ∷ parts_after_lines lines ps) (is (hearing_of T) told)
          ∙ ap (λ qs. Telling T told ∷ qs) (unsaid lines ps is)
      unsaid lines (p ∷ ps) is = ap (λ qs. p ∷ qs) (unsaid lines ps is)

  pub heard_sign : (sign : Sign) → ((at : ℕ) (path : List PathSegment) (lines : List ValueAt) →
      IsOutput (tree_in C frames of) path at output piece lines → IsSignOf (Some sign) lines) →
      FramesHear C frames (frames_after_sign C sign frames) of output piece
  heard_sign sign says = record {
    parts = λ here at path lines is.
        let s = says at path lines is in
        parts_heard C sign s.0 24 here frames s.2
        ∙ ap (λ ls. parts_after_lines ls (open_parts C here frames)) (sym s.1);
    known = known_heard C sign frames known;
    are_open = λ at h. open_heard C sign 24 24 at frames h;
    same = length_heard C sign frames;
    inside = rw (tells_heard C sign frames, holds_heard C sign frames) refl;
    stand = λ at h. stand_heard C sign at frames known h;
    link = λ root inner h. link_heard C sign 24 root inner frames h;
  }

-- what lines say in each room, they say inside these frames
pub says_here : (C : Table) (frames : List Frame) (of : ℕ) (output : Output) (piece : List ℕ)
    (sign : Option Sign) → length frames < 24 →
    ((room at : ℕ) (path : List PathSegment) (lines : List ValueAt) →
    IsOutput (tree_at C (suc room) of) path at output piece lines → IsSignOf sign lines) →
    (at : ℕ) (path : List PathSegment) (lines : List ValueAt) →
    IsOutput (tree_in C frames of) path at output piece lines → IsSignOf sign lines
says_here C frames of output piece sign few says at path lines =
    in_frames (λ n. IsOutput (tree_at C n of) path at output piece lines → IsSignOf sign lines)
    frames few (λ room. says room at path lines)

tells_counted : (n : ℕ) (frames : List Frame) → any_tells (frames_after_octets n frames)
    ≡ any_tells frames
tells_counted n [] = refl
tells_counted n (f ∷ frames) = ap (λ b. is_some_stage f.told || b) (tells_counted n frames)

-- if the frames ask nothing of an octet, or only that it is counted, they hear nothing
pub heard_nowhere : (C : Table) (n : ℕ) (frames : List Frame) (of : ℕ) (output : Output)
    (piece : List ℕ) → within_of frames ≡ withins.Nothing →
    AreKnown C (frames_after_octets n frames) →
    FramesHear C (frames_after_octets n frames) frames of output piece
heard_nowhere C n frames of output piece free known =
    subst (λ fs. FramesHear C (frames_after_octets n frames) fs of output piece)
    (sym (free_after_octets n frames free))
    (heard_untold C (frames_after_octets n frames) of output piece known
    (tells_counted n frames ∙ untelling frames free))

counts_by : (a b : Bool) → within_by a b ≡ withins.Encapsulation → a ≡ false
counts_by true b h = absurd cc
counts_by false b h = refl

pub heard_counted : (C : Table) (n : ℕ) (frames : List Frame) (of : ℕ) (output : Output)
    (piece : List ℕ) → within_of frames ≡ withins.Encapsulation →
    AreKnown C (frames_after_octets n frames) →
    FramesHear C (frames_after_octets n frames) (frames_after_octets n frames) of output piece
heard_counted C n frames of output piece held known =
    heard_untold C (frames_after_octets n frames) of output piece known
    (tells_counted n frames ∙ counts_by (any_tells frames) (any_is_encapsulation frames) held)

-- if the frames ask nothing of an octet, they are the same after it
pub heard_free : (C : Table) (frames : List Frame) (of : ℕ) (output : Output) (piece : List ℕ) →
    within_of frames ≡ withins.Nothing → AreKnown C frames →
    FramesHear C (frames_after_octet frames) frames of output piece
heard_free C frames of output piece free known =
    subst (λ fs. FramesHear C fs frames of output piece) (free_after_octet frames free)
    (heard_untold C frames of output piece known (untelling frames free))

-- hearing doesn't change the path
segment_heard : (lines : List ValueAt) (p : OpenPart) → segment_in (part_after_lines lines p)
    ≡ segment_in p
segment_heard lines (Telling T told) = refl
segment_heard lines p = refl

pub path_heard : (lines : List ValueAt) (path : List PathSegment) (ps : List OpenPart) →
    path_in path (parts_after_lines lines ps) ≡ path_in path ps
path_heard lines path [] = refl
path_heard lines path (p ∷ ps) =
    ap (λ s. path_in (path ++ s ∷ []) (parts_after_lines lines ps)) (segment_heard lines p)
    ∙ path_heard lines (path ++ segment_in p ∷ []) ps
