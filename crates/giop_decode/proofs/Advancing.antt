-- A decoder before and after an octet.
use Rattle.std.proofs.Common.{◌≡◌, ℕ, ◌+◌, ◌-◌, ◌%◌, ◌<◌, Bool, true, false, List, [], ◌++◌, length, Option, Some, None, refl, sym, ◌∙◌, add_assoc, ap, append-nil, arith}
use Rattle.giop_decode.specs.declared.leaf.Transition.{Transition}
use Rattle.giop_decode.specs.declared.leaf.Transition.TheVariants as transitions
use Rattle.giop_decode.specs.declared.progress.Progress.{Progress}
use Rattle.giop_decode.specs.declared.progress.Progress.TheVariants as progress
use Rattle.giop_decode.specs.ReadResult.{Coding, IsEvenFrom, PathSegment, ValueAt, OpenPart, Read, Done, Short, Fault, lines_of, Leaf, coding_from, with_front}
use Rattle.giop_decode.specs.Reading.{type_at_cut}
use Rattle.giop_decode.specs.ReadingSteps.{resume_outer, parts_after_lines, BreaksRule}
use Rattle.giop_decode.proofs.OctetResults.{HasNoLine, around_mute, mute_enclosed, mute_lines}
use Rattle.giop_decode.proofs.Surrounding.{front_shut, surrounds}
use Rattle.std.specs.Prelude.{cond}
use Rattle.giop_decode.specs.declared.progress.ValueFault.{ValueFault}
use Rattle.giop_decode.specs.declared.progress.ValueFault.TheVariants as kinds
use Rattle.giop_decode.proofs.Resuming.{lines_front}
use Rattle.giop_decode.proofs.Enclosing.{with_front-enclosed}
use Rattle.giop_decode.specs.Begins.{start_leaf, start_outer}
use Rattle.giop_sig.specs.Types.{Ty, part_of, elements_fit}
use Rattle.giop_decode.specs.declared.decoder.Decoder.{Decoder}
use Rattle.giop_decode.specs.declared.leaf.Leaf.{Leaf as Innermost}
use Rattle.giop_decode.specs.declared.leaf.Leaf.TheVariants as innermost
use Rattle.giop_decode.specs.declared.frame.Frame.{Frame}
use Rattle.giop_decode.specs.Fits.{FitsIn, OpenPartsFit, IsSoundReading, leaf_ty}
use Rattle.giop_decode.specs.Transitions.{open_parts, any_encapsulation_ended, within_of, leaf_of, leaf_type, after_transition, tree_in, AreKnown, HaveOctetsLeft, Link, HoldsOnlyItsOwn, StandAt, TransitionFits, after_recursive_count}
use Rattle.giop_decode.specs.NameBuffer.{NameBufferFits, string_offset}
use Rattle.giop_decode.specs.Noted.{is_header_root, names_operation}
use Rattle.giop_decode.specs.SeenState.{NotesFitRoot, Fits, GoesOn, CanStandAt, read_by_fields}
use Rattle.giop_decode.specs.DecoderSteps.{transition_result, decoder_step, read_unless_ended, AgreesWithReading, IsUnrefusedProgress, IsProgress, IsNotRefused}
use Rattle.giop_decode.proofs.Around.{fit_room, around-fault, around-front}
use Rattle.giop_decode.proofs.Going.{length_places}
use Rattle.giop_decode.proofs.Leaving.{leaf_at}
use Rattle.giop_decode.proofs.Rooted.{rooted_lines, whole_step_keeps}
use Rattle.giop_decode.specs.Reading.{enclosed, none_left, done_if_untyped}
use Rattle.giop_decode.specs.Transitions.{short_unless_ended}
use Rattle.giop_decode.specs.DecoderSteps.{read_unless_ended_with}
use Rattle.giop_sig.specs.Fits.{IsFit}
use Rattle.giop_sig.specs.Table.{Table}

leaf_ty-leaf_of : (C : Table) (frames : List Frame) (leaf : Innermost) (carry piece : List ℕ) →
    leaf_ty (leaf_of C frames leaf carry piece) ≡ tree_in C frames (leaf_type leaf)
leaf_ty-leaf_of C frames (innermost.Number of) carry piece = refl
leaf_ty-leaf_of C frames _ carry piece = refl

pub record LeafFitsInFrames (C : Table) (d : Decoder) (leaf : Innermost) : Type 0 where
  pub are_open : (at : ℕ) × OpenPartsFit 24 (open_parts C at d.outer.items)
  pub fits : FitsIn (tree_in C d.outer.items (leaf_type leaf)) []
      (leaf_of C d.outer.items leaf d.carry d.piece.items)
  pub fit : IsFit (24 - length d.outer.items) (tree_in C d.outer.items (leaf_type leaf))
  pub room : length d.outer.items < 24

pub stands : (C : Table) (d : Decoder) (f : Fits C d) → LeafFitsInFrames C d f.leaf
stands C d f = search (arith, leaf_at, leaf_ty-leaf_of, length_places, fit_room)

pub same_some : (a b : Innermost) → Some a ≡ Some b → a ≡ b
same_some a b e = cc

pub stands_at : (C : Table) (d : Decoder) (f : Fits C d) (leaf : Innermost) → d.leaf ≡ Some leaf →
    LeafFitsInFrames C d leaf
stands_at C d f leaf e = search (arith, same_some, stands)

going_by : (C : Table) (d : Decoder) (named ended : Bool) (leaf : Option Innermost)
    (lines : List ValueAt) (at : ℕ) (p : Progress) (r : Read) →
    named ≡ names_operation (is_header_root d.head.root) lines → ended
    ≡ any_encapsulation_ended d.outer.items →
    d.leaf ≡ leaf → r ≡ read_unless_ended C d leaf lines at →
    IsUnrefusedProgress named ended leaf p → AgreesWithReading C d p at r
going_by C d named ended None lines at p r n k is e h = rw h (lines, (rw is e, is))
going_by C d named true (Some leaf) lines at p r n k is e h =
    rw h (lines, (type_at_cut (leaf_of C d.outer.items leaf d.carry d.piece.items), rw (← k) at e))
going_by C d true false (Some leaf) lines at p r n k is e h =
    rw h (lines, (rw is (rw (← k) at e), (leaf, is), sym n))
going_by C d false false (Some leaf) lines at p r n k is e h =
    rw h (lines, (rw is (rw (← k) at e), (leaf, is), sym n))

pub comes_by : (C : Table) (T : Ty) (d : Decoder) (named ended : Bool) (transition : Transition)
    (lines : List ValueAt) (at : ℕ) (p : Progress) (r : Read) →
    named ≡ names_operation (is_header_root d.head.root) lines → ended
    ≡ any_encapsulation_ended d.outer.items → r ≡ transition_result C T d transition lines at →
    IsProgress named ended transition d.leaf p → AgreesWithReading C d p at r
comes_by C T d named ended (transitions.Refused kind) lines at p r n k e h = rw h (lines, (T, e))
comes_by C T d named ended (transitions.More leaf) lines at p r n k e h = search (arith, going_by)
comes_by C T d named ended _ lines at p r n k e h = search (arith, going_by)

-- the decoder's value goes on: the reading has some lines, and then what the fields of the decoder
-- stand for
pub record GoesOnWithLines (C : Table) (d : Decoder) (at : ℕ) (r : Read) : Type 0 where
  pub lines : List ValueAt
  pub is : r ≡ read_by_fields C d lines at
  pub leaf : Innermost
  pub goes_on : d.leaf ≡ Some leaf

pub goes : (C : Table) (d : Decoder) (p : Progress) (at : ℕ) (r : Read) →
    AgreesWithReading C d p at r → GoesOn p → GoesOnWithLines C d at r
goes C d progress.Done at r c h = absurd h
goes C d (progress.Fault kind) at r c h = absurd h
goes C d _ at r c h = search (arith)

pub moved : (named ended : Bool) (transition : Transition) (leaf : Option Innermost)
    (p : Progress) → IsProgress named ended transition leaf p → GoesOn p → IsNotRefused transition
moved named ended (transitions.Refused kind) leaf p h g = rw h at g
moved named ended _ leaf p h g = tt

-- if the answer is that the value goes on, no encapsulation has ended
going_unended : (named ended : Bool) (leaf : Option Innermost) (p : Progress) →
    IsUnrefusedProgress named ended leaf p → GoesOn p → ended ≡ false
going_unended named ended None p h g = absurd (rw h at g)
going_unended named true (Some leaf) p h g = absurd (rw h at g)
going_unended named false (Some leaf) p h g = refl

pub unended : (named ended : Bool) (transition : Transition) (leaf : Option Innermost)
    (p : Progress) → IsProgress named ended transition leaf p → GoesOn p → ended ≡ false
unended named ended (transitions.Refused kind) leaf p h g = absurd (rw h at g)
unended named ended _ leaf p h g = search (arith, going_unended)

fits_in : (T : Ty) (end at : ℕ) (C : Table) (d : Decoder) (lines : List ValueAt) (leaf : Innermost)
    (r : Read) → IsSoundReading T end r → r ≡ read_by_fields C d lines at → d.leaf ≡ Some leaf →
    FitsIn T (open_parts C at d.outer.items)
    (leaf_of C d.outer.items leaf d.carry d.piece.items)
fits_in T end at C d lines leaf r sound is goes_on = search (arith)

-- a coding with which this decoder can be at an offset
abbrev pub own_coding : (d : Decoder) (here : ℕ) → Coding
own_coding d here = record { order = d.order; phase = λ at. d.at + (at - here) }

pub own_stands : (C : Table) (d : Decoder) (f : Fits C d) →
    CanStandAt (own_coding d f.here) d f.here
own_stands C d f =
    let small = f.at in
    record {
      order = refl;
      phase = omega (arith, small);
      even = λ k. omega arith;
      outer = f.stands;
    }

even_next : (coding : Coding) (here : ℕ) → IsEvenFrom coding here → IsEvenFrom coding (here + 1)
even_next coding here even k =
    let same : coding.phase ((here + 1) + k) % 8 ≡ (coding.phase here + (1 + k)) % 8 =
    ap (λ at. coding.phase at % 8) (add_assoc here 1 k) ∙ even (1 + k) in
    let next = even 1 in
    omega (arith, same, next)

-- if a decoder can be at an offset, the decoder after one octet can be at the next offset
pub one_further : (coding : Coding) (d new : Decoder) (here : ℕ) → new.order ≡ d.order →
    new.at ≡ (d.at + 1) % 8 → StandAt (here + 1) new.outer.items → CanStandAt coding d here →
    CanStandAt coding new (here + 1)
one_further coding d new here order at outer h =
    let phase = h.phase in
    let next = h.even 1 in
    record {
      order = order ∙ h.order;
      phase = omega (arith, at, phase, next);
      even = even_next coding here h.even;
      outer = outer;
    }

-- If a decoder fits the table, so does a decoder whose fields hold the result of its next step.
pub step_fits : (C : Table) (d new : Decoder) (f : Fits C d) (octet : ℕ) (coding : Coding)
    (g : GoesOnWithLines C new (f.here + 1) (decoder_step coding C d f.here octet)) →
    new.forbids_wide ≡ C.forbids_wide →
    CanStandAt coding new (f.here + 1) →
    HaveOctetsLeft new.outer.items →
    new.inside ≡ within_of new.outer.items → Link C f.root new.outer.items (leaf_type g.leaf) →
    AreKnown C new.outer.items → leaf_type g.leaf < length C.types →
    HoldsOnlyItsOwn g.leaf new.carry new.piece.items →
    NotesFitRoot C new.head.root new.notes →
    NameBufferFits new.head.root (string_offset (tree_in C new.outer.items (leaf_type g.leaf))
    g.leaf) new.notes.buffer new.notes.name.items → Fits C new
step_fits C d new f octet coding g forbids_wide here ahead inside link known_outer known clean
    of_root name =
    search (arith, whole_step_keeps, surrounds, stands, fits_in)

-- if a transition refuses an octet, a rule of the value is broken
abbrev pub IsAllowed : Transition → Type 0
IsAllowed (transitions.Refused kind) = BreaksRule kind
IsAllowed transition = Unit {0}

pub fits_allowed : (T : Ty) (of : ℕ) (transition : Transition) (carry piece : List ℕ) →
    TransitionFits T of transition carry piece → IsAllowed transition
fits_allowed T of (transitions.Refused kind) carry piece fits = fits
fits_allowed T of transition carry piece fits = tt

recursed_front : (T : Ty) (fits : Bool) (count : ℕ) (lines : List ValueAt) (at : ℕ) →
    after_recursive_count T fits count lines at ≡ with_front lines
    (after_recursive_count T fits count [] at)
recursed_front T true count lines at = rw append-nil refl
recursed_front T false count lines at = rw append-nil refl

-- the lines of a transition come before everything that it makes
pub transition_front : (T : Ty) (transition : Transition) (carry piece : List ℕ) (lines : List
    ValueAt)
    (at : ℕ) → after_transition T transition carry piece lines at
    ≡ with_front lines (after_transition T transition carry piece [] at)
transition_front T (transitions.More leaf) carry piece lines at = rw append-nil refl
transition_front T transitions.Ended carry piece lines at = rw append-nil refl
transition_front T (transitions.Opened count) carry piece lines at = rw append-nil refl
transition_front T (transitions.Recursed count) carry piece lines at =
    recursed_front T (elements_fit T) count lines at
transition_front T transitions.Stopped carry piece lines at = rw append-nil refl
transition_front T (transitions.Selected i) carry piece lines at = rw append-nil refl
transition_front T (transitions.Refused kind) carry piece lines at = rw append-nil refl
transition_front T (transitions.Entered order count) carry piece lines at =
    let inner = Short [] at (start_outer (part_of T 0)) (start_leaf (part_of T 0)) in
    ap (λ ls. enclosed [] T (coding_from order (at - 1)) (at + (count - 1)) none_left
    (Short ls at (start_outer (part_of T 0)) (start_leaf (part_of T 0))) [])
    (sym (append-nil lines))
    ∙ with_front-enclosed lines [] T (coding_from order (at - 1)) (at + (count - 1)) none_left inner
    []

lines_mute : (coding : Coding) (path : List PathSegment) (ps : List OpenPart) (lines : List ValueAt)
    (at : ℕ) (r : Read) → HasNoLine at r → lines_of
    (resume_outer coding path ps (with_front lines r))
    ≡ lines
lines_mute coding path ps lines at r mute =
    let inner = resume_outer coding path (parts_after_lines lines ps) r in
    ap lines_of (around-front coding path ps lines r)
    ∙ (lines_front lines inner
    ∙ (ap (λ ls. lines ++ ls) (mute_lines at inner
    (around_mute at coding path (parts_after_lines lines ps) r mute)) ∙ append-nil lines))

recursed_mute : (T : Ty) (fits : Bool) (count at : ℕ) →
    HasNoLine at (after_recursive_count T fits count [] at)
recursed_mute T true count at = (refl, refl)
recursed_mute T false count at = (refl, refl, tt)

lines_turned : (coding : Coding) (path : List PathSegment) (ps : List OpenPart)
    (T : Ty) (transition : Transition) (carry piece : List ℕ) (lines : List ValueAt) (at : ℕ) →
    IsAllowed transition →
    lines_of (resume_outer coding path ps (after_transition T transition carry piece lines at))
    ≡ lines
lines_turned coding path ps T (transitions.Refused kind) carry piece lines at rule =
    ap lines_of (around-fault coding path ps lines at kind T rule)
lines_turned coding path ps T (transitions.Entered order count) carry piece lines at rule =
    ap (λ r. lines_of (resume_outer coding path ps r))
    (transition_front T (transitions.Entered order count) carry piece lines at)
    ∙ lines_mute coding path ps lines at
    (after_transition T (transitions.Entered order count) carry piece [] at) (mute_enclosed at [] T
    (coding_from order (at - 1))
    (at + (count - 1)) (Short [] at (start_outer (part_of T 0)) (start_leaf (part_of T 0)))
    (refl, refl))
lines_turned coding path ps T (transitions.More leaf) carry piece lines at rule =
    ap (λ r. lines_of (resume_outer coding path ps r))
    (transition_front T (transitions.More leaf) carry piece lines at)
    ∙ lines_mute coding path ps lines at (after_transition T (transitions.More leaf) carry piece []
    at)
    (refl, refl)
lines_turned coding path ps T (transitions.Opened count) carry piece lines at rule =
    ap (λ r. lines_of (resume_outer coding path ps r))
    (transition_front T (transitions.Opened count) carry piece lines at)
    ∙ lines_mute coding path ps lines at (after_transition T (transitions.Opened count) carry piece
    [] at)
    (refl, refl)
lines_turned coding path ps T (transitions.Selected i) carry piece lines at rule =
    ap (λ r. lines_of (resume_outer coding path ps r))
    (transition_front T (transitions.Selected i) carry piece lines at)
    ∙ lines_mute coding path ps lines at (after_transition T (transitions.Selected i) carry piece []
    at)
    (refl, refl)
lines_turned coding path ps T (transitions.Recursed count) carry piece lines at rule =
    ap (λ r. lines_of (resume_outer coding path ps r))
    (transition_front T (transitions.Recursed count) carry piece lines at)
    ∙ lines_mute coding path ps lines at
    (after_transition T (transitions.Recursed count) carry piece [] at)
    (recursed_mute T (elements_fit T) count at)
lines_turned coding path ps T transitions.Stopped carry piece lines at rule =
    ap (λ r. lines_of (resume_outer coding path ps r))
    (transition_front T transitions.Stopped carry piece lines at)
    ∙ lines_mute coding path ps lines at (Fault [] at kinds.Untyped T) (refl, refl, tt)
lines_turned coding path ps T transitions.Ended carry piece lines at rule =
    ap (λ r. lines_of (resume_outer coding path ps r))
    (transition_front T transitions.Ended carry piece lines at)
    ∙ lines_mute coding path ps lines at (Done [] at []) (refl, refl, refl)

-- reading a whole changes a result only if it stops at octets of no type, which this one doesn't
pub rooted_to : (ended : Bool) (lines : List ValueAt) (at : ℕ) (outer : List OpenPart) (leaf :
    Leaf) →
    done_if_untyped none_left (cond ended (Fault lines at kinds.EncapShort (type_at_cut leaf))
    (Short lines at outer leaf)) ≡ cond ended (Fault lines at kinds.EncapShort (type_at_cut leaf))
    (Short lines at outer leaf)
rooted_to true lines at outer leaf = refl
rooted_to false lines at outer leaf = refl

rooted_stopped : (C : Table) (frames : List Frame) (carry piece : List ℕ) (leaf : Option Innermost)
    (lines : List ValueAt) (at : ℕ) →
    done_if_untyped none_left (read_unless_ended_with C frames carry piece leaf lines at)
    ≡ read_unless_ended_with C frames carry piece leaf lines at
rooted_stopped C frames carry piece None lines at = refl
rooted_stopped C frames carry piece (Some leaf) lines at =
    rooted_to (any_encapsulation_ended frames) lines at (open_parts C at frames)
    (leaf_of C frames leaf carry piece)

pub rooted_fault : (lines : List ValueAt) (at : ℕ) (kind : ValueFault) (T : Ty) → BreaksRule kind →
    done_if_untyped none_left (Fault lines at kind T) ≡ Fault lines at kind T
rooted_fault lines at kinds.Untyped T rule = absurd rule
rooted_fault lines at kind T rule = refl

pub rooted_gone : (C : Table) (lines : List ValueAt) (at : ℕ) (frames : List Frame) (leaf : Leaf)
    (r : Read) → r ≡ short_unless_ended C lines at frames leaf →
    done_if_untyped none_left r ≡ short_unless_ended C lines at frames leaf
rooted_gone C lines at frames leaf r e = search (arith, rooted_to)

pub rooted_result : (C : Table) (T : Ty) (d : Decoder) (transition : Transition) (lines : List
    ValueAt)
    (at : ℕ) → IsAllowed transition → done_if_untyped none_left
    (transition_result C T d transition lines at)
    ≡ transition_result C T d transition lines at
rooted_result C T d (transitions.Refused kind) lines at rule = search (arith, rooted_fault)
rooted_result C T d (transitions.More leaf) lines at rule = search (arith, rooted_stopped)
rooted_result C T d transition lines at rule = search (arith, rooted_stopped)

-- the parts around the innermost part add no lines to those of its transition
pub lines_after_transition : (C : Table) (here : ℕ) (coding : Coding) (path : List PathSegment)
    (frames : List Frame) (T : Ty) (transition : Transition) (carry piece : List ℕ)
    (lines : List ValueAt) → IsAllowed transition →
    lines_of (done_if_untyped none_left (resume_outer coding path (open_parts C here frames)
    (after_transition T transition carry piece lines (here + 1)))) ≡ lines
lines_after_transition C here coding path frames T transition carry piece lines rule =
    search (arith, rooted_lines, lines_turned)

-- ---- lines in front of a whole

pub rooted_front : (lines : List ValueAt) (r : Read) →
    done_if_untyped none_left (with_front lines r) ≡ with_front lines (done_if_untyped none_left r)
rooted_front lines (Fault ls at kinds.Untyped S) = refl
rooted_front lines (Fault ls at kind S) = refl
rooted_front lines (Done ls at rest) = refl
rooted_front lines (Short ls at outer leaf) = refl

front_stopped : (C : Table) (frames : List Frame) (carry piece : List ℕ) (leaf : Option Innermost)
    (lines : List ValueAt) (at : ℕ) → with_front lines
    (read_unless_ended_with C frames carry piece leaf []
    at)
    ≡ read_unless_ended_with C frames carry piece leaf lines at
front_stopped C frames carry piece None lines at = rw append-nil refl
front_stopped C frames carry piece (Some leaf) lines at =
    front_shut (any_encapsulation_ended frames) lines at (open_parts C at frames)
    (leaf_of C frames leaf carry piece)

pub front_result : (C : Table) (T : Ty) (d : Decoder) (transition : Transition) (lines : List
    ValueAt)
    (at : ℕ) → with_front lines (transition_result C T d transition [] at)
    ≡ transition_result C T d transition lines at
front_result C T d (transitions.Refused kind) lines at = rw append-nil refl
front_result C T d (transitions.More leaf) lines at = search (arith, front_stopped)
front_result C T d transition lines at = search (arith, front_stopped)
