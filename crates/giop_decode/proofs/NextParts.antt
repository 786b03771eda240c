-- Numbers that are parts of one part, with another number after each: what taking one of them does.
use Rattle.std.proofs.Common.{Bool, ◌≡◌, Result, Ok, IsErr, ℕ, suc, ◌+◌, ◌-◌, ◌%◌, ◌<◌, false, List, [], ◌∷◌, ◌++◌, length, take, get_or, Option, Some, None, refl, sym, ◌∙◌, ap, subst, arith, add-one, append-nil, append_assoc, length-append, codes, decimal}
use Rattle.std.proofs.Math.Seq.{take-append_seam}
use Rattle.std.proofs.lemmas.List.{take_all, take_more}
use Rattle.giop_cdr.specs.Numbers.{interpreted_as}
use Rattle.giop_cdr.specs.Primitives.{size_of}
use Rattle.giop_cdr.specs.declared.number.Number.{Number as Taken}
use Rattle.giop_decode.specs.declared.frame.Within.TheVariants as withins
use Rattle.giop_decode.specs.Begins.{start_outer, start_leaf}
use Rattle.giop_decode.specs.Segments.{frame_text, frames_text}
use Rattle.giop_decode.specs.Spelling.{lines_text, path_text, value_text}
use Rattle.giop_print.specs.Line.{headed}
use Rattle.giop_print.specs.Lines.{kind_line, kind_word, number_text, spaced}
use Rattle.giop_sig.specs.Types.{HasIndex, IsUnion, Plain, Scalar, Single, Ty, interpreted_by, part_of, shape_in}
use Rattle.giop_cdr.specs.declared.prim.Primitive.{Primitive}
use Rattle.giop_cdr.specs.declared.prim.Primitive.TheVariants as prims
use Rattle.giop_decode.specs.declared.decoder.Decoder.{Decoder}
use Rattle.giop_decode.specs.declared.frame.Frame.{Frame}
use Rattle.giop_decode.specs.declared.leaf.Leaf.{Leaf as Innermost}
use Rattle.giop_decode.specs.declared.leaf.Leaf.TheVariants as innermost
use Rattle.giop_decode.specs.declared.leaf.Step.{Step}
use Rattle.giop_decode.specs.declared.leaf.Transition.TheVariants as transitions
use Rattle.giop_decode.specs.declared.leaf.Output.TheVariants as outputs
use Rattle.giop_decode.specs.declared.notes.Notes.{Notes}
use Rattle.giop_decode.specs.declared.parts.PartAhead.{PartAhead}
use Rattle.giop_decode.specs.declared.progress.Progress.{Progress}
use Rattle.giop_decode.specs.declared.progress.Progress.TheVariants as progress
use Rattle.giop_decode.specs.SeenState.{NotesFitRoot, Fits, HoldsNoted}
use Rattle.giop_decode.specs.DecoderSteps.{root_after_transition, transition_result}
use Rattle.giop_decode.specs.Noted.{Noted, first_present, note_lines, is_header_root}
use Rattle.giop_decode.specs.NextParts.{IsAtNextPart, IsNextPrimitive, IsPartAhead, frames_above, front_text, frame_at_next}
use Rattle.giop_decode.specs.ReadResult.{Coding, PathSegment, ValueAt, Number, LeadingNumber, Short, line, with_front, Done}
use Rattle.giop_decode.specs.ReadingSteps.{resume_outer, path_in}
use Rattle.giop_decode.specs.Passes.{HasCountedOctet, AreStepLines, NotesAndAdvances}
use Rattle.giop_decode.specs.Runs.{TakenTogether, TakesSome}
use Rattle.giop_decode.specs.Transitions.{AreKnown, HaveOctetsLeft, HoldsOnlyItsOwn, IsKnown, IsWholeNumber, Link, StandAt, read_from_next_leaf, within_of, leaf_type, open_parts, part_in, tree_in}
use Rattle.giop_decode.specs.Reading.{none_left, done_if_untyped}
use Rattle.giop_decode.proofs.Advancing.{rooted_result, comes_by, one_further, same_some, stands_at}
use Rattle.giop_decode.proofs.Beginning.{all_push, places_push}
use Rattle.giop_decode.proofs.Counting.{ahead_free, free_after_octets}
use Rattle.giop_decode.proofs.Going.{PartPopped, HasPartAfter, part_popped, next_in, goes_next, part_is}
use Rattle.giop_decode.proofs.HeardFrames.{heard_free}
use Rattle.giop_decode.proofs.Surrounding.{unheard, ahead_by, around_unless_ended, behind_stopped, free_coding_by, free_ended, free_first, free_after_octet, front_gone, push_more, untelling, outside_pop, places_after_octet}
use Rattle.giop_decode.proofs.TransitionsInFrames.{around_done}
use Rattle.giop_decode.proofs.FieldsRead.{headed_is, path_spelled}
use Rattle.giop_decode.proofs.Linking.{link_next, link_pop}
use Rattle.giop_decode.proofs.Noting.{stopped_silent}
use Rattle.giop_decode.proofs.Passing.{last_says, passed_broken, passed_some}
use Rattle.giop_decode.proofs.Segments.{said_one}
use Rattle.giop_decode.proofs.FirstTaken.{NextLinesSatisfy}
use Rattle.giop_decode.proofs.Whole.{IsAtLast, at_last, behind_last, comes_number, is_at_last, no_piece}
use Rattle.giop_decode.specs.NameBuffer.{string_offset}
use Rattle.giop_decode.specs.NotingSteps.{transition_offset}
use Rattle.giop_decode.specs.Noted.{ends_in_string}
use Rattle.giop_print.specs.Output.{OutLog, Wrote, WroteFront}
use Rattle.giop_print.specs.Paths.{root_word}
use Rattle.giop_sig.specs.Table.{Table}
use Rattle.giop_decode.proofs.Rooms.{counted_bare, place_in_room}
use Rattle.giop_sig.specs.Trees.{tree, tree_at}
use Rattle.giop_sig.specs.declared.types.TypeId.{TypeId}

first_none : (o : Option ℕ) → first_present o None ≡ o
first_none None = refl
first_none (Some n) = refl

-- outside a header nothing is noted of a primitive
plain_noted : (C : Table) (asked : Bool) (m : Notes) (h : Noted) (p : Primitive) (n at : ℕ)
    (path : List PathSegment) → HoldsNoted C asked m h →
    HoldsNoted C asked m (note_lines false h (line at path (Number (Plain p) n) ∷ []))
plain_noted C asked m h prims.ULong n at path r = search (arith, first_none)
plain_noted C asked m h p n at path r = search (arith)

-- the frames around the innermost frame are all but the last frame
above_push : (frames : List Frame) (f : Frame) → frames_above (frames ++ f ∷ []) ≡ frames
above_push frames f =
    let all : length (frames ++ f ∷ []) - 1 ≡ length frames =
    omega (arith, length-append frames (f ∷ [])) in
    ap (λ n. take n (frames ++ f ∷ [])) all ∙ take-append_seam frames (f ∷ [])

pub last_frame : (frames : List Frame) (i : ℕ) (x : Frame) → i + 1 ≡ length frames →
    frames ≡ frames_above frames ++ get_or frames i x ∷ []
last_frame frames i x e = search (arith, take_all, take_more, take, get_or)

pub front_kept : (C : Table) (d new : Decoder) (part : PartAhead) (next : TypeId) →
    IsAtNextPart C d new part next → front_text C new ≡ front_text C d
front_kept C d new part next n = search (arith, above_push)

last_free : (frames : List Frame) (f : Frame) → within_of (frames ++ f ∷ []) ≡ withins.Nothing →
    (f.inside ≡ None) × (f.told ≡ None)
last_free [] f h = let n = free_first f [] h in (n.0, n.1)
last_free (g ∷ frames) f h = last_free frames f
    (free_first g (frames ++ f ∷ []) h).2

push_free : (frames : List Frame) (f : Frame) → within_of frames ≡ withins.Nothing → f.inside ≡ None
    →
    f.told ≡ None → within_of (frames ++ f ∷ []) ≡ withins.Nothing
push_free frames f h none quiet = push_more frames f none ∙ rw (quiet, h) refl

pub stand_free : (at : ℕ) (frames : List Frame) → within_of frames ≡ withins.Nothing → StandAt at
    frames
stand_free at [] h = tt
stand_free at (f ∷ frames) h =
    let n = free_first f frames h in
    (rw n.0 tt, stand_free at frames n.2)

pub places_free : (C : Table) (here : ℕ) (frames : List Frame) → within_of frames ≡ withins.Nothing
    →
    HaveOctetsLeft frames → AreKnown C frames →
    open_parts C here frames ≡ open_parts C (here + 1) frames
places_free C here frames h ahead known =
    sym (places_after_octet C 24 here frames ahead known)
    ∙ ap (open_parts C (here + 1)) (sym (free_after_octet frames h))

frames_text-push : (C : Table) (frames : List Frame) (f : Frame) →
    frames_text C (frames ++ f ∷ []) ≡ frames_text C frames ++ frame_text C f
frames_text-push C [] f = search (arith, append-nil)
frames_text-push C (g ∷ frames) f = search (arith, append_assoc, frames_text-push C frames f)

same_plain : (T : Ty) (p : Primitive) (scalar : Scalar) → T ≡ Single (Plain p) → T ≡ Single scalar →
    scalar ≡ Plain p
same_plain T p scalar e k = cc

-- the line of a primitive's number
number_text_is : (message : ℕ) (place : List ℕ) (p : Primitive) (n : ℕ) (number : Taken) →
    interpreted_as p n ≡ Some number →
    value_text message place (Number (Plain p) n)
    ≡ kind_line message place (spaced (kind_word p)) (number_text (size_of p) number)
unfolding kind_line
number_text_is message place p n number e = rw e refl

-- the text of a line after what the line begins with
pub line_is : (message : ℕ) (place segment kind text : List ℕ) →
    headed message place [] ++ (segment ++ (kind ++ (text ++ codes "\n")))
    ≡ kind_line message (place ++ segment) kind text
unfolding kind_line
line_is message place segment kind text = search (arith, codes, headed_is, decimal, append_assoc)

-- the innermost frame, if no frame is of an encapsulation
module _ (C : Table) (d : Decoder) (of : TypeId) (frame : Frame) (f : Fits C d)
    (leaf : d.leaf ≡ Some (innermost.Number of))
    (outside : d.inside ≡ withins.Nothing) (outer : d.outer.items ≡ frames_above d.outer.items ++
    frame ∷ [])
  where
    free_outer : within_of d.outer.items ≡ withins.Nothing
    free_outer = sym f.inside ∙ outside

    free_above : within_of (frames_above d.outer.items) ≡ withins.Nothing
    free_above = search (arith, outside_pop, free_outer)

    free_frame : (frame.inside ≡ None) × (frame.told ≡ None)
    free_frame = search (arith, last_free, free_outer)

    abbrev popped_frame : PartPopped C (stands_at C d f (innermost.Number of) leaf).are_open.0
        (frames_above d.outer.items) frame
    popped_frame =
        let s = stands_at C d f (innermost.Number of) leaf in
        part_popped C s.are_open.0 d.outer.items (frames_above d.outer.items) frame f.known_outer
        s.are_open.1 outer free_frame.0 free_frame.1

    follows : frame.index + 1 < frame.count →
        HasPartAfter (suc popped_frame.left) (tree_in C (frames_above d.outer.items) frame.of.0)
        frame.index frame.count
    follows below =
        let above = frames_above d.outer.items in
        next_in (suc popped_frame.left) (tree_in C above frame.of.0) frame.index frame.count
        popped_frame.«open» (popped_frame.within (24 - length above)).2 (rw add-one at below)

    pub place_next : (room : ℕ) → frame.index + 1 < frame.count →
        HasIndex (shape_in (tree_at C room frame.of.0)) (frame.index + 1)
    place_next room below =
        place_in_room C (24 - length (frames_above d.outer.items)) room frame.of.0 (frame.index + 1)
        (rw add-one (follows below).placed)

    -- a type with one more part is no union
    pub bare_next : frame.index + 1 < frame.count → IsUnion (shape_in (tree C frame.of.0)) → ⊥
    bare_next below = counted_bare (tree C frame.of.0) frame.index frame.count
        (popped_frame.within 24) (omega (arith, below))

module _ (C : Table) (d : Decoder) (part : PartAhead) (f : Fits C d)
    (h : IsPartAhead C d part) where
  abbrev octets : List ℕ
  octets = part.octets.now

  abbrev ended : Step
  ended = record { transition = transitions.Ended; output = outputs.Number part.number }

  abbrev above : List Frame
  above = frames_above d.outer.items

  free : within_of d.outer.items ≡ withins.Nothing
  free = search (arith)

  whole_here : IsWholeNumber (tree_in C d.outer.items part.of.0) d.order d.at octets part.count
      part.number
  whole_here = h.whole (24 - length d.outer.items)

  pub taken_together : TakenTogether C d octets part.of part.count ended [] d.carry d.piece.items
  taken_together = search (arith, comes_number, free_coding_by, free, ahead_free, whole_here)

  -- the decoder at the last octet of the number; no octet was counted, as there is no encapsulation
  pub part_at_last : (at : ℕ) → at ≡ (d.at + (part.count - 1)) % 8 →
      IsAtLast d (at_last d at d.outer) part.count
  part_at_last at e = search (arith, is_at_last, free_after_octets, free)

  -- how many octets come before the number's last one, and the decoder at that last one
  abbrev last : ℕ
  last = part.count - 1

  abbrev pub there : Decoder
  there = at_last d ((d.at + last) % 8) d.outer

  on : IsAtLast d there part.count
  on = search (arith, part_at_last)

  -- the decoder after all octets of the number
  pub part_behind : (at : ℕ) → at ≡ (d.at + part.count) % 8 →
      HasCountedOctet C there (at_last d at d.outer) part.of.0 ended []
  part_behind at e =
      behind_last C d octets part.of part.count ended [] f there taken_together on
      (at_last d at d.outer) refl refl refl (omega (arith, e, taken_together.some))
      (heard_free C d.outer.items part.of.0 (outputs.Number part.number) (d.piece.items ++ []) free
      f.known_outer) refl refl refl refl

  -- the path of the number, and its line
  abbrev place : List ℕ
  place = (root_word d.head.root ++ frames_text C above)
      ++ frame_text C part.frame

  abbrev text : List ℕ
  text = kind_line d.head.message place (spaced (kind_word part.prim))
      (number_text (size_of part.prim) part.number)

  pub part_says : (Says : List ℕ → Type 0) → Says text → NextLinesSatisfy C d octets last Says
  part_says Says w =
      last_says C d octets part.of part.count ended [] f there taken_together on Says
      (λ here at lines says.
      let is = same_plain (tree_in C d.outer.items part.of.0) part.prim says.0.scalar
      (h.prim (24 - length d.outer.items)) says.0.is in
      let path = path_in [] (open_parts C here d.outer.items) in
      let placed : place ≡ path_text d.head.root path = path_is here in
      let taken : interpreted_as part.prim says.0.n ≡ Some part.number = rw is at says.0.taken in
      let value : value_text d.head.message place (Number (Plain part.prim) says.0.n)
      ≡ lines_text d.head.message d.head.root lines =
      said_one d.head.message d.head.root at path place (Number (Plain part.prim) says.0.n) lines
      placed
      (rw is at says.1) in
      let same = sym (number_text_is d.head.message place part.prim says.0.n part.number taken)
      ∙ value in
      subst Says same w)
    where
      path_is : (here : ℕ) →
          place ≡ path_text d.head.root (path_in [] (open_parts C here d.outer.items))
      path_is here = search (arith, append_assoc, frames_text-push, path_spelled)

  above_free : within_of above ≡ withins.Nothing
  above_free = free_above C d part.of part.frame f h.leaf h.outside h.outer

  none : part.frame.inside ≡ None
  none = (free_frame C d part.of part.frame f h.leaf h.outside h.outer).0

  quiet : part.frame.told ≡ None
  quiet = (free_frame C d part.of part.frame f h.leaf h.outside h.outer).1

  abbrev popped_part : PartPopped C (stands_at C d f (innermost.Number part.of) h.leaf).are_open.0
      above part.frame
  popped_part = popped_frame C d part.of part.frame f h.leaf h.outside h.outer

  module _ (new : Decoder) (next : TypeId) (follower : IsNextPrimitive C part.frame next)
      (n : IsAtNextPart C d new part next)
      (body : is_header_root d.head.root ≡ false) where
    new_free : within_of new.outer.items ≡ withins.Nothing
    new_free = search (arith, push_free, above_free, none, quiet)

    known_new : AreKnown C new.outer.items
    known_new = rw n.outer (all_push (IsKnown C) above (frame_at_next part.frame)
        popped_part.known_rest
        (record {
          known = popped_part.known;
          within = λ room. rw (none, quiet) (
            place_next C d part.of part.frame f h.leaf h.outside h.outer room follower.below,
            (popped_part.within room).1,
            (popped_part.within room).2,
          );
        }))

    gone : (coding : Coding) (path : List PathSegment) (at : ℕ) →
        resume_outer coding path (open_parts C at d.outer.items) (Done [] at [])
        ≡ read_from_next_leaf C at new.outer.items (Some (innermost.Number next))
    gone coding path at =
        let T = tree_in C above part.frame.of.0 in
        let i = part.frame.index in
        let count = part.frame.count in
        let then = part_in T (suc i) count in
        let P = part_of T (suc i) in
        let is : P ≡ Single (Plain follower.prim) =
        subst (λ n. part_of (tree_at C n part.frame.of.0) (suc i) ≡ Single (Plain follower.prim))
        (sym popped_part.depth)
        (sym (rw add-one at (follower.is_part popped_part.left)) ∙ follower.is popped_part.left) in
        let N = tree_in C new.outer.items next.0 in
        let leaf : start_leaf P ≡ LeadingNumber N [] =
        rw is (rw (follower.is (24 - length new.outer.items)) refl) in
        let outer : open_parts C at new.outer.items ≡ open_parts C at above ++ then ∷ [] =
        ap (open_parts C at) n.outer ∙ (places_push C 24 at above (frame_at_next part.frame)
        ∙ ap (λ q. open_parts C at above ++ q ∷ [])
        (part_is C (24 - length above) at (frame_at_next part.frame) none quiet
        ∙ ap (λ k. part_in T k count)
        (add-one i))) in
        let right : read_from_next_leaf C at new.outer.items (Some (innermost.Number next))
        ≡ Short [] at (open_parts C at above ++ then ∷ []) (LeadingNumber N []) =
        rw (free_ended new.outer.items new_free, outer) refl in
        let first : start_outer P ≡ [] = rw is refl in
        let left : resume_outer coding path (open_parts C at above)
        (Short [] at (then ∷ start_outer P) (start_leaf P))
        ≡ Short [] at (open_parts C at above ++ then ∷ []) (LeadingNumber N []) =
        rw (first, leaf) (around_unless_ended C 24 coding path at above (then ∷ [])
        (LeadingNumber N []) popped_part.known_rest
        ∙ rw (free_ended above above_free) refl) in
        ap (λ ps. resume_outer coding path ps (Done [] at []))
        (ap (open_parts C at) h.outer ∙ places_push C 24 at above part.frame)
        ∙ (ap (λ q. resume_outer coding path (open_parts C at above ++ q ∷ []) (Done [] at []))
        (part_is C (24 - length above) at part.frame none quiet)
        ∙ (goes_next coding path (open_parts C at above) T i count at popped_part.left
        (follows C d part.of part.frame f h.leaf h.outside h.outer follower.below)
        (rw add-one at follower.below)
        ∙ (left ∙ sym right)))

    come : (coding : Coding) (here : ℕ) (lines : List ValueAt) →
        root_after_transition coding C d part.of.0 transitions.Ended (outputs.Number part.number)
        lines here
        ≡ transition_result C (tree_in C d.outer.items part.of.0) new transitions.Ended lines (here
        + 1)
    come coding here lines =
        let ps = open_parts C (here + 1) d.outer.items in
        let leaf = innermost.Number next in
        ap (done_if_untyped none_left) (ap (λ qs. resume_outer coding [] qs
        (Done lines (here + 1) [])) (places_free C here d.outer.items free f.ahead f.known_outer)
        ∙ ((around_done coding [] ps lines (here + 1)
        ∙ ap (λ qs. with_front lines (resume_outer coding [] qs (Done [] (here + 1) [])))
        (unheard C 24 (here + 1) lines d.outer.items (untelling d.outer.items free)))
        ∙ (ap (with_front lines) (gone coding [] (here + 1))
        ∙ (front_gone C lines (here + 1) new.outer.items (Some leaf)
        ∙ (behind_stopped C new.outer.items new.carry new.piece.items (Some leaf) lines (here + 1)
        (n.carry ∙ h.empty)
        (ap (λ p. p.items) n.piece ∙ no_piece C d part.of octets part.count f h.leaf)
        ∙ rw n.leaf refl)))))
        ∙ rooted_result C (tree_in C d.outer.items part.of.0) new transitions.Ended lines (here +
        1) tt

    plain_says : (here at : ℕ) (lines : List ValueAt) →
        AreStepLines C d part.of.0 ended [] here at lines →
        (scalar : Scalar) × (n : ℕ) × (scalar ≡ Plain part.prim)
        × (interpreted_by scalar n ≡ Some part.number)
        × (lines ≡ line at (path_in [] (open_parts C here d.outer.items)) (Number scalar n) ∷ [])
    plain_says here at lines k = (
      k.0.scalar,
      k.0.n,
      same_plain (tree_in C d.outer.items part.of.0) part.prim k.0.scalar
          (h.prim (24 - length d.outer.items)) k.0.is,
      k.0.taken,
      k.1,
    )

    body_new : is_header_root new.head.root ≡ false
    body_new = rw n.head body

    part_passes : NotesAndAdvances C there new part.of.0 ended [] progress.More
    part_passes =
        record {
          order = n.order;
          head = n.head;
          forbids_wide = n.forbids_wide;
          here = λ coding here k. one_further coding there new here n.order
              (let some = taken_together.some in omega (arith, n.at, some))
              (stand_free (here + 1) new.outer.items new_free) k;
          next = λ goes_on. record {
            known_outer = known_new;
            inside = n.inside ∙ (h.outside ∙ sym new_free);
            ahead = ahead_by C new.outer.items known_new (free_ended new.outer.items new_free);
            known = λ leaf is. subst (λ l. leaf_type l < length C.types) (at_next leaf is)
                follower.known;
            clean = λ leaf is. subst (λ l. HoldsOnlyItsOwn l new.carry new.piece.items)
                (at_next leaf is)
                (ap (λ p. p.items) n.piece ∙ no_piece C d part.of octets part.count f h.leaf);
            link = λ root leaf link is. subst (λ l. Link C root new.outer.items (leaf_type l))
                (at_next leaf is)
                (link_next C root above new.outer.items part.frame.of.0 next.0
                (frame_at_next part.frame) refl n.outer 24
                (bare_next C d part.of part.frame f h.leaf h.outside h.outer follower.below)
                (rw (none, quiet) follower.number)
                (link_pop C root d.outer.items above part.frame part.of.0 h.outer link));
            going = tt;
            offset = λ leaf is.
                subst (λ l. string_offset (tree_in C new.outer.items (leaf_type l)) l
                ≡ transition_offset (tree_in C d.outer.items part.of.0) transitions.Ended)
                (at_next leaf is) refl;
          };
          steps = λ coding here lines says.
              let k = plain_says here (here + 1) lines says in
              comes_by C (tree_in C d.outer.items part.of.0) new false false transitions.Ended lines
              (here + 1) progress.More _
              (rw (k.4, body_new) refl) (sym (free_ended new.outer.items new_free))
              (come coding here lines) (rw n.leaf refl);
          inside = λ coding here lines says. ap ends_in_string (come coding here lines)
              ∙ stopped_silent C new.outer.items new.carry new.piece.items new.leaf lines (here + 1)
              (rw n.leaf refl);
          of_root = λ was. subst (NotesFitRoot C d.head.root) (sym n.notes) was;
          notes = λ asked o here at lines held says.
              let k = plain_says here at lines says in
              let kept = plain_noted C asked d.notes o part.prim k.1 at
              (path_in [] (open_parts C here d.outer.items)) held in
              subst (λ m. HoldsNoted C asked m (note_lines (is_header_root d.head.root) o lines))
              (sym n.notes)
              (rw (body, k.4, k.2) kept);
        }
      where
        at_next : (leaf : Innermost) → new.leaf ≡ Some leaf → innermost.Number next ≡ leaf
        at_next leaf is = search (arith, same_some)

    pub part_some : {E : Type 0} (a c : OutLog) → Wrote a c text →
        TakesSome {E = E} C d new octets a c (Ok (part.count, progress.More))
    part_some a c said =
        passed_some C d octets part.of part.count ended [] f there taken_together on new
        progress.More part_passes a c (part_says (Wrote a c) said)

  pub part_broken : {E : Type 0} (r : Result (ℕ × Progress) E) (new : Decoder) (a c : OutLog) →
      IsErr r → WroteFront a c text →
      TakesSome C d new octets a c r
  part_broken r new a c is said =
      passed_broken C d octets part.of part.count ended [] f there taken_together on r new a c is
      (part_says (WroteFront a c) said)
