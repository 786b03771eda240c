-- Octets that are taken together do what they do one after another: octets of a number, or the rest
-- of a piece.
use Rattle.std.proofs.Common.{◌≡◌, ◌≢◌, ℕ, suc, ◌+◌, ◌-◌, ◌%◌, ◌^◌, Bool, true, false, ◌<◌, ◌≤◌, inl, inr, take_all, List, [], ◌∷◌, ◌++◌, length, take, get_or, Option, Some, None, refl, ne_eqb, sym, ◌∙◌, ap, subst, arith, length-append, append_assoc, IfSome}
use Rattle.std.proofs.lemmas.Bool.{cases_lt}
use Rattle.giop_decode.specs.declared.progress.ValueFault.{ValueFault}
use Rattle.giop_decode.specs.declared.progress.ValueFault.TheVariants as kinds
use Rattle.std.proofs.Math.Bool.{and-true, and-false}
use Rattle.std.proofs.lemmas.List.{get_or-append-add, get_or-take, length-take-le, take-take}
use Rattle.std.proofs.Math.Seq.{take-append-add}
use Rattle.giop_cdr.proofs.NumberLaws.{num_bound}
use Rattle.giop_cdr.specs.Numbers.{AreOctets, num, interpreted_as}
use Rattle.giop_cdr.specs.Primitives.{size_of}
use Rattle.giop_cdr.specs.declared.number.Number.{Number as Taken}
use Rattle.giop_cdr.specs.declared.order.Order.{Order}
use Rattle.giop_cdr.specs.declared.prim.Primitive.{Primitive}
use Rattle.giop_decode.specs.declared.decoder.Decoder.{Decoder}
use Rattle.giop_decode.specs.declared.leaf.Leaf.{Leaf as Innermost}
use Rattle.giop_decode.specs.declared.leaf.Leaf.TheVariants as innermost
use Rattle.giop_decode.specs.declared.leaf.Step.{Step}
use Rattle.giop_decode.specs.declared.leaf.Transition.{Transition}
use Rattle.giop_decode.specs.declared.leaf.Transition.TheVariants as transitions
use Rattle.giop_decode.specs.declared.leaf.Output.{Output}
use Rattle.giop_decode.specs.declared.leaf.Output.TheVariants as outputs
use Rattle.giop_decode.specs.Fits.{ContentFits, HasLeadingNumber}
use Rattle.giop_decode.specs.Noted.{Noted, note_lines, without_name_if, ends_in_string, in_string_content, is_header_root, is_text, nothing_noted}
use Rattle.giop_decode.specs.SeenState.{Fits, CanStandAt, KeepsNoted, HoldsNoted, read_by_fields}
use Rattle.giop_decode.specs.DecoderSteps.{FitsAroundPart, IsNotRefused, decoder_step, root_after_transition}
use Rattle.giop_decode.specs.Pieces.{string_end_fault, terminator_size, fault_or}
use Rattle.giop_decode.specs.Reading.{after_leading_number}
use Rattle.giop_decode.proofs.NameBuffer.{name_kept, none_either}
use Rattle.giop_decode.specs.NameBuffer.{NameBufferFits, string_offset}
use Rattle.giop_decode.specs.declared.notes.Notes.{Notes}
use Rattle.giop_decode.specs.NotingSteps.{transition_offset, StringGoesOn, OutputFitsString, clears_name, leaf_in_string, transition_in_string}
use Rattle.giop_decode.specs.Runs.{AreHeldAfter, AlwaysTakesWithoutLine, HasHeldTogether, LeavesPieceIncomplete, IsStep, IsStepBy, IsStepOf, TakenTogether}
use Rattle.giop_decode.specs.ReadResult.{line, Coding, Done, ValueAt, Opening, PathSegment, Piece, lines_of, with_front}
use Rattle.giop_decode.specs.ReadingSteps.{after_number, coding_in, content_step, leading_width, leaf_step, path_in, BreaksRule}
use Rattle.giop_decode.specs.Transitions.{AreKnown, HasOutput, HaveOctetsLeft, IsOutput, IsWholeLong, IsWholeNumber, HoldsNothingAfter, BelongToNumber, TransitionGives, TransitionFits, after_transition, block_of, innermost_coding, leaf_by, leaf_of, leaf_type, open_parts, held_after_output, frames_after_octet, frames_after_octets, tree_in, HoldsOnlyItsOwn}
use Rattle.giop_decode.proofs.Advancing.{lines_after_transition, same_some, stands_at, fits_allowed}
use Rattle.arrayvec.specs.ArrayVec.{ArrayVec}
use Rattle.giop_decode.specs.declared.frame.Frame.{Frame}
use Rattle.giop_decode.proofs.Counting.{ahead_fewer, coding_after_octets, length_after_octets, octet_after_octets, after_no_octets}
use Rattle.giop_decode.proofs.Gathering.{IsCountedBy, IsFurther, none_counted, number_counted, waits_gathered}
use Rattle.giop_decode.proofs.Noting.{noted_on, leaf_inside}
use Rattle.giop_decode.proofs.PieceLaws.{content_held, full_whole, last_whole}
use Rattle.giop_decode.proofs.HeardFrames.{path_heard}
use Rattle.giop_decode.specs.Heard.{FramesHear}
use Rattle.giop_decode.proofs.Surrounding.{coded_in, known_after_octet, places_after_octet, tree_after_octet}
use Rattle.giop_decode.proofs.Rooms.{in_frames}
use Rattle.giop_decode.specs.Passes.{AreStepLines, HasCountedOctet}
use Rattle.giop_decode.proofs.PartialBlocks.{with_held}
use Rattle.giop_sig.specs.declared.types.TypeId.{TypeId}
use Rattle.giop_sig.specs.Table.{Table, type_id}
use Rattle.giop_sig.specs.Trees.{tree_at}
use Rattle.giop_decode.proofs.Runs.{take_more}
use Rattle.giop_decode.proofs.TransitionLaws.{number_prim, turns_number}
use Rattle.giop_sig.specs.Types.{Plain, Single, Text, Ty}

-- ---- a number of a primitive

pub whole_number : (p : Primitive) (order : Order) (at count : ℕ) (octets all : List ℕ)
    (number : Taken) →
    BelongToNumber (size_of p) at [] octets count true all → length all ≡ size_of p →
    AreOctets all → interpreted_as p (num order all) ≡ Some number →
    IsWholeNumber (Single (Plain p)) order at octets count number
whole_number p order at count octets all number stands width are taken = record {
  all = all;
  stands = stands;
  is = number_prim (Single (Plain p)) p (num order all) number refl taken
      (subst (λ n. num order all < 256 ^ n) width (num_bound order all are));
  spelled = refl;
}

-- ---- a number ahead

-- the width of the number that comes next, in the room that is left
pub width_in : (C : Table) (d : Decoder) (f : Fits C d) (of : TypeId) →
    d.leaf ≡ Some (innermost.Number of) → (width : ℕ) →
    ((room : ℕ) → HasLeadingNumber (tree_at C (suc room) of.0) →
    width ≡ leading_width (tree_at C (suc room) of.0)) →
    width ≡ leading_width (tree_in C d.outer.items of.0)
width_in C d f of e width all =
    let s = stands_at C d f (innermost.Number of) e in
    in_frames (λ n. HasLeadingNumber (tree_at C n of.0) → width ≡ leading_width (tree_at C n of.0))
    d.outer.items s.room all s.fits.kind

still_nothing : (output : Output) → held_after_output output [] ≡ []
still_nothing outputs.Nothing = refl
still_nothing _ = refl

-- nothing is held, whatever the transition
lets_nothing_go : (transition : Transition) → HoldsNothingAfter transition [] []
lets_nothing_go (transitions.More leaf) = tt
lets_nothing_go (transitions.Refused kind) = tt
lets_nothing_go _ = (refl, refl)

module _ (C : Table) (d : Decoder) (of : TypeId) (octets : List ℕ) (count : ℕ) (f : Fits C d)
    (e : d.leaf ≡ Some (innermost.Number of)) where
  pub no_piece : d.piece.items ≡ []
  no_piece = search (arith, same_some)

  -- octets of a number, which may be whole with them, and the octets that are kept
  of_number : (order : Order) (at : ℕ) → innermost_coding d.order d.at d.outer.items ≡ (order, at) →
      (whole : Bool) (kept all : List ℕ) (s : Step) →
      BelongToNumber (leading_width (tree_in C d.outer.items of.0)) at d.carry octets count whole
      all →
      HaveOctetsLeft (frames_after_octets (length octets - 1) d.outer.items) →
      TransitionFits (tree_in C d.outer.items of.0) of.0 s.transition kept [] →
      HoldsNothingAfter s.transition kept [] → HasOutput (tree_in C d.outer.items of.0) s.output →
      OutputFitsString (tree_in C d.outer.items of.0) false s.transition s.output →
      ((n : ℕ) → StringGoesOn (tree_in C d.outer.items of.0) None s.transition s.output n) →
      ((coding : Coding) (path : List PathSegment) (here : ℕ) →
      TransitionGives (tree_in C d.outer.items of.0) s.transition s.output kept [] path here
      (after_leading_number (tree_in C d.outer.items of.0) (λ xs at rest.
      after_number coding path (tree_in C d.outer.items of.0) (num order xs) at rest)
      (block_of whole all here))) →
      TakenTogether C d octets of count s [] kept d.piece.items
  of_number order at coded whole kept all s stands ahead fits lets has string on gives =
      let nothing_held : held_after_output s.output d.piece.items ≡ [] =
      ap (held_after_output s.output) no_piece ∙ still_nothing s.output in
      record {
        leaf = innermost.Number of;
        goes_on = e;
        same = refl;
        some = stands.some;
        within = stands.within;
        ahead = ahead_fewer (count - 1) (length octets - 1) d.outer.items
            (let within = stands.within in omega (arith, within)) ahead;
        short = rw no_piece (omega arith);
        carry = stands.held;
        piece = d.piece.items;
        adds = (rw coded stands.are_held, refl);
        transition_fits = rw nothing_held fits;
        lets_go = rw nothing_held lets;
        has_output = has;
        output_fits_string = string;
        string_goes_on = on (length (d.piece.items ++ []));
        lines = λ coding path here. (gives coding path (here + 1)).lines;
        comes = λ coding path here ordered there.
            let t = gives coding path (here + 1) in
            let is : coding.order ≡ order = ordered ∙ ap (λ (k : Order × ℕ). k.0) coded in
            let aligned : coding.phase here % 8 ≡ (at + (count - 1)) % 8 =
            there ∙ ap (λ (k : Order × ℕ). (k.1 + (count - 1)) % 8) coded in
            rw nothing_held
            (ap (after_leading_number (tree_in C d.outer.items of.0) (λ xs at rest.
            after_number coding path (tree_in C d.outer.items of.0) (num coding.order xs) at rest))
            (stands.last coding.phase here aligned)
            ∙ (ap (λ o. after_leading_number (tree_in C d.outer.items of.0) (λ xs at rest.
            after_number coding path (tree_in C d.outer.items of.0) (num o xs) at rest)
            (block_of whole all (here + 1))) is
            ∙ rw (still_nothing s.output) at t.comes));
        says = λ coding path here. rw no_piece (gives coding path (here + 1)).says;
      }

  -- the last octet of the number has come, and no octets are kept
  comes_here : (order : Order) (at : ℕ) → innermost_coding d.order d.at d.outer.items
      ≡ (order, at) → (kept all : List ℕ) (s : Step) → kept ≡ [] →
      BelongToNumber (leading_width (tree_in C d.outer.items of.0)) at d.carry octets count true
      all → HaveOctetsLeft (frames_after_octets (length octets - 1) d.outer.items) →
      IsStepBy (tree_in C d.outer.items of.0) of.0 s →
      ((coding : Coding) (path : List PathSegment) (here : ℕ) →
      TransitionGives (tree_in C d.outer.items of.0) s.transition s.output [] [] path here
      (after_number coding path (tree_in C d.outer.items of.0) (num order all) here [])) →
      TakenTogether C d octets of count s [] kept d.piece.items
  comes_here order at coded kept all s empty stands ahead fits gives =
      of_number order at coded true kept all s stands ahead (rw empty fits.transition_fits)
      (rw empty (lets_nothing_go s.transition)) fits.has_output fits.output_fits_string
      fits.string_goes_on (λ coding path here. rw empty (gives coding path here))

  pub comes_leading : (order : Order) (at : ℕ) → innermost_coding d.order d.at d.outer.items ≡ (
    order,
    at,
  ) →
      (kept all : List ℕ) (s : Step) → kept ≡ [] →
      BelongToNumber (leading_width (tree_in C d.outer.items of.0)) at d.carry octets count true
      all →
      HaveOctetsLeft (frames_after_octets (length octets - 1) d.outer.items) → IsStep C of.0 s →
      IsStepOf C of.0 (num order all) s → TakenTogether C d octets of count s [] kept d.piece.items
  comes_leading order at coded kept all s empty stands ahead fits gives =
      let few = (stands_at C d f (innermost.Number of) e).room in
      comes_here order at coded kept all s empty stands ahead
      (in_frames (λ n. IsStepBy (tree_at C n of.0) of.0 s) d.outer.items few fits)
      (in_frames (λ n. (coding : Coding) (path : List PathSegment) (here : ℕ) →
      TransitionGives (tree_at C n of.0) s.transition s.output [] [] path here
      (after_number coding path (tree_at C n of.0) (num order all) here [])) d.outer.items few
      gives)

  -- a whole number, of which nothing was held
  pub comes_number : (order : Order) (at : ℕ) → innermost_coding d.order d.at d.outer.items
      ≡ (order, at) →
      (number : Taken) → d.carry ≡ [] → IsWholeNumber (tree_in C d.outer.items of.0) order at
      octets count number →
      HaveOctetsLeft (frames_after_octets (length octets - 1) d.outer.items) →
      TakenTogether C d octets of count (record {
        transition = transitions.Ended;
        output =
            outputs.Number number;
      }) [] d.carry d.piece.items
  comes_number order at coded number empty h ahead =
      comes_here order at coded d.carry h.all (record {
        transition = transitions.Ended;
        output =
            outputs.Number number;
      }) empty (rw empty h.stands) ahead (record {
        transition_fits = tt;
        has_output = h.is;
        output_fits_string = (refl, refl);
        string_goes_on = λ n. (refl, refl);
      })
      (λ coding path at. subst (λ n. TransitionGives (tree_in C d.outer.items of.0)
      transitions.Ended
      (outputs.Number number) [] [] path at (after_number coding path (tree_in C d.outer.items of.0)
      n at []))
      h.spelled (turns_number coding path (tree_in C d.outer.items of.0) at number h.is))

  -- a whole number of four octets, of which none was held
  pub comes_long : (order : Order) (at : ℕ) → innermost_coding d.order d.at d.outer.items
      ≡ (order, at) →
      (n : ℕ) (s : Step) → leading_width (tree_in C d.outer.items of.0) ≡ 4 → d.carry ≡ [] →
      IsWholeLong order at octets count n →
      HaveOctetsLeft (frames_after_octets (length octets - 1) d.outer.items) → IsStep C of.0 s →
      IsStepOf C of.0 n s → TakenTogether C d octets of count s [] d.carry d.piece.items
  comes_long order at coded n s four empty h ahead fits gives =
      comes_leading order at coded d.carry h.all s empty (rw (empty, four) h.stands) ahead fits
      (subst (λ k. IsStepOf C of.0 k s) h.spelled gives)

  -- the last octet of the number is still to come
  pub number_waits : (order : Order) (at : ℕ) → innermost_coding d.order d.at d.outer.items
      ≡ (order, at) →
      (all : List ℕ) →
      BelongToNumber (leading_width (tree_in C d.outer.items of.0)) at d.carry octets count false
      all →
      HaveOctetsLeft (frames_after_octets (length octets - 1) d.outer.items) →
      TakenTogether C d octets of count (record {
        transition = transitions.More (innermost.Number of);
        output = outputs.Nothing;
      }) [] all d.piece.items
  number_waits order at coded all stands ahead =
      of_number order at coded false all all _ stands ahead (refl, refl) tt tt refl (λ n. refl)
      (λ coding path here. record { lines = []; comes = refl; says = refl })

-- ---- the octet of an encapsulation's byte order

module _ (C : Table) (d : Decoder) (of : TypeId) (n : ℕ) (octets : List ℕ) (s : Step) (f : Fits C d)
    (e : d.leaf ≡ Some (innermost.Opening of n)) (some : 0 < length octets) where
  of_order : IsStepBy (tree_in C d.outer.items of.0) of.0 s →
      ((coding : Coding) (path : List PathSegment) (here : ℕ) →
      TransitionGives (tree_in C d.outer.items of.0) s.transition s.output [] [] path (here + 1)
      (leaf_step coding path (Opening (tree_in C d.outer.items of.0) (n - 1)) here
      (get_or octets 0 0))) → TakenTogether C d octets of 1 s [] d.carry d.piece.items
  of_order fits gives =
      let leaf = innermost.Opening of n in
      let it : f.leaf ≡ leaf = same_some f.leaf leaf (sym f.goes_on ∙ e) in
      let clean : HoldsOnlyItsOwn leaf d.carry d.piece.items =
      subst (λ l. HoldsOnlyItsOwn l d.carry d.piece.items) it f.clean in
      let kept : held_after_output s.output d.piece.items ≡ [] =
      ap (held_after_output s.output) clean.1 ∙ still_nothing s.output in
      record {
        leaf = leaf;
        goes_on = e;
        same = refl;
        some = omega arith;
        within = some;
        ahead = rw (after_no_octets d.outer.items) f.ahead;
        short = rw clean.1 (omega arith);
        carry = d.carry;
        piece = d.piece.items;
        adds = (refl, refl, refl);
        transition_fits = rw (clean.0, kept) fits.transition_fits;
        lets_go = rw (clean.0, kept) (lets_nothing_go s.transition);
        has_output = fits.has_output;
        output_fits_string = fits.output_fits_string;
        string_goes_on = fits.string_goes_on (length (d.piece.items ++ []));
        lines = λ coding path here. (gives coding path here).lines;
        comes = λ coding path here ordered there.
            rw (clean.0, kept) (rw (still_nothing s.output) at (gives coding path here).comes);
        says = λ coding path here. rw clean.1 (gives coding path here).says;
      }

  pub comes_order : IsStep C of.0 s →
      ((room : ℕ) (coding : Coding) (path : List PathSegment) (here : ℕ) →
      TransitionGives (tree_at C (suc room) of.0) s.transition s.output [] [] path (here + 1)
      (leaf_step coding path (Opening (tree_at C (suc room) of.0) (n - 1)) here
      (get_or octets 0 0))) → TakenTogether C d octets of 1 s [] d.carry d.piece.items
  comes_order fits transitions =
      let few = (stands_at C d f (innermost.Opening of n) e).room in
      of_order (in_frames (λ m. IsStepBy (tree_at C m of.0) of.0 s) d.outer.items few fits)
      (in_frames (λ m. (coding : Coding) (path : List PathSegment) (here : ℕ) →
      TransitionGives (tree_at C m of.0) s.transition s.output [] [] path (here + 1)
      (leaf_step coding path (Opening (tree_at C m of.0) (n - 1)) here (get_or octets 0 0)))
      d.outer.items few transitions)

-- ---- the rest of a piece ahead

pub tail_small : (T : Ty) → terminator_size T ≤ 1
tail_small (Text bound) = omega arith
tail_small T = omega arith

ends_well : (T : Ty) (n : ℕ) (xs : List ℕ) → (0 < terminator_size T → get_or xs n 0 ≡ 0) →
    string_end_fault T n xs ≡ None
ends_well (Text bound) n xs zero_end = rw (zero_end (omega arith)) refl
ends_well T n xs zero_end = refl

ends_badly : (T : Ty) (n : ℕ) (xs : List ℕ) → 0 < terminator_size T → (get_or xs n 0 ≡ 0 → ⊥) →
    string_end_fault T n xs ≡ Some kinds.StringEnd
ends_badly (Text bound) n xs some bad = rw (ne_eqb (get_or xs n 0) 0 bad) refl
ends_badly T n xs some bad = absurd (omega (arith, some))

module _ (C : Table) (d : Decoder) (of : TypeId) (total offset : ℕ) (octets : List ℕ) (count : ℕ)
    (f : Fits C d)
    (e : d.leaf ≡ Some (innermost.Content of total offset))
    (ahead : HaveOctetsLeft (frames_after_octets (length octets - 1) d.outer.items)) where
  abbrev T : Ty
  T = tree_in C d.outer.items of.0

  abbrev content_leaf : Innermost
  content_leaf = innermost.Content of total offset

  content : ContentFits T T total offset d.piece.items
  content = search (arith, stands_at)

  pub no_carry : d.carry ≡ []
  no_carry = search (arith, same_some)

  -- what is held before the last of the octets, and that last octet
  abbrev held_before : List ℕ
  held_before = d.piece.items ++ take (count - 1) octets

  abbrev last_octet : ℕ
  last_octet = get_or octets (count - 1) 0

  with_last : 0 < count → count ≤ length octets →
      held_before ++ last_octet ∷ [] ≡ d.piece.items ++ take count octets
  with_last some within = search (arith, append_assoc, take, get_or, take_more)

  held_size : (n : ℕ) → n ≤ length octets →
      length (d.piece.items ++ take n octets) ≡ length d.piece.items + n
  held_size n within = search (arith, length-append, take, length-take-le)

  before_size : count ≤ length octets → length held_before ≡ length d.piece.items + (count - 1)
  before_size within = held_size (count - 1) (omega (arith, within))

  -- all octets but the last leave the piece incomplete, and the last one does this step
  of_content : (s : Step) (rest kept : List ℕ) → 0 < count → count ≤ length octets →
      LeavesPieceIncomplete C d.outer.items content_leaf d.piece.items (count - 1) →
      length kept + length rest ≤ 32 →
      TransitionFits T of.0 s.transition d.carry (held_after_output s.output kept) →
      HoldsNothingAfter s.transition d.carry (held_after_output s.output kept) →
      HasOutput T s.output → OutputFitsString T (is_text T) s.transition s.output →
      StringGoesOn T (string_offset T content_leaf) s.transition s.output (length (kept ++ rest)) →
      (lines : List PathSegment → ℕ → List ValueAt) →
      ((path : List PathSegment) (here : ℕ) →
      content_step T path total offset here held_before last_octet
      ≡ after_transition T s.transition d.carry (held_after_output s.output kept) (lines path here)
      (here + 1)) →
      ((path : List PathSegment) (here : ℕ) →
      IsOutput T path (here + 1) s.output (kept ++ rest) (lines path here)) →
      TakenTogether C d octets of count s rest d.carry kept
  of_content s rest kept some within parted short fits lets has string on lines comes says =
      let size = before_size within in
      record {
        leaf = content_leaf;
        goes_on = e;
        same = refl;
        some = some;
        within = within;
        ahead = ahead_fewer (count - 1) (length octets - 1) d.outer.items (omega (arith, within))
            ahead;
        short = short;
        carry = d.carry;
        piece = held_before;
        adds = (
          refl,
          refl,
          (λ large. omega (arith, size, parted.0 large)),
          (λ small. omega (arith, size, parted.1 small)),
        );
        transition_fits = fits;
        lets_go = lets;
        has_output = has;
        output_fits_string = string;
        string_goes_on = on;
        lines = λ coding path here. lines path here;
        comes = λ coding path here order at. comes path here;
        says = λ coding path here. says path here;
      }

  pub comes_full : 32 < total - offset → count ≡ 32 - length d.piece.items → count ≤ length octets →
      TakenTogether C d octets of count
      (record {
        transition = transitions.More (innermost.Content of total (offset + 32));
        output =
            outputs.Piece offset true;
      })
      (take count octets) d.carry d.piece.items
  comes_full large counted within =
      let room : length d.piece.items < 32 = content.room_full large in
      let some : 0 < count = omega (arith, counted, room) in
      let size = before_size within in
      of_content _ (take count octets) d.piece.items some within
      ((λ _. omega (arith, counted, room)), (λ small. absurd (omega (arith, large, small))))
      (omega (arith, length-take-le count octets within, counted, room))
      (refl, no_carry) tt content.kind (sym (and-true (is_text T)))
      (refl, refl, held_size count within ∙ omega (arith, counted, room))
      (λ path here. line (here + 1) path
      (Piece T offset (d.piece.items ++ take count octets) true) ∷ [])
      (λ path here. rw (← with_last some within) (full_whole T path total offset here held_before
      last_octet large
      (omega (arith, size, counted, room))))
      (λ path here. refl)

  -- the step of the last piece, by the rule that the end of its content breaks, if it breaks one
  abbrev step_of : Option ValueFault → Step
  step_of None = record { transition = transitions.Ended; output = outputs.Piece offset false }
  step_of (Some kind) = record { transition = transitions.Refused kind; output = outputs.Nothing }

  -- the last piece, with what ends its content
  comes_end : (size : ℕ) (why : Option ValueFault) → IfSome why BreaksRule → total - offset ≤ 32 →
      size ≡ total - offset - length d.piece.items → count ≡ size + terminator_size T →
      count ≤ length octets →
      string_end_fault T (total - offset) (d.piece.items ++ take count octets) ≡ why →
      TakenTogether C d octets of count (step_of why) (take size octets) d.carry d.piece.items
  comes_end size why rule small sized counted within is =
      let one = tail_small T in
      let room : length d.piece.items < total - offset + terminator_size T =
      content.room_last small in
      let some : 0 < count = omega (arith, counted, sized, room, one) in
      let parted : LeavesPieceIncomplete C d.outer.items content_leaf d.piece.items (count - 1) = (
        (λ large. absurd (omega (arith, large, small))),
        (λ _. omega (arith, counted, sized, room, one)),
      ) in
      let short : length d.piece.items + length (take size octets) ≤ 32 =
      omega (
        arith,
        length-take-le size octets (omega (arith, within, counted)),
        sized,
        small,
        room,
        one,
      ) in
      let left : total - offset ≡ length d.piece.items + size =
      omega (arith, sized, room, one) in
      let all : take (total - offset) (d.piece.items ++ take count octets)
      ≡ d.piece.items ++ take size octets =
      ap (λ n. take n (d.piece.items ++ take count octets)) left
      ∙ (take-append-add d.piece.items (take count octets) size
      ∙ ap (λ xs. d.piece.items ++ xs) (take-take size count octets (omega (arith, counted)))) in
      let come : (path : List PathSegment) (here : ℕ) →
      content_step T path total offset here held_before last_octet ≡ fault_or T why (here + 1)
      (Done (line (here + 1) path (Piece T offset (d.piece.items ++ take size octets) false) ∷ [])
      (here + 1) []) =
      λ path here. rw (← is, ← all, ← with_last some within) (last_whole T path total offset here
      held_before last_octet small
      (omega (arith, before_size within, counted, sized, room, one))) in
      go why rule some parted short come
    where
      go : (why : Option ValueFault) → IfSome why BreaksRule → 0 < count →
          LeavesPieceIncomplete C d.outer.items content_leaf d.piece.items (count - 1) →
          length d.piece.items + length (take size octets) ≤ 32 →
          ((path : List PathSegment) (here : ℕ) →
          content_step T path total offset here held_before last_octet ≡ fault_or T why (here + 1)
          (Done (line (here + 1) path (Piece T offset (d.piece.items ++ take size octets) false)
          ∷ []) (here + 1) [])) →
          TakenTogether C d octets of count (step_of why) (take size octets) d.carry d.piece.items
      go None rule some parted short come =
          of_content _ (take size octets) d.piece.items some within parted short tt
          (no_carry, refl) content.kind (sym (and-false (is_text T)))
          (none_either (is_text T) (Some offset), refl)
          (λ path here. line (here + 1) path
          (Piece T offset (d.piece.items ++ take size octets) false) ∷ []) come (λ path here. refl)
      go (Some kind) rule some parted short come =
          of_content _ (take size octets) d.piece.items some within parted short rule tt tt refl tt
          (λ path here. []) come (λ path here. refl)

  -- the octet that ends a string
  last_is : (size : ℕ) → total - offset ≤ 32 → size ≡ total - offset - length d.piece.items →
      size < count → get_or (d.piece.items ++ take count octets) (total - offset) 0
      ≡ get_or octets size 0
  last_is size small sized below =
      let room : length d.piece.items < total - offset + terminator_size T =
      content.room_last small in
      let left : total - offset ≡ length d.piece.items + size =
      omega (arith, sized, room, tail_small T) in
      ap (λ n. get_or (d.piece.items ++ take count octets) n 0) left
      ∙ (get_or-append-add d.piece.items (take count octets) size 0
      ∙ get_or-take count octets size 0 below)

  pub comes_last : (size behind : ℕ) → behind ≡ terminator_size T → total - offset ≤ 32 →
      size ≡ total - offset - length d.piece.items → count ≡ size + behind →
      count ≤ length octets → (0 < behind → get_or octets size 0 ≡ 0) →
      TakenTogether C d octets of count (step_of None) (take size octets) d.carry d.piece.items
  comes_last size n is small sized counted within zero_end =
      comes_end size None tt small sized (omega (arith, counted, is)) within
      (ends_well T (total - offset) _ (λ some.
      last_is size small sized (omega (arith, counted, is, some))
      ∙ zero_end (omega (arith, is, some))))

  -- the last octet of a string isn't zero
  pub comes_unended : (size behind : ℕ) (s : Step) →
      s.transition ≡ transitions.Refused kinds.StringEnd → s.output ≡ outputs.Nothing →
      behind ≡ terminator_size T → total - offset ≤ 32 →
      size ≡ total - offset - length d.piece.items → count ≡ size + behind →
      count ≤ length octets → 0 < behind → get_or octets size 0 ≢ 0 →
      TakenTogether C d octets of count s (take size octets) d.carry d.piece.items
  comes_unended size n s transition output is small sized counted within some bad =
      let step : s ≡ step_of (Some kinds.StringEnd) = rw (transition, output) refl in
      rw step (comes_end size (Some kinds.StringEnd) tt small sized
      (omega (arith, counted, is)) within
      (ends_badly T (total - offset) _ (omega (arith, is, some)) (λ zero_end.
      bad (sym (last_is size small sized (omega (arith, counted, some))) ∙ zero_end))))

  -- octets that leave the piece incomplete
  pub piece_waits : LeavesPieceIncomplete C d.outer.items content_leaf d.piece.items
      (length octets) → count ≡ length octets → 0 < count →
      TakenTogether C d octets of count (record {
        transition = transitions.More content_leaf;
        output = outputs.Nothing;
      }) [] d.carry (d.piece.items ++ octets)
  piece_waits parted counted some =
      let within : count ≤ length octets = omega (arith, counted) in
      let size = before_size within in
      let all : held_before ++ last_octet ∷ [] ≡ d.piece.items ++ octets =
      with_last some within
      ∙ ap (λ xs. d.piece.items ++ xs) (take_all count octets (omega (arith, counted))) in
      of_content _ [] (d.piece.items ++ octets) some within (
        (λ large. omega (arith, parted.0 large, counted)),
        (λ small. omega (arith, parted.1 small, counted)),
      ) (elim (cases_lt 32 (total - offset)) [
        | inl large ↦ omega (arith, parted.0 large, length-append d.piece.items octets)
        | inr small ↦ omega (
          arith,
          parted.1 small,
          tail_small T,
          length-append d.piece.items octets,
        )
      ]) (refl, no_carry) tt tt refl refl (λ path here. [])
      (λ path here. rw (← all) (content_held T path total offset here held_before last_octet
      (λ large. omega (arith, size, parted.0 large, counted, some))
      (λ small. omega (arith, size, parted.1 small, counted, some))))
      (λ path here. refl)

-- the same for an innermost part of this type
pub part_waits : (C : Table) (d : Decoder) (octets : List ℕ) (leaf : Innermost) (of : TypeId) →
    of.0 ≡ leaf_type leaf → Fits C d → d.leaf ≡ Some leaf → 0 < length octets →
    HaveOctetsLeft (frames_after_octets (length octets - 1) d.outer.items) →
    LeavesPieceIncomplete C d.outer.items leaf d.piece.items (length octets) →
    TakenTogether C d octets of (length octets) (record {
      transition = transitions.More leaf;
      output = outputs.Nothing;
    }) [] d.carry (d.piece.items ++ octets)
part_waits C d octets (innermost.Content kind total offset) of same f e some ahead parted =
    subst (λ x. TakenTogether C d octets x (length octets) (record {
      transition = transitions.More (innermost.Content kind total offset);
      output = outputs.Nothing;
    }) [] d.carry (d.piece.items ++ octets)) (sym (ap type_id same))
    (piece_waits C d kind total offset octets (length octets) f e ahead parted refl some)
part_waits C d octets leaf of same f e some ahead parted = absurd parted

-- ---- what octets taken together do to a decoder

-- octets that only add to what is held
adds_gathered : (C : Table) (d new : Decoder) (leaf : Innermost) (octets : List ℕ) →
    IsCountedBy d new (length octets) → Fits C d → d.leaf ≡ Some leaf →
    AreHeldAfter C d leaf octets new.carry new.piece.items → Fits C new
    × AlwaysTakesWithoutLine C d new octets
adds_gathered C d new (innermost.Number of) octets on f e h =
    number_counted C of d new octets on h.1 f e h.0
adds_gathered C d new (innermost.Opening of count) octets on f e h = subst
    (λ xs. Fits C new × AlwaysTakesWithoutLine C d new xs) (sym h.0)
    (none_counted C d new (subst (λ xs. IsCountedBy d new (length xs)) h.0 on) h.1 h.2 f)
adds_gathered C d new (innermost.Content of total offset) octets on f e h =
    waits_gathered C of total offset (length new.piece.items) (tree_in C d.outer.items of.0) h.2
    h.3 d
    new octets refl on h.0 h.1 f e
    (omega (arith, ap length h.1, length-append d.piece.items octets))

-- The decoder `m` is `d` at the last of `count` octets. It has counted the octets before the last
-- one, and has not taken them.
pub record IsAtLast (d m : Decoder) (count : ℕ) : Type 0 where
  pub further : IsFurther d m (count - 1) (frames_after_octets (count - 1) d.outer.items)

abbrev pub at_last : (d : Decoder) (at : ℕ) (outer : ArrayVec Frame) → Decoder
at_last d at outer = record {
  order = d.order;
  head = d.head;
  at = at;
  forbids_wide = d.forbids_wide;
  outer = outer;
  inside = d.inside;
  leaf = d.leaf;
  carry = d.carry;
  piece = d.piece;
  notes = d.notes;
}

-- the same for a decoder that may hold other octets than `d`
pub held_at_last : (C : Table) (d now : Decoder) (octets : List ℕ) (of : TypeId) (count at : ℕ)
    (s : Step) (rest : List ℕ) (outer : ArrayVec Frame) →
    HasHeldTogether C d now octets of count s rest →
    at ≡ (now.at + (count - 1)) % 8 → outer.items
    ≡ frames_after_octets (count - 1) now.outer.items →
    IsAtLast d (at_last now at outer) count
held_at_last C d now octets of count at s rest outer h there counted = record {
  further = record {
    order = h.order;
    head = h.head;
    forbids_wide = h.forbids_wide;
    at = rw h.at at there;
    outer = rw h.outer at counted;
    inside = h.inside;
    leaf = h.leaf;
    notes = h.notes;
  };
}

pub held_now : (C : Table) (d : Decoder) (octets : List ℕ) (of : TypeId) (count : ℕ) (s : Step)
    (rest carry : List ℕ) (piece : ArrayVec ℕ) → Fits C d →
    TakenTogether C d octets of count s rest carry piece.items →
    HasHeldTogether C d (with_held d carry piece) octets of count s rest
held_now C d octets of count s rest carry piece f h = record {
  fits = f;
  order = refl;
  head = refl;
  forbids_wide = refl;
  at = refl;
  outer = refl;
  inside = refl;
  leaf = refl;
  notes = refl;
  together = h;
}

pub is_at_last : (d : Decoder) (count at : ℕ) (outer : ArrayVec Frame) →
    at ≡ (d.at + (count - 1)) % 8 →
    outer.items ≡ frames_after_octets (count - 1) d.outer.items →
    IsAtLast d (at_last d at outer) count
is_at_last d count at outer there counted = search (arith)

-- the decoder `d` before octets that it takes together, and the decoder `m` at the last of them
module _ (C : Table) (d : Decoder) (octets : List ℕ) (of : TypeId) (count : ℕ) (s : Step)
    (rest : List ℕ) (f : Fits C d) (m : Decoder)
    (h : TakenTogether C d octets of count s rest m.carry m.piece.items)
    (on : IsAtLast d m count) where
  -- the decoder after all but the last of the octets
  abbrev pub before_last : Decoder
  before_last = with_held m h.carry (record { items = h.piece })

  -- where this decoder can be, `m` can be too
  pub stands_then : (coding : Coding) (here : ℕ) → CanStandAt coding before_last here →
      CanStandAt coding m here
  stands_then coding here h = record {
    order = h.order;
    phase = h.phase;
    even = h.even;
    outer = h.outer;
  }

  leads : m.leaf ≡ Some h.leaf
  leads = on.further.leaf ∙ h.goes_on

  pub gathered_whole : Fits C before_last × AlwaysTakesWithoutLine C d before_last
      (take (count - 1) octets)
  gathered_whole =
      let t = on.further in
      adds_gathered C d before_last h.leaf (take (count - 1) octets)
      (rw (length-take-le (count - 1) octets (omega (arith, h.within))) (
        record {
          order = t.order;
          head = t.head;
          forbids_wide = t.forbids_wide;
          at = t.at;
          outer = t.outer;
          inside = t.inside;
          leaf = t.leaf;
          notes = t.notes;
        },
        h.ahead,
      )) f h.goes_on h.adds

  pub fits_then : Fits C before_last
  fits_then = gathered_whole.0

  pub same_type : leaf_type fits_then.leaf ≡ of.0
  same_type = search (arith, same_some, fits_then, leads)

  pub around_whole : FitsAroundPart C m of.0
  around_whole =
      let s = stands_at C before_last fits_then h.leaf leads in
      record {
        known = rw same_type at fits_then.known;
        known_outer = fits_then.known_outer;
        inside = fits_then.inside;
        ahead = fits_then.ahead;
        are_open = s.are_open;
        room = s.room;
        fit = rw h.same at s.fit;
        at = fits_then.at;
      }

  -- the decoder once the last octet is counted
  pub behind_last : (now : Decoder) → now.order ≡ m.order → now.head ≡ m.head →
      now.forbids_wide ≡ m.forbids_wide →
      now.at ≡ (m.at + 1) % 8 → FramesHear C (frames_after_octet m.outer.items) now.outer.items of.0
      s.output (m.piece.items ++ rest) → now.inside ≡ m.inside → now.carry ≡ m.carry →
      now.piece ≡ m.piece → now.notes ≡ m.notes → HasCountedOctet C m now of.0 s rest
  behind_last now order head forbids_wide at outer inside carry piece notes = record {
    around = around_whole;
    order = order;
    head = head;
    forbids_wide = forbids_wide;
    at = at;
    outer = outer;
    inside = inside;
    carry = carry;
    piece = piece;
    notes = notes;
  }

  -- the lines that the last octet gives
  abbrev pub lines_at : (coding : Coding) (here : ℕ) → List ValueAt
  lines_at coding here =
      let ps = open_parts C here m.outer.items in
      h.lines (coding_in coding ps) (path_in [] ps) here

  -- as much room is left as before the octets
  same_room : 24 - length d.outer.items ≡ 24 - length m.outer.items
  same_room = ap (λ n. 24 - n) (sym (ap length on.further.outer
      ∙ length_after_octets (count - 1) d.outer.items))

  pub says_at : (coding : Coding) (here : ℕ) →
      IsOutput (tree_in C m.outer.items of.0) (path_in [] (open_parts C here m.outer.items))
      (here + 1) s.output (m.piece.items ++ rest) (lines_at coding here)
  says_at coding here =
      let ps = open_parts C here m.outer.items in
      subst (λ n. IsOutput (tree_at C n of.0) (path_in [] ps) (here + 1) s.output
      (m.piece.items ++ rest) (lines_at coding here)) same_room
      (h.says (coding_in coding ps) (path_in [] ps) here)

  -- what the last octet does, in that room
  comes_at : (coding : Coding) (path : List PathSegment) (here : ℕ) →
      coding.order ≡ (innermost_coding d.order d.at d.outer.items).0 →
      coding.phase here % 8 ≡ ((innermost_coding d.order d.at d.outer.items).1 + (count - 1)) % 8 →
      leaf_step coding path (leaf_of C m.outer.items h.leaf h.carry h.piece) here
      (get_or octets (count - 1) 0)
      ≡ after_transition (tree_in C m.outer.items of.0) s.transition m.carry
      (held_after_output s.output m.piece.items) (h.lines coding path here) (here + 1)
  comes_at coding path here order at =
      subst (λ n. leaf_step coding path (leaf_by (tree_at C n (leaf_type h.leaf)) h.leaf h.carry
      h.piece) here (get_or octets (count - 1) 0)
      ≡ after_transition (tree_at C n of.0) s.transition m.carry
      (held_after_output s.output m.piece.items) (h.lines coding path here) (here + 1)) same_room
      (h.comes coding path here order at)

  fits_string : OutputFitsString (tree_in C m.outer.items of.0)
      (leaf_in_string (tree_in C m.outer.items of.0) h.leaf) s.transition s.output
  fits_string = subst (λ n. OutputFitsString (tree_at C n of.0)
      (leaf_in_string (tree_at C n of.0) h.leaf) s.transition s.output) same_room
      h.output_fits_string

  -- the byte order and the alignment by which the last octet is taken
  coded : innermost_coding m.order m.at m.outer.items
      ≡ (
        (innermost_coding d.order d.at d.outer.items).0,
        ((innermost_coding d.order d.at d.outer.items).1 + (count - 1)) % 8,
      )
  coded = search (arith, coding_after_octets)

  pub told_whole : (coding : Coding) (here : ℕ) → CanStandAt coding before_last here →
      decoder_step coding C before_last here (get_or octets (count - 1) 0)
      ≡ root_after_transition coding C m of.0 s.transition s.output
      (lines_at coding here) here
  told_whole coding here stands = search
      (arith, get_or, coded_in, coded, leads, comes_at, fits_then.known_outer)

  pub lines_whole : (coding : Coding) (here : ℕ) → CanStandAt coding before_last here →
      lines_of (decoder_step coding C before_last here (get_or octets (count - 1) 0))
      ≡ lines_at coding here
  lines_whole coding here stands = search
      (arith, told_whole, lines_after_transition, fits_then, fits_allowed)

  pub keeps_noted_whole : (new : Decoder) (coding : Coding) (here : ℕ) (front : List ValueAt) →
      CanStandAt coding before_last here →
      ends_in_string (root_after_transition coding C m of.0 s.transition s.output
      (lines_at coding here) here)
      ≡ transition_in_string (tree_in C m.outer.items of.0) s.transition →
      ((o : Noted) → HoldsNoted C true m.notes o →
      HoldsNoted C true new.notes (without_name_if (clears_name s.output)
      (note_lines (is_header_root m.head.root) o (lines_at coding here)))) →
      KeepsNoted C m.head.root before_last (read_by_fields C before_last front here) →
      KeepsNoted C m.head.root new (with_front front
      (decoder_step coding C before_last here (get_or octets (count - 1) 0)))
  keeps_noted_whole new coding here front stands inside notes old =
      let T = tree_in C m.outer.items of.0 in
      let header = is_header_root m.head.root in
      let silent : in_string_content (leaf_of C m.outer.items h.leaf h.carry h.piece)
      ≡ leaf_in_string T h.leaf =
      leaf_inside C m.outer.items h.leaf h.carry h.piece
      ∙ ap (λ n. leaf_in_string (tree_in C m.outer.items n) h.leaf) h.same in
      let held : HoldsNoted C true m.notes
      (without_name_if (leaf_in_string T h.leaf) (note_lines header nothing_noted front)) =
      rw (leads, silent) at old in
      subst (HoldsNoted C true new.notes) (noted_on header T h.leaf s.transition s.output
      (path_in [] (open_parts C here m.outer.items)) (here + 1) (m.piece.items ++ rest) front
      (lines_at coding here)
      (decoder_step coding C before_last here (get_or octets (count - 1) 0)) fits_string
      (says_at coding here) (ap ends_in_string (told_whole coding here stands) ∙ inside)
      (lines_whole coding here stands)) (notes _ held)

  pub name_whole : (coding : Coding) (here : ℕ) (next : Option ℕ) (new : Notes) →
      IsNotRefused s.transition →
      next ≡ transition_offset (tree_in C m.outer.items of.0) s.transition →
      ((o : Noted) → HoldsNoted C false m.notes o →
      HoldsNoted C false new (without_name_if (clears_name s.output)
      (note_lines (is_header_root m.head.root) o (lines_at coding here)))) →
      NameBufferFits m.head.root next new.buffer new.name.items
  name_whole coding here next new going to notes =
      let T = tree_in C m.outer.items of.0 in
      let same = same_some fits_then.leaf h.leaf (sym fits_then.goes_on ∙ leads) in
      name_kept C (is_header_root m.head.root) m.head.root T (string_offset T h.leaf) next
      s.transition
      s.output
      (path_in [] (open_parts C here m.outer.items)) (here + 1) (m.piece.items ++ rest)
      (lines_at coding here) m.notes new going
      (subst (λ n. StringGoesOn (tree_at C n of.0) (string_offset (tree_at C n of.0) h.leaf)
      s.transition s.output (length (m.piece.items ++ rest))) same_room h.string_goes_on)
      to (says_at coding here) (λ none. fits_then.of_root.keyless none)
      (subst (λ n. NameBufferFits m.head.root (string_offset (tree_in C m.outer.items n) h.leaf)
      m.notes.buffer m.notes.name.items) h.same
      (subst (λ l. NameBufferFits m.head.root (string_offset (tree_in C m.outer.items (leaf_type l))
      l) m.notes.buffer m.notes.name.items) same fits_then.name)) notes

-- ---- the last octet, if all octets are counted

abbrev pub at_its_last : (now : Decoder) (count : ℕ) → Decoder
at_its_last now count =
    at_last now ((now.at + (count - 1)) % 8)
    (record { items = frames_after_octets (count - 1) now.outer.items })

pub held_behind : (C : Table) (d now : Decoder) (octets : List ℕ) (of : TypeId) (count at : ℕ)
    (s : Step) (rest : List ℕ) (outer : ArrayVec Frame) →
    HasHeldTogether C d now octets of count s rest →
    at ≡ (now.at + count) % 8 → FramesHear C (frames_after_octets count now.outer.items) outer.items
    of.0 s.output (now.piece.items ++ rest) →
    HasCountedOctet C (at_its_last now count) (at_last now at outer) of.0 s rest
held_behind C d now octets of count at s rest outer h there counted =
    let some = h.together.some in
    let all : suc (count - 1) ≡ count = omega (arith, some) in
    behind_last C d octets of count s rest h.fits (at_its_last now count) h.together
    (held_at_last C d now octets of count _ s rest _ h refl refl) (at_last now at outer) refl refl
    refl
    (omega (arith, there, some))
    (subst (λ fs. FramesHear C fs outer.items of.0 s.output (now.piece.items ++ rest))
    (ap (λ n. frames_after_octets n now.outer.items) (sym all)
    ∙ sym (octet_after_octets (count - 1) now.outer.items)) counted) refl refl refl refl

module _ (C : Table) (d now : Decoder) (octets : List ℕ) (of : TypeId) (count : ℕ) (s : Step)
    (rest : List ℕ) (h : HasHeldTogether C d now octets of count s rest) where
  pub held_around : FitsAroundPart C (at_its_last now count) of.0
  held_around = around_whole C d octets of count s rest h.fits (at_its_last now count) h.together
      (held_at_last C d now octets of count _ s rest _ h refl refl)

  -- the frames once the octets are counted
  pub held_known : AreKnown C (frames_after_octets count now.outer.items)
  held_known =
      let some = h.together.some in
      let all : suc (count - 1) ≡ count = omega (arith, some) in
      subst (AreKnown C) (octet_after_octets (count - 1) now.outer.items
      ∙ ap (λ n. frames_after_octets n now.outer.items) all)
      (known_after_octet C (frames_after_octets (count - 1) now.outer.items) held_around.ahead
      held_around.known_outer)

  pub held_room : length d.outer.items < 24
  held_room =
      let few = held_around.room in
      let same = length_after_octets (count - 1) now.outer.items in
      let outer = ap length h.outer in
      omega (arith, few, same, outer)

pub behind_gives : (C : Table) (d now : Decoder) (of : ℕ) (s : Step) (rest : List ℕ) (here at : ℕ)
    (lines : List ValueAt) → HasCountedOctet C d now of s rest →
    AreStepLines C d of s rest here at lines →
    AreStepLines C now of s rest (here + 1) at lines
behind_gives C d now of s rest here at lines b says =
    let frames = frames_after_octet d.outer.items in
    let piece = d.piece.items ++ rest in
    let path = path_in [] (open_parts C here d.outer.items) in
    let counted = places_after_octet C 24 here d.outer.items b.around.ahead b.around.known_outer in
    let tree = tree_after_octet C d.outer.items of in
    let said : IsOutput (tree_in C frames of) path at s.output piece lines = rw tree says in
    let heard = b.outer.parts (here + 1) at path lines said in
    let same : path_in [] (open_parts C (here + 1) now.outer.items) ≡ path =
    ap (path_in []) heard ∙ (path_heard lines [] (open_parts C (here + 1) frames)
    ∙ ap (path_in []) counted) in
    rw (same, ap (λ n. tree_at C (24 - n) of) b.outer.same, b.piece) said
