-- Octets that are taken together and only add to what a decoder holds.
use Rattle.std.proofs.Common.{◌≡◌, ℕ, suc, ◌+◌, ◌-◌, ◌%◌, ◌<◌, ◌≤◌, List, [], ◌∷◌, ◌++◌, length, Some, sym, ◌∙◌, ap, subst, append-nil, append_assoc, arith, length-append}
use Rattle.giop_cdr.specs.Numbers.{num}
use Rattle.giop_sig.specs.declared.types.TypeId.{TypeId}
use Rattle.giop_decode.specs.declared.decoder.Decoder.{Decoder}
use Rattle.giop_cdr.specs.declared.order.Order.{Order}
use Rattle.giop_decode.specs.declared.frame.Frame.{Frame}
use Rattle.giop_decode.specs.declared.leaf.Leaf.{Leaf as Innermost}
use Rattle.giop_decode.specs.declared.leaf.Leaf.TheVariants as innermost
use Rattle.giop_decode.specs.declared.progress.Progress.TheVariants as progress
use Rattle.giop_decode.specs.SeenState.{Fits, CanStandAt}
use Rattle.giop_decode.specs.Reading.{after_leading_number}
use Rattle.giop_decode.specs.Runs.{added_lines_of_run, AlwaysTakesWithoutLine}
use Rattle.giop_decode.specs.Pieces.{terminator_size}
use Rattle.giop_decode.specs.ReadResult.{Coding, lines_of}
use Rattle.giop_decode.specs.ReadingSteps.{after_number, coding_in, leading_width, LeavesNumberIncomplete}
use Rattle.giop_decode.specs.Transitions.{innermost_coding, open_parts, tree_in, frames_after_octet, frames_after_octets, HaveOctetsLeft, HoldsOnlyItsOwn}
use Rattle.giop_decode.proofs.Advancing.{own_coding, own_stands, same_some}
use Rattle.giop_decode.proofs.Counting.{ahead_first, coding_after_octet, octets_after_octet, after_no_octets}
use Rattle.giop_decode.proofs.PieceLaws.{content_held}
use Rattle.giop_decode.proofs.Runs.{dues_both, dues_none, takes_one, takes_both}
use Rattle.giop_decode.proofs.Surrounding.{coded_in, tree_after_octet}
use Rattle.giop_decode.proofs.Taking.{takes_to, due_is}
use Rattle.giop_decode.proofs.PartialBlocks.{HoldsOctet, step_held, held_comes, held_here, held_fits, held_keeps_noted}
use Rattle.giop_sig.specs.Table.{Table}
use Rattle.giop_sig.specs.Types.{Ty}

-- The decoder `new` is `d` after `count` more octets: it is in the same innermost part, inside
-- these frames, and may hold other octets.
pub record IsFurther (d new : Decoder) (count : ℕ) (frames : List Frame) : Type 0 where
  pub order : new.order ≡ d.order
  pub head : new.head ≡ d.head
  pub forbids_wide : new.forbids_wide ≡ d.forbids_wide
  pub at : new.at ≡ (d.at + count) % 8
  pub outer : new.outer.items ≡ frames
  pub inside : new.inside ≡ d.inside
  pub leaf : new.leaf ≡ d.leaf
  pub notes : new.notes ≡ d.notes

-- `count` octets were counted in each encapsulation, and none has ended
abbrev pub IsCountedBy : (d new : Decoder) (count : ℕ) → Type 0
IsCountedBy d new count =
    IsFurther d new count (frames_after_octets count d.outer.items)
    × HaveOctetsLeft (frames_after_octets count d.outer.items)

module _ (C : Table) (d new : Decoder) where
  still_here : (coding : Coding) (here : ℕ) → IsFurther d new 0 d.outer.items → d.at < 8 →
      CanStandAt coding d here → CanStandAt coding new here
  still_here coding here on small h = search (arith)

  -- taking no octet
  pub none_gathered : IsFurther d new 0 d.outer.items → new.carry ≡ d.carry →
      new.piece.items ≡ d.piece.items →
      Fits C d → Fits C new × AlwaysTakesWithoutLine C d new []
  none_gathered on carry piece f = search (arith, still_here, append-nil, dues_none)

  -- counting no octet
  pub none_counted : IsCountedBy d new 0 → new.carry ≡ d.carry → new.piece.items ≡ d.piece.items →
      Fits C d → Fits C new × AlwaysTakesWithoutLine C d new []
  none_counted on carry piece f = none_gathered
      (subst (IsFurther d new 0) (after_no_octets d.outer.items) on.0) carry piece f

module _ (C : Table) (d new : Decoder) (leaf : Innermost) (b : ℕ) where
  -- taking one octet that is held, at which no encapsulation ends
  one_gathered : HaveOctetsLeft (frames_after_octet d.outer.items) →
      IsFurther d new 1 (frames_after_octet d.outer.items) →
      Fits C d → d.leaf ≡ Some leaf → HoldsOnlyItsOwn leaf new.carry new.piece.items →
      ((coding : Coding) (here : ℕ) → CanStandAt coding d here →
      HoldsOctet coding C d new leaf here b) →
      Fits C new × AlwaysTakesWithoutLine C d new (b ∷ [])
  one_gathered ahead on f e clean holds =
      let e' = on.leaf ∙ e in (
        held_fits C d new leaf b ahead f e e' on.outer on.head on.forbids_wide on.notes on.inside
            on.order on.at clean
            (holds (own_coding d f.here) f.here (own_stands C d f)),
        λ T coding at message root s r. record {
          takes = takes_one C T coding at message root new s b progress.More
              (takes_to C T coding at message root d new s b progress.More f on.head on.forbids_wide
              (λ here h. held_here C d new leaf b ahead f e e' on.outer coding here on.order on.at
              h)
              (λ here h. held_comes C d new leaf b ahead f e e' on.outer coding here h
              (holds coding here h))
              (λ here front h old. held_keeps_noted C d new leaf b ahead f e e' on.outer coding here
              front on.notes h (holds coding here h) old) r);
          quiet = due_is C T coding at message root d s b f r
              ∙ ap lines_of (step_held C d new leaf b ahead f e e' on.outer coding (at + length s)
              r.offset (holds coding (at + length s) r.offset));
        },
      )

  -- taking one octet and then the others
  then_gathered : (mid : Decoder) (bs : List ℕ) → AlwaysTakesWithoutLine C d mid (b ∷ []) →
      AlwaysTakesWithoutLine C mid new bs → AlwaysTakesWithoutLine C d new (b ∷ bs)
  then_gathered mid bs g h T coding at message root s r =
      let one = g T coding at message root s r in
      let others = h T coding at message root (s ++ b ∷ []) (one.takes.reads (λ fault. fault)) in
      record {
        takes = takes_both C T coding at message root new s (b ∷ []) bs progress.More
            one.takes.answers others.takes;
        quiet = dues_both coding T at s (b ∷ []) bs
            ∙ (ap (λ z. z ++ added_lines_of_run coding T at (s ++ b ∷ []) bs) one.quiet
            ∙ others.quiet);
      }

-- the decoder after the first of several octets
abbrev next_in : (d : Decoder) (carry piece : List ℕ) → Decoder
next_in d carry piece = record {
  order = d.order;
  head = d.head;
  at = (d.at + 1) % 8;
  forbids_wide = d.forbids_wide;
  outer = record { items = frames_after_octet d.outer.items };
  inside = d.inside;
  leaf = d.leaf;
  carry = carry;
  piece = record { items = piece };
  notes = d.notes;
}

next_on : (d : Decoder) (carry piece : List ℕ) →
    IsFurther d (next_in d carry piece) 1 (frames_after_octet d.outer.items)
next_on d carry piece = search (arith)

others_on : (d new : Decoder) (carry piece : List ℕ) (count : ℕ) →
    IsCountedBy d new (suc count) → IsCountedBy (next_in d carry piece) new count
others_on d new carry piece count on = search (arith, octets_after_octet)

-- ---- octets of a content

-- While a piece is incomplete, at most `most` of its octets are held. So it is for a full piece,
-- and for a last piece together with what ends it.
module _ (C : Table) (of : TypeId) (total offset most : ℕ) (T : Ty)
    (full : 32 < total - offset → most < 32)
    (last : total - offset ≤ 32 → most < total - offset + terminator_size T) where
  pub waits_gathered : (d new : Decoder) (octets : List ℕ) →
      tree_in C d.outer.items of.0 ≡ T → IsCountedBy d new (length octets) →
      new.carry ≡ d.carry → new.piece.items ≡ d.piece.items ++ octets → Fits C d →
      d.leaf ≡ Some (innermost.Content of total offset) →
      length d.piece.items + length octets ≤ most →
      Fits C new × AlwaysTakesWithoutLine C d new octets
  waits_gathered d new [] same on carry piece f e room =
      none_counted C d new on carry (piece ∙ append-nil d.piece.items) f
  waits_gathered d new (b ∷ bs) same on carry piece f e room =
      let leaf = innermost.Content of total offset in
      let held = d.piece.items ++ b ∷ [] in
      let l = length-append d.piece.items (b ∷ []) in
      let mid = next_in d d.carry held in
      let it : f.leaf ≡ leaf = same_some f.leaf leaf (sym f.goes_on ∙ e) in
      let clean : HoldsOnlyItsOwn leaf d.carry d.piece.items =
      subst (λ x. HoldsOnlyItsOwn x d.carry d.piece.items) it f.clean in
      let one = one_gathered C d mid leaf b (ahead_first (length bs) d.outer.items on.1)
      (next_on d d.carry held) f e clean
      (λ coding here h path. content_held (tree_in C d.outer.items of.0) path total offset here
      d.piece.items b
      (λ large. omega (arith, full large, room))
      (λ small. omega (arith, last small, room, ap terminator_size same))) in
      let others = waits_gathered mid new bs (tree_after_octet C d.outer.items of.0 ∙ same)
      (others_on d
      new d.carry held (length bs) on) carry
      (piece ∙ sym (append_assoc d.piece.items (b ∷ []) bs)) one.0 e (omega (arith, l, room)) in
      (others.0, then_gathered C d new leaf b mid bs one.1 others.1)

-- ---- octets of a number, or of the padding before it

pub number_counted : (C : Table) (of : TypeId) (d new : Decoder) (octets : List ℕ) →
    IsCountedBy d new (length octets) → new.piece.items ≡ d.piece.items → Fits C d →
    d.leaf ≡ Some (innermost.Number of) →
    LeavesNumberIncomplete (leading_width (tree_in C d.outer.items of.0))
    (innermost_coding d.order d.at d.outer.items).1
    d.carry octets new.carry → Fits C new × AlwaysTakesWithoutLine C d new octets
number_counted C of d new [] on piece f e held = none_counted C d new on held piece f
number_counted C of d new (b ∷ bs) on piece f e held =
    let leaf = innermost.Number of in
    let mid = next_in d held.0 d.piece.items in
    let it : f.leaf ≡ leaf = same_some f.leaf leaf (sym f.goes_on ∙ e) in
    let clean : HoldsOnlyItsOwn leaf d.carry d.piece.items =
    subst (λ l. HoldsOnlyItsOwn l d.carry d.piece.items) it f.clean in
    let one = one_gathered C d mid leaf b (ahead_first (length bs) d.outer.items on.1)
    (next_on d held.0 d.piece.items) f e clean (λ coding here h path.
    let c = coding_in coding (open_parts C here d.outer.items) in
    let k = coded_in C 24 here coding d.order d.at d.outer.items f.known_outer h.outer
    (record { order = sym h.order; at = h.phase }) in
    let T = tree_in C d.outer.items of.0 in
    ap (after_leading_number T (λ xs at rest. after_number c path T (num c.order xs) at rest))
    (held.1 c.phase here k.at)) in
    let rest = subst (λ (c : Order × ℕ). LeavesNumberIncomplete
    (leading_width (tree_in C (frames_after_octet d.outer.items)
    of.0)) c.1 held.0 bs new.carry) (sym (coding_after_octet d.order d.at d.outer.items))
    (subst (λ T. LeavesNumberIncomplete (leading_width T)
    (((innermost_coding d.order d.at d.outer.items).1 + 1)
    % 8) held.0 bs new.carry) (sym (tree_after_octet C d.outer.items of.0)) held.2) in
    let others = number_counted C of mid new bs
    (others_on d new held.0 d.piece.items (length bs) on) piece one.0 e rest in
    (others.0, then_gathered C d new leaf b mid bs one.1 others.1)
