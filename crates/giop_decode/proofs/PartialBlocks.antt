-- An octet that only adds to what is held.
use Rattle.giop_decode.specs.Reading.{none_left, done_if_untyped}
use Rattle.std.proofs.Common.{◌≡◌, ℕ, ◌+◌, ◌%◌, List, [], Some, sym, ◌∙◌, append-nil, arith, ap}
use Rattle.arrayvec.specs.ArrayVec.{ArrayVec}
use Rattle.giop_decode.specs.declared.decoder.Decoder.{Decoder}
use Rattle.giop_decode.specs.declared.leaf.Leaf.{Leaf as Innermost}
use Rattle.giop_decode.specs.declared.progress.Progress.TheVariants as progress
use Rattle.giop_decode.specs.SeenState.{Fits, CanStandAt, KeepsNoted, read_by_fields}
use Rattle.giop_decode.specs.DecoderSteps.{decoder_step, AgreesWithReading, leaf_in}
use Rattle.giop_decode.specs.ReadResult.{Coding, ValueAt, PathSegment, Short, with_front}
use Rattle.giop_decode.specs.ReadingSteps.{coding_in, leaf_step, root_step, resume_outer, parts_after_lines, path_in}
use Rattle.giop_decode.specs.Transitions.{open_parts, leaf_of, leaf_type, frames_after_octet, HaveOctetsLeft, AreKnown, HoldsOnlyItsOwn}
use Rattle.giop_decode.proofs.Advancing.{one_further, own_coding, own_stands, same_some, step_fits}
use Rattle.giop_decode.proofs.Noting.{leaf_inside}
use Rattle.giop_decode.proofs.Around.{around-short, heard_none}
use Rattle.giop_decode.proofs.Surrounding.{inside_after_octet, known_after_octet, leaf_after_octet, places_after_octet, stand_after_octet, surrounds, tree_after_octet}
use Rattle.giop_decode.proofs.Linking.{link_after_octet}
use Rattle.giop_sig.specs.Table.{Table}

-- the decoder with these held octets in place of its own
abbrev pub with_held : (d : Decoder) (carry : List ℕ) (piece : ArrayVec ℕ) → Decoder
with_held d carry piece = record {
  order = d.order;
  head = d.head;
  at = d.at;
  forbids_wide = d.forbids_wide;
  outer = d.outer;
  inside = d.inside;
  leaf = d.leaf;
  carry = carry;
  piece = piece;
  notes = d.notes;
}

-- the innermost part goes on after the octet, with what is now held
abbrev pub HoldsOctet : (coding : Coding) (C : Table) (d new : Decoder) (leaf : Innermost)
    (here octet : ℕ) → Type 0
HoldsOctet coding C d new leaf here octet = (path : List PathSegment) →
    leaf_step (coding_in coding (open_parts C here d.outer.items)) path
    (leaf_of C d.outer.items leaf d.carry d.piece.items) here octet
    ≡ Short [] (here + 1) [] (leaf_of C d.outer.items leaf new.carry new.piece.items)

-- an octet that is counted in each encapsulation, and at which none ends
module _ (C : Table) (d new : Decoder) (leaf : Innermost) (octet : ℕ)
    (on : HaveOctetsLeft (frames_after_octet d.outer.items)) (f : Fits C d) (e : d.leaf ≡ Some leaf)
    (e' : new.leaf ≡ Some leaf) (counts : new.outer.items ≡ frames_after_octet d.outer.items) where
  known_on : AreKnown C (frames_after_octet d.outer.items)
  known_on = search (arith, known_after_octet)

  pub step_held : (coding : Coding) (here : ℕ) → CanStandAt coding d here →
      HoldsOctet coding C d new leaf here octet → decoder_step coding C d here octet
      ≡ Short [] (here + 1) (open_parts C (here + 1) new.outer.items)
      (leaf_of C d.outer.items leaf new.carry new.piece.items)
  step_held coding here h holds =
      let ps = open_parts C here d.outer.items in
      let qs = open_parts C (here + 1) (frames_after_octet d.outer.items) in
      let held = leaf_of C d.outer.items leaf new.carry new.piece.items in
      let stands = surrounds C 24 (here + 1) (frames_after_octet d.outer.items) known_on on
      (stand_after_octet here d.outer.items h.outer) in
      ap (λ l. root_step coding [] ps (leaf_in C d l) here octet) e
      ∙ ap (done_if_untyped none_left) (ap (resume_outer coding [] ps) (holds (path_in [] ps))
      ∙ (ap (λ zs. resume_outer coding [] zs (Short [] (here + 1) [] held))
      (sym (places_after_octet C 24 here d.outer.items f.ahead f.known_outer))
      ∙ (around-short coding [] qs [] (here + 1) [] held stands
      ∙ (ap (λ zs. Short [] (here + 1) zs held) (append-nil (parts_after_lines [] qs)
      ∙ heard_none qs)
      ∙ ap (λ fs. Short [] (here + 1) (open_parts C (here + 1) fs) held) (sym counts)))))

  held_stands : (coding : Coding) (here : ℕ) → CanStandAt coding d here →
      HoldsOctet coding C d new leaf here octet →
      decoder_step coding C d here octet ≡ read_by_fields C new [] (here + 1)
  held_stands coding here h holds = search (arith, step_held, leaf_after_octet)

  pub held_comes : (coding : Coding) (here : ℕ) → CanStandAt coding d here →
      HoldsOctet coding C d new leaf here octet →
      AgreesWithReading C new progress.More (here + 1) (decoder_step coding C d here octet)
  held_comes coding here h holds = search (arith, held_stands)

  pub held_here : (coding : Coding) (here : ℕ) → new.order ≡ d.order → new.at ≡ (d.at + 1) % 8 →
      CanStandAt coding d here → CanStandAt coding new (here + 1)
  held_here coding here order at h = one_further coding d new here order at
      (rw counts (stand_after_octet here d.outer.items h.outer)) h

  pub held_fits : new.head ≡ d.head → new.forbids_wide ≡ d.forbids_wide → new.notes ≡ d.notes →
      new.inside ≡ d.inside → new.order ≡ d.order →
      new.at ≡ (d.at + 1) % 8 →
      HoldsOnlyItsOwn leaf new.carry new.piece.items →
      HoldsOctet (own_coding d f.here) C d new leaf f.here octet → Fits C new
  held_fits root forbids_wide notes encloses order at clean holds =
      let it : f.leaf ≡ leaf = same_some f.leaf leaf (sym f.goes_on ∙ e) in
      let own = own_coding d f.here in
      let stands = own_stands C d f in
      step_fits C d new f octet own (record {
        lines = [];
        is = held_stands own f.here stands holds;
        leaf =
            leaf;
        goes_on = e';
      })
      (forbids_wide ∙ f.forbids_wide) (held_here own f.here order at stands) (rw counts on)
      (rw (encloses, counts, inside_after_octet d.outer.items) f.inside)
      (rw (counts, ← it) (link_after_octet C f.root d.outer.items (leaf_type f.leaf) f.link))
      (rw counts known_on) (rw (← it) f.known) clean (rw (root, notes) f.of_root)
      (rw (root, notes, counts, tree_after_octet C d.outer.items (leaf_type leaf), ← it) f.name)

  pub held_keeps_noted : (coding : Coding) (here : ℕ) (front : List ValueAt) → new.notes ≡ d.notes →
      CanStandAt coding d here → HoldsOctet coding C d new leaf here octet →
      KeepsNoted C d.head.root d (read_by_fields C d front here) →
      KeepsNoted C d.head.root new (with_front front (decoder_step coding C d here octet))
  held_keeps_noted coding here front notes h holds old =
      search (arith, leaf_inside, step_held, append-nil)
