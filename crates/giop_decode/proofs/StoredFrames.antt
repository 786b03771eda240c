-- The frames of a stored decoder, and its innermost part, are read as they were written.
use Rattle.std.proofs.Common.{◌≡◌, ℕ, ◌+◌, ◌*◌, ◌^◌, ◌<◌, ◌≤◌, List, [], ◌∷◌, ◌++◌, length, drop, replicate, Option, refl, sym, ap, ◌∙◌, append_assoc, arith, length-append}
use Rattle.std.specs.List.{AllByRecursion}
use Rattle.std.proofs.lemmas.List.{append-nil}
use Rattle.giop_cdr.specs.declared.order.Order.{Order}
use Rattle.giop_decode.specs.declared.frame.Frame.{Frame}
use Rattle.giop_decode.specs.declared.frame.Stage.{Stage}
use Rattle.giop_decode.specs.declared.leaf.Leaf.{Leaf as Innermost}
use Rattle.giop_decode.specs.declared.leaf.Leaf.TheVariants as innermost
use Rattle.giop_decode.specs.declared.notes.Last.{Last}
use Rattle.giop_decode.specs.declared.notes.Last.TheVariants as lasts
use Rattle.giop_decode.specs.Stored.{saved_leaf, saved_last, saved_inside, saved_stage, frame_size, saved_frame, saved_frames, FrameHasRange, LeafHasRange, LastHasRange}
use Rattle.giop_decode.proofs.StoredFields.{frame_long, further, three}
use Rattle.giop_octets.specs.Fields.{four}
use Rattle.giop_octets.proofs.FieldLaws.{four_long, behind}
use Rattle.giop_sig.specs.Table.{interface_id, type_id}

-- n is the number of the four octets at this offset
abbrev ReadsFour : (at : ℕ) (octets : List ℕ) (n : ℕ) → Type 0
ReadsFour at octets n = (m : ℕ) (rest : List ℕ) → m < 2 ^ 32 → drop at octets ≡ four m ++ rest →
    n ≡ m

four_fields : (a b c d e : List ℕ) → (a ++ b ++ c ++ d) ++ e ≡ a ++ (b ++ (c ++ (d ++ e)))
four_fields a b c d e = simp append_assoc

-- ---- the innermost part

-- the three numbers after the tag of an innermost part
numbers_stand : (at tag a b c : ℕ) (octets rest : List ℕ) →
    drop at octets ≡ (tag ∷ four a ++ four b ++ four c) ++ rest →
    (drop (at + 1) octets ≡ four a ++ (four b ++ (four c ++ rest)))
    × (drop (at + 5) octets ≡ four b ++ (four c ++ rest)) × (drop (at + 9) octets ≡ four c ++ rest)
numbers_stand at tag a b c octets rest is =
    let first : drop (at + 1) octets ≡ four a ++ (four b ++ (four c ++ rest)) =
    behind at 1 octets (tag ∷ []) _ is refl ∙ three (four a) (four b) (four c) rest in
    let second : drop (at + 5) octets ≡ four b ++ (four c ++ rest) =
    further at 1 4 5 octets _ refl (behind (at + 1) 4 octets _ _ first (four_long a)) in (
      first,
      second,
      further at 5 4 9 octets _ refl
          (behind (at + 5) 4 octets _ _ second (four_long b)),
    )

-- an innermost part whose tag and type were read
module _ (at of tag : ℕ) (octets rest : List ℕ)
    (tag_is : (n : ℕ) (rest : List ℕ) → drop at octets ≡ n ∷ rest → tag ≡ n)
    (of_is : ReadsFour (at + 1) octets of) where
  pub number_again : (leaf : Innermost) → LeafHasRange leaf →
      drop at octets ≡ saved_leaf leaf ++ rest → tag ≡ 0 → innermost.Number (type_id of) ≡ leaf
  number_again (innermost.Number t) range is zero_tag = search (arith, numbers_stand)
  number_again (innermost.Content t total offset) range is zero_tag = search (arith)
  number_again (innermost.Opening t count) range is zero_tag = search (arith)

  pub opening_again : (leaf : Innermost) (count : ℕ) → LeafHasRange leaf →
      drop at octets ≡ saved_leaf leaf ++ rest → tag ≡ 2 → ReadsFour (at + 5) octets count →
      innermost.Opening (type_id of) count ≡ leaf
  opening_again (innermost.Number t) count range is two count_is = search (arith)
  opening_again (innermost.Content t total offset) count range is two count_is = search (arith)
  opening_again (innermost.Opening t k) count range is two count_is = search (arith, numbers_stand)

  pub content_again : (leaf : Innermost) (total offset : ℕ) → LeafHasRange leaf →
      drop at octets ≡ saved_leaf leaf ++ rest → (tag ≡ 0 → ⊥) → (tag ≡ 2 → ⊥) →
      ReadsFour (at + 5) octets total → ReadsFour (at + 9) octets offset →
      innermost.Content (type_id of) total offset ≡ leaf
  content_again (innermost.Opening t count) total offset range is other third total_is offset_is =
      search (arith)
  content_again (innermost.Number t) total offset range is other third total_is offset_is = search
      (arith)
  content_again (innermost.Content t k o) total offset range is other third total_is offset_is =
      search (arith, numbers_stand)

-- ---- the number of an enum, or of an interface

-- the number after the tag
number_stands : (at tag n : ℕ) (octets rest : List ℕ) → drop at octets ≡ (tag ∷ four n) ++ rest →
    drop (at + 1) octets ≡ four n ++ rest
number_stands at tag n octets rest is = behind at 1 octets (tag ∷ []) _ is refl

module _ (at tag : ℕ) (octets rest : List ℕ)
    (tag_is : (n : ℕ) (rest : List ℕ) → drop at octets ≡ n ∷ rest → tag ≡ n) where
  pub nothing_again : (last : Last) → drop at octets ≡ saved_last last ++ rest → tag ≡ 0 →
      lasts.Nothing ≡ last
  nothing_again lasts.Nothing is zero_tag = refl
  nothing_again (lasts.Status n) is zero_tag = search (arith)
  nothing_again (lasts.Interface i) is zero_tag = search (arith)

  pub status_again : (last : Last) (number : ℕ) → ReadsFour (at + 1) octets number →
      LastHasRange last → drop at octets ≡ saved_last last ++ rest → tag ≡ 1 →
      lasts.Status number ≡ last
  status_again lasts.Nothing number reads range is one_tag = search (arith)
  status_again (lasts.Status n) number reads range is one_tag = search (arith, number_stands)
  status_again (lasts.Interface i) number reads range is one_tag = search (arith)

  pub interface_again : (last : Last) (number : ℕ) → ReadsFour (at + 1) octets number →
      LastHasRange last → drop at octets ≡ saved_last last ++ rest → (tag ≡ 0 → ⊥) →
      (tag ≡ 1 → ⊥) → lasts.Interface (interface_id number) ≡ last
  interface_again lasts.Nothing number reads range is other third = search (arith)
  interface_again (lasts.Status n) number reads range is other third = search (arith)
  interface_again (lasts.Interface i) number reads range is other third =
      search (arith, number_stands)

-- ---- frames

pub frame_again : (f : Frame) (of index count : ℕ) (inside : Option Order) (told : Option Stage)
    (octets rest : List ℕ) → FrameHasRange f → octets ≡ saved_frame f ++ rest → ReadsFour 0 octets
    of →
    ReadsFour 4 octets index → ReadsFour 8 octets count →
    ((i : Option Order) (rest : List ℕ) → drop 12 octets ≡ saved_inside i ∷ rest → inside ≡ i) →
    ((t : Option Stage) (rest : List ℕ) → drop 13 octets ≡ saved_stage t ∷ rest → told ≡ t) →
    record { of = type_id of; index = index; count = count; inside = inside; told = told } ≡ f
frame_again f of index count inside told octets rest range is of_is index_is count_is inside_is
    told_is =
    let last : List ℕ = saved_inside f.inside ∷ saved_stage f.told ∷ replicate 10 0 in
    let first : drop 0 octets ≡ four f.of.0 ++ (four f.index ++ (four f.count ++ (last ++ rest))) =
    is
    ∙ four_fields (four f.of.0) (four f.index) (four f.count) last rest in
    let second : drop 4 octets ≡ four f.index ++ (four f.count ++ (last ++ rest)) =
    behind 0 4 octets _ _ first (four_long f.of.0) in
    let third : drop 8 octets ≡ four f.count ++ (last ++ rest) =
    behind 4 4 octets _ _ second (four_long f.index) in
    let fourth : drop 12 octets ≡ last ++ rest = behind 8 4 octets _ _ third (four_long f.count) in
    let a : of ≡ f.of.0 = of_is f.of.0 _ range.of first in
    let b : index ≡ f.index = index_is f.index _ range.index second in
    let c : count ≡ f.count = count_is f.count _ range.count third in
    let d : inside ≡ f.inside = inside_is f.inside _ fourth in
    let e : told ≡ f.told = told_is f.told _
    (behind 12 1 octets (saved_inside f.inside ∷ []) _ fourth refl) in
    rw (a, b, c, d, e) refl

-- the frames that are still to be read, before the last one
pub record FramesLeft (all items : List Frame) (own : Frame) (octets : List ℕ) : Type 0 where
  pub left : List Frame
  pub range : AllByRecursion FrameHasRange left
  pub octets_are : octets ≡ saved_frames (left ++ own ∷ [])
  pub all_are : all ≡ items ++ left

two_long : (g h : Frame) (gs : List Frame) →
    2 * frame_size ≤ length (saved_frames (g ∷ gs ++ h ∷ []))
two_long g h [] = search (arith, length-append, frame_long)
two_long g h (k ∷ gs) = search (arith, length-append, frame_long, two_long k h gs)

pub frame_more : (all items new : List Frame) (own f : Frame) (octets after : List ℕ) →
    FramesLeft all items own octets → 2 * frame_size ≤ length octets → after
    ≡ drop frame_size octets →
    new ≡ items ++ f ∷ [] → ((g : Frame) (rest : List ℕ) → FrameHasRange g →
    octets ≡ saved_frame g ++ rest → f ≡ g) → FramesLeft all new own after
frame_more all items new own f octets after l long is pushed read =
    by_left l.left l.range l.octets_are l.all_are
  where
    by_left : (left : List Frame) → AllByRecursion FrameHasRange left →
        octets ≡ saved_frames (left ++ own ∷ []) → all ≡ items ++ left →
        FramesLeft all new own after
    by_left [] range e a = search (arith, length-append, frame_long)
    by_left (g ∷ gs) range e a = record {
      left = gs;
      range = range.1;
      octets_are = is ∙ behind 0 frame_size octets (saved_frame g) _ e (frame_long g);
      all_are = a ∙ ap (λ (x : Frame). items ++ x ∷ gs) (sym (read g _ range.0 e))
          ∙ sym (append_assoc items (f ∷ []) gs)
          ∙ ap (λ (xs : List Frame). xs ++ gs) (sym pushed);
    }

-- no frame is left if there are octets of less than two frames, or if there is no room for more
-- frames
pub frames_ended : (all items : List Frame) (own : Frame) (octets : List ℕ) →
    FramesLeft all items own octets → length all < 24 →
    (2 * frame_size ≤ length octets → length items ≡ 24) → items ≡ all
frames_ended all items own octets l few ended = by_left l.left l.octets_are l.all_are
  where
    by_left : (left : List Frame) → octets ≡ saved_frames (left ++ own ∷ []) →
        all ≡ items ++ left → items ≡ all
    by_left [] e a = sym (a ∙ append-nil items)
    by_left (g ∷ gs) e a = search (arith, two_long, length-append)
