-- Octets counted together in the encapsulations among a decoder's frames.
use Rattle.std.proofs.Common.{◌≡◌, ℕ, suc, ◌+◌, ◌%◌, ◌<◌, ◌≤◌, List, [], ◌∷◌, ◌++◌, length, take, get_or, Option, Some, None, refl, ◌∙◌, ap, arith}
use Rattle.std.specs.Prelude.{IfSome}
use Rattle.std.proofs.lemmas.List.{map-append, take_more}
use Rattle.giop_cdr.specs.declared.order.Order.{Order}
use Rattle.giop_decode.specs.declared.frame.Within.TheVariants as withins
use Rattle.giop_decode.specs.declared.frame.Frame.{Frame}
use Rattle.giop_decode.specs.Transitions.{HasOctetsLeft, HaveOctetsLeft, innermost_coding, coding_in_frame, within_of, frame_after_octet, frame_after_octets, frames_after_octet, index_after_octet, frames_after_octets, index_after_octets}
use Rattle.giop_decode.proofs.Surrounding.{free_first}

none_at : (inside : Option Order) (i : ℕ) → index_after_octets 0 inside i ≡ i
none_at None i = refl
none_at (Some order) i = omega arith

one_none : (f : Frame) → frame_after_octets 0 f ≡ f
one_none f = search (arith, none_at)

pub after_no_octets : (frames : List Frame) → frames_after_octets 0 frames ≡ frames
after_no_octets [] = refl
after_no_octets (f ∷ frames) = rw (one_none f, after_no_octets frames) refl

more_at : (n : ℕ) (inside : Option Order) (i : ℕ) →
    index_after_octets n inside (index_after_octet inside i) ≡ index_after_octets (suc n) inside i
more_at n None i = refl
more_at n (Some order) i = omega arith

one_more : (n : ℕ) (f : Frame) → frame_after_octets n (frame_after_octet f)
    ≡ frame_after_octets (suc n) f
one_more n f = search (arith, more_at)

-- counting one octet and then n octets is counting n + 1 octets
pub octets_after_octet : (n : ℕ) (frames : List Frame) →
    frames_after_octets n (frames_after_octet frames) ≡ frames_after_octets (suc n) frames
octets_after_octet n [] = refl
octets_after_octet n (f ∷ frames) = rw (one_more n f, octets_after_octet n frames) refl

after_at : (n : ℕ) (inside : Option Order) (i : ℕ) →
    index_after_octet inside (index_after_octets n inside i) ≡ index_after_octets (suc n) inside i
after_at n None i = refl
after_at n (Some order) i = omega arith

after_one : (n : ℕ) (f : Frame) → frame_after_octet (frame_after_octets n f)
    ≡ frame_after_octets (suc n) f
after_one n f = rw (after_at n f.inside f.index) refl

-- counting n octets and then one octet is counting n + 1 octets
pub octet_after_octets : (n : ℕ) (frames : List Frame) →
    frames_after_octet (frames_after_octets n frames) ≡ frames_after_octets (suc n) frames
octet_after_octets n [] = refl
octet_after_octets n (f ∷ frames) = rw (after_one n f, octet_after_octets n frames) refl

pub length_after_octets : (n : ℕ) (frames : List Frame) →
    length (frames_after_octets n frames) ≡ length frames
length_after_octets n [] = refl
length_after_octets n (f ∷ frames) = ap suc (length_after_octets n frames)

fewer_at : (m n : ℕ) (inside : Option Order) (i count : ℕ) → m ≤ n →
    IfSome inside (λ order. index_after_octets n inside i < count) →
    IfSome inside (λ order. index_after_octets m inside i < count)
fewer_at m n None i count le h = tt
fewer_at m n (Some order) i count le h = omega (arith, le, h)

-- if octets are still to come after n octets, they are still to come after fewer
pub ahead_fewer : (m n : ℕ) (frames : List Frame) → m ≤ n →
    HaveOctetsLeft (frames_after_octets n frames) →
    HaveOctetsLeft (frames_after_octets m frames)
ahead_fewer m n [] le h = tt
ahead_fewer m n (f ∷ frames) le h = search (arith, fewer_at, ahead_fewer m n frames le h.1)

first_at : (n : ℕ) (inside : Option Order) (i count : ℕ) →
    IfSome inside (λ order. index_after_octets (suc n) inside i < count) →
    IfSome inside (λ order. index_after_octet inside i < count)
first_at n None i count h = tt
first_at n (Some order) i count h = omega (arith, h)

-- if octets are still to come after several octets, they are still to come after the first one
pub ahead_first : (n : ℕ) (frames : List Frame) →
    HaveOctetsLeft (frames_after_octets (suc n) frames) →
    HaveOctetsLeft (frames_after_octet frames)
ahead_first n [] h = tt
ahead_first n (f ∷ frames) h = search (arith, first_at, ahead_first n frames h.1)

free_at : (n : ℕ) (inside : Option Order) (i : ℕ) → inside ≡ None → index_after_octets n inside i
    ≡ i
free_at n inside i h = rw h refl

pub free_after_octets : (n : ℕ) (frames : List Frame) → within_of frames ≡ withins.Nothing →
    frames ≡ frames_after_octets n frames
free_after_octets n [] h = refl
free_after_octets n (f ∷ frames) h =
    let k = free_first f frames h in
    let one : f ≡ frame_after_octets n f = rw (free_at n f.inside f.index k.0) refl in
    ap (λ g. g ∷ frames) one ∙ ap (λ fs. frame_after_octets n f ∷ fs)
    (free_after_octets n frames k.2)

-- outside encapsulations octets are still to come, however many are counted
pub ahead_free : (n : ℕ) (frames : List Frame) → within_of frames ≡ withins.Nothing → HaveOctetsLeft
    frames →
    HaveOctetsLeft (frames_after_octets n frames)
ahead_free n frames h ahead = search (arith, free_after_octets)

-- If the frames before an index have octets left after `before` octets, and the frame at the index
-- after `now`, then all these frames have octets left after `now`.
pub before_more : (outer : List Frame) (i before now : ℕ) (d : Frame) → i < length outer →
    now ≤ before → HaveOctetsLeft (frames_after_octets before (take i outer)) →
    HasOctetsLeft (frame_after_octets now (get_or outer i d)) →
    HaveOctetsLeft (frames_after_octets now (take (i + 1) outer))
before_more outer i before now d below le h one =
    let f = get_or outer i d in
    rw (take_more outer i d below, map-append (frame_after_octets now) (take i outer) (f ∷ []))
    (push (frames_after_octets now (take i outer)) (frame_after_octets now f)
    (ahead_fewer now before (take i outer) le h) one)
  where
    push : (frames : List Frame) (f : Frame) → HaveOctetsLeft frames → HasOctetsLeft f →
        HaveOctetsLeft (frames ++ f ∷ [])
    push [] f h k = (k, tt)
    push (g ∷ frames) f h k = (h.0, push frames f h.1 k)

-- ---- how the innermost part's octets are taken

coding_next : (order : Order) (at : ℕ) (inside : Option Order) (i : ℕ) →
    coding_in_frame (order, (at + 1) % 8) inside (index_after_octet inside i)
    ≡ ((coding_in_frame (order, at) inside i).0, ((coding_in_frame (order, at) inside i).1 + 1) % 8)
coding_next order at None i = refl
coding_next order at (Some inner) i = search (arith)

-- after one octet the alignment is one octet further on
pub coding_after_octet : (order : Order) (at : ℕ) (frames : List Frame) →
    innermost_coding order ((at + 1) % 8) (frames_after_octet frames)
    ≡ ((innermost_coding order at frames).0, ((innermost_coding order at frames).1 + 1) % 8)
coding_after_octet order at [] = refl
coding_after_octet order at (f ∷ frames) =
    let c = coding_in_frame (order, at) f.inside f.index in
    ap (λ (k : Order × ℕ). innermost_coding k.0 k.1 (frames_after_octet frames))
    (coding_next order at f.inside f.index) ∙ coding_after_octet c.0 c.1 frames

coding_later : (n : ℕ) (order : Order) (at : ℕ) (inside : Option Order) (i : ℕ) →
    coding_in_frame (order, (at + n) % 8) inside (index_after_octets n inside i)
    ≡ ((coding_in_frame (order, at) inside i).0, ((coding_in_frame (order, at) inside i).1 + n) % 8)
coding_later n order at None i = refl
coding_later n order at (Some inner) i = search (arith)

-- after n octets the alignment is n octets further on
pub coding_after_octets : (n : ℕ) (order : Order) (at : ℕ) (frames : List Frame) →
    innermost_coding order ((at + n) % 8) (frames_after_octets n frames)
    ≡ ((innermost_coding order at frames).0, ((innermost_coding order at frames).1 + n) % 8)
coding_after_octets n order at [] = refl
coding_after_octets n order at (f ∷ frames) =
    let c = coding_in_frame (order, at) f.inside f.index in
    ap (λ (k : Order × ℕ). innermost_coding k.0 k.1 (frames_after_octets n frames))
    (coding_later n order at f.inside f.index) ∙ coding_after_octets n c.0 c.1 frames

small_of : (order : Order) (at : ℕ) (inside : Option Order) (i : ℕ) → at < 8 →
    (coding_in_frame (order, at) inside i).1 < 8
small_of order at None i h = h
small_of order at (Some inner) i h = omega arith

pub coding_small : (order : Order) (at : ℕ) (frames : List Frame) → at < 8 →
    (innermost_coding order at frames).1 < 8
coding_small order at [] h = h
coding_small order at (f ∷ frames) h =
    let c = coding_in_frame (order, at) f.inside f.index in
    coding_small c.0 c.1 frames (small_of order at f.inside f.index h)
