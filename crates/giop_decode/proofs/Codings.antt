-- Two codings that agree at the octets of a list have the same reading of it.
use Rattle.std.proofs.Common.{◌≡◌, ℕ, zero, suc, ◌+◌, ◌-◌, ◌%◌, ◌<◌, ◌≤◌, Bool, true, false, List, [], ◌∷◌, ◌++◌, length, refl, ◌∙◌, ap, arith, le-ltb, lt-ltb, lit<}
use Rattle.giop_cdr.specs.Numbers.{num}
use Rattle.giop_decode.specs.Pieces.{Block, Partial, Complete, number, bound_fault, fault_or}
use Rattle.giop_decode.specs.Reading.{recursive_elements, read_sequel, led, led_segment, left_after, selected_case, parts_from, read, reading, done_if_untyped, told_after, number_fault, disposition_fault}
use Rattle.giop_decode.specs.ReadResult.{Coding, IsEvenFrom, Count, Done, Fault, Index, Member, Name, Number, OpenPart, Part, PathSegment, Read, Short, Switch, read_then, line, fragment_aligned_from, with_front, within}
use Rattle.giop_decode.specs.ReadingSteps.{after_number, after_told, leading_width, part_at, inner_path}
use Rattle.giop_decode.proofs.Enclosing.{EndsBetween, read_ends}
use Rattle.giop_decode.proofs.Law.{read_after_leading_number, width_pos}
use Rattle.giop_decode.proofs.OctetKinds.{size_pos}
use Rattle.giop_decode.proofs.Sound.{BlockFits, number_takes}
use Rattle.giop_sig.specs.Types.{Array, Encapsulation, Ends as Nothing_more, TypeInference, Led, Octets, Recursive, Sequel, Sequence, Single, Stops, Struct, Text, Then, InferredType, Ty, Union, Untold, part_of, sequel, discriminator_name}
use Rattle.giop_sig.specs.declared.types.Selected.{Selected}
use Rattle.giop_sig.specs.declared.types.Selected.TheVariants.{Case, Nothing, Refused}

-- two readers that give the same result for each list that ends at this offset or before it
abbrev AgreeTo : (end : ℕ) (f g : ℕ → List ℕ → Read) → Type 0
AgreeTo end f g = (at : ℕ) (s : List ℕ) → at + length s ≤ end → f at s ≡ g at s

module _ (end : ℕ) where
  next_agrees : (place : OpenPart) (m n : ℕ) (r : Read) (f g : ℕ → List ℕ → Read) →
      EndsBetween m n r → n ≤ end → AgreeTo end f g →
      read_then (within place r) f ≡ read_then (within place r) g
  next_agrees place m n (Done lines at rest) f g h below same =
      ap (with_front lines) (same at rest (omega (arith, h, below)))
  next_agrees place m n (Short lines at outer leaf) f g h below same = refl
  next_agrees place m n (Fault lines at kind S) f g h below same = refl

  elements_agree : (T : Ty) (fits : Bool) (n : ℕ) (f g : ℕ → List ℕ → Read) → AgreeTo end f g →
      AgreeTo end (recursive_elements T fits n f) (recursive_elements T fits n g)
  elements_agree T true n f g same at s h = same at s h
  elements_agree T false zero f g same at s h = refl
  elements_agree T false (suc n) f g same at s h = refl

  member_agrees : (selected : Selected) (f g : ℕ → ℕ → List ℕ → Read) →
      ((i : ℕ) → AgreeTo end (f i) (g i)) → AgreeTo end (selected_case selected f)
      (selected_case selected g)
  member_agrees (Case i) f g same at s h = same i at s h
  member_agrees Nothing f g same at s h = refl
  member_agrees Refused f g same at s h = refl

  following_agrees : (T : Ty) (sequel : Sequel) (f g : ℕ → ℕ → List ℕ → Read) →
      ((i : ℕ) → AgreeTo end (f i) (g i)) → AgreeTo end (read_sequel T sequel f)
      (read_sequel T sequel g)
  following_agrees T (Then i) f g same at s h = same i at s h
  following_agrees T Nothing_more f g same at s h = refl
  following_agrees T Stops f g same at s h = refl

  led_agrees : (T : Ty) (k : TypeInference) (told : InferredType) (m n : ℕ) (r : Read)
      (f g : ℕ → ℕ → List ℕ → Read) → EndsBetween m n r → n ≤ end →
      ((i : ℕ) → AgreeTo end (f i) (g i)) → led T k told f r ≡ led T k told g r
  led_agrees T k told m n (Done lines at rest) f g h below same =
      ap (with_front lines)
      (following_agrees T (sequel k (told_after k told lines)) f g same at rest
      (omega (arith, h, below)))
  led_agrees T k told m n (Short lines at outer leaf) f g h below same = refl
  led_agrees T k told m n (Fault lines at kind S) f g h below same = refl

-- the codings have the same byte order, and the same phases at all offsets below `end`
module _ (end : ℕ) (coding other : Coding) (order : coding.order ≡ other.order)
    (phases : (here : ℕ) → here < end → coding.phase here ≡ other.phase here) where
  number_agrees : (n at : ℕ) (s : List ℕ) → at + length s ≤ end →
      number coding.phase n at s ≡ number other.phase n at s
  unfolding number
  number_agrees n at [] h = refl
  number_agrees n at (b ∷ s) h =
      rw (phases at (omega (arith, h)), number_agrees n (at + 1) s (omega (arith, h))) refl

  block_agrees : (path : List PathSegment) (T : Ty) (m : ℕ) (g : Block) →
      BlockFits (leading_width T) m g → m ≤ end →
      ((n : ℕ) → AgreeTo end (after_number coding path T n) (after_number other path T n)) →
      read_after_leading_number coding path T g ≡ read_after_leading_number other path T g
  block_agrees path T m (Partial carry at) h below same = refl
  block_agrees path T m (Complete xs at rest) h below same =
      ap (λ o. after_number coding path T (num o xs) at rest) order
      ∙ same (num other.order xs) at rest (omega (arith, h.0, below))

  headed_agrees : (path : List PathSegment) (T : Ty) → 0 < leading_width T →
      ((n : ℕ) → AgreeTo end (after_number coding path T n) (after_number other path T n)) →
      AgreeTo end (λ at s. read_after_leading_number coding path T
      (number coding.phase (leading_width T) at s))
      (λ at s. read_after_leading_number other path T (number other.phase (leading_width T) at s))
  headed_agrees path T pos same at s h =
      ap (read_after_leading_number coding path T) (number_agrees (leading_width T) at s h)
      ∙ block_agrees path T (at + length s) (number other.phase (leading_width T) at s)
      (number_takes other.phase (leading_width T) at s pos) h same

  parts_agree : (path : List PathSegment) (T : Ty) (count : ℕ) →
      ((i : ℕ) → AgreeTo end (read coding (inner_path path T i) (part_of T i))
      (read other (inner_path path T i) (part_of T i))) → (more i : ℕ) →
      AgreeTo end (parts_from (part_at coding path T count) more i)
      (parts_from (part_at other path T count) more i)
  parts_agree path T count each zero i at s h = refl
  parts_agree path T count each (suc more) i at s h =
      let next = parts_from (part_at coding path T count) more (suc i) in
      ap (λ r. read_then (within (Part T i count) r) next) (each i at s h)
      ∙ next_agrees end (Part T i count) at (at + length s) _ next _
      (read_ends other (inner_path path T i) (part_of T i) at s) h
      (parts_agree path T count each more (suc i))

  pub read_agrees : (path : List PathSegment) (T : Ty) →
      AgreeTo end (read coding path T) (read other path T)
  read_agrees path (Single scalar) =
      headed_agrees path (Single scalar) (width_pos scalar) (λ n at s h. refl)
  read_agrees path (Text bound) = headed_agrees path (Text bound) (lit< tt) (λ n at s h. refl)
  read_agrees path (Octets kind) =
      headed_agrees path (Octets kind) (size_pos kind) (λ n at s h. refl)
  read_agrees path (Struct count names parts) =
      parts_agree path (Struct count names parts) count
      (λ i. read_agrees (path ++ Name (names i) ∷ []) (parts i)) count 0
  read_agrees path (Array count T) =
      parts_agree path (Array count T) count (λ i. read_agrees (path ++ Index i ∷ []) T) count 0
  read_agrees path (Sequence bound T) =
      headed_agrees path (Sequence bound T) (lit< tt) (λ n at s h.
      ap (λ r. fault_or (Sequence bound T) (bound_fault bound n) at
      (with_front (line at path (Count n) ∷ []) r))
      (parts_agree path (Sequence bound T) n (λ i. read_agrees (path ++ Index i ∷ []) T) n 0 at s
      h))
  read_agrees path (Recursive bound fits T) =
      headed_agrees path (Recursive bound fits T) (lit< tt) (λ n at s h.
      ap (λ r. fault_or (Recursive bound fits T) (bound_fault bound n) at
      (with_front (line at path (Count n) ∷ []) r))
      (elements_agree end (Recursive bound fits T) fits n _ _
      (parts_agree path (Recursive bound fits T) n (λ i. read_agrees (path ++ Index i ∷ []) T) n 0)
      at s h))
  read_agrees path (Union choice scalar select names cases) =
      headed_agrees path (Union choice scalar select names cases) (width_pos scalar) (λ n at s h.
      let T = Union choice scalar select names cases in
      ap (λ r. fault_or T (number_fault scalar n) at (fault_or T (disposition_fault (select n)) at
      (with_front (line at (path ++ Switch (discriminator_name choice scalar names) ∷ [])
      (Number scalar n) ∷ []) r)))
      (member_agrees end (select n) _ _ (λ i at s h. ap (within (Member T i))
      (read_agrees (path ++ Name (names i) ∷ []) (cases i) at s h)) at s h))
  read_agrees path (Encapsulation T) =
      headed_agrees path (Encapsulation T) (lit< tt) (λ n at s h. refl)
  read_agrees path (Led k F parts) = λ at s h.
      let T = Led k F parts in
      ap (led T k Untold (after_told coding path T))
      (read_agrees (path ++ led_segment 0 ∷ []) F at s h)
      ∙ led_agrees end T k Untold at (at + length s) _ _ (after_told other path T)
      (read_ends other (path ++ led_segment 0 ∷ []) F at s) h
      (λ i at s h. ap (within (Member T (suc i)))
      (read_agrees (path ++ led_segment (suc i) ∷ []) (parts i) at s h))

pub reading_agrees : (coding other : Coding) (path : List PathSegment) (T : Ty) (at : ℕ)
    (s : List ℕ) → coding.order ≡ other.order →
    ((here : ℕ) → here < at + length s → coding.phase here ≡ other.phase here) →
    reading coding path T at s ≡ reading other path T at s
reading_agrees coding other path T at s order phases = ap (done_if_untyped (left_after at s))
    (read_agrees (at + length s) coding other order phases path T at s (omega arith))

-- ---- the offset at which a Fragment begins

pub seamed_below : (coding : Coding) (here at : ℕ) → at < here →
    coding.phase at ≡ (fragment_aligned_from coding here).phase at
seamed_below coding here at h = rw (lt-ltb at here h) refl

seamed_from : (coding : Coding) (here at : ℕ) → here ≤ at →
    (fragment_aligned_from coding here).phase at ≡ 12 + (at - here)
seamed_from coding here at h = rw (le-ltb at here h) refl

pub seamed_here : (coding : Coding) (here : ℕ) → (fragment_aligned_from coding here).phase here % 8
    ≡ 4
seamed_here coding here =
    let first = seamed_from coding here here (omega arith) in
    omega (arith, first)

pub seamed_even : (coding : Coding) (here : ℕ) → IsEvenFrom (fragment_aligned_from coding here) here
seamed_even coding here k =
    let first = seamed_from coding here here (omega arith) in
    let later = seamed_from coding here (here + k) (omega arith) in
    omega (arith, first, later)
