-- Types that differ only in the names of numbers: their readings have the same offsets, rests and
-- faults, and the same is noted of them.
use Rattle.std.proofs.Common.{◌≡◌, ℕ, zero, suc, ◌+◌, ◌-◌, ◌⊎◌, inl, inr, Bool, true, false, List, [], ◌∷◌, ◌++◌, take, drop, get_or, Option, Some, None, refl, sym, ap, ◌∙◌, arith}
use Rattle.std.specs.Prelude.{◌&&◌, cond, ltb, codes}
use Rattle.giop_cdr.specs.Numbers.{num}
use Rattle.giop_cdr.specs.declared.order.Order.{Order}
use Rattle.giop_cdr.specs.declared.prim.Primitive.TheVariants as prims
use Rattle.giop_sig.specs.Kinds.{is_kind}
use Rattle.giop_sig.specs.Types.{Scalar, Plain, Marked, width, Ty, Single, Text, Octets, Struct, Union, Sequence, Array, Encapsulation, discriminator_name}
use Rattle.giop_sig.specs.declared.types.Selected.{Selected}
use Rattle.giop_sig.specs.declared.types.Selected.TheVariants.{Case, Nothing, Refused}
use Rattle.giop_decode.specs.declared.progress.ValueFault.{ValueFault}
use Rattle.giop_decode.specs.declared.progress.ValueFault.TheVariants as kinds
use Rattle.giop_decode.specs.ReadResult.{Coding, PathSegment, Name, Index, Switch, Held, Number, Count, Size, Ordered, Piece, ValueAt, line, OpenPart, Part, Member, Read, Done, Short, Fault, with_front, read_then, within, coding_from}
use Rattle.giop_decode.specs.Pieces.{Block, Partial, Complete, block, number, fault_or, bound_fault, full_pieces, full_piece, last_piece, content}
use Rattle.giop_decode.specs.Reading.{after_leading_number, number_fault, parts_from, selected_case, disposition_fault, after_discriminator, read_single, order_of, encapsulation_rest, enclosed, left_after, after_order_octet, from_order_octet, after_encapsulation_size, read, done_if_untyped, reading}
use Rattle.giop_decode.specs.Noted.{Noted, note_line, note_lines, first_present, is_member}
use Rattle.giop_decode.proofs.ReadingLaws.{noted-append}

-- ---- types

-- The scalars of a number at a path: they are the same; or one has a mark, by which its numbers
-- have names, and the path isn't the path of a request id.
abbrev pub AreAlikeScalars : (path : List PathSegment) (x y : Scalar) → Type 0
AreAlikeScalars path x y = (x ≡ y) ⊎ ((mark : ℕ) × (x ≡ Plain prims.ULong) × (y ≡ Marked mark)
    × (is_kind mark ≡ false) × (is_member (codes "request_id") path ≡ false))

-- the types of a value at a path, which differ only in such scalars
abbrev pub AreAlike : (path : List PathSegment) (A B : Ty) → Type 0
AreAlike path (Single x) (Single y) = AreAlikeScalars path x y
AreAlike path (Text x) (Text y) = x ≡ y
AreAlike path (Octets x) (Octets y) = x ≡ y
AreAlike path (Struct n names parts) (Struct m others bodies) =
    (n ≡ m) × ((i : ℕ) → names i ≡ others i)
    × ((i : ℕ) → AreAlike (path ++ Name (names i) ∷ []) (parts i) (bodies i))
AreAlike path (Array n A) (Array m B) =
    (n ≡ m) × ((i : ℕ) → AreAlike (path ++ Index i ∷ []) A B)
AreAlike path (Sequence x A) (Sequence y B) =
    (x ≡ y) × ((i : ℕ) → AreAlike (path ++ Index i ∷ []) A B)
AreAlike path (Union choice x select names cases) (Union other y selects others bodies) =
    (discriminator_name choice x names ≡ discriminator_name other y others)
    × AreAlikeScalars (path ++ Switch (discriminator_name choice x names) ∷ []) x y
    × ((n : ℕ) → select n ≡ selects n) × ((i : ℕ) → names i ≡ others i)
    × ((i : ℕ) → AreAlike (path ++ Name (names i) ∷ []) (cases i) (bodies i))
AreAlike path (Encapsulation A) (Encapsulation B) = AreAlike (path ++ Held ∷ []) A B
AreAlike path A B = ⊥

-- ---- the outcome of a reading

-- What is noted up to the end of a reading, and the offset there; with the octets that are left, or
-- the kind of the fault.
pub data Outcome : Type 0 where
  Ended : Noted → ℕ → List ℕ → Outcome
  Open : Noted → ℕ → Outcome
  Faulted : Noted → ℕ → ValueFault → Outcome

-- the outcome of a reading, if this was noted before; `is` says whether it is the reading of a
-- header
abbrev pub outcome : (is : Bool) (noted : Noted) (read : Read) → Outcome
outcome is h (Done lines at rest) = Ended (note_lines is h lines) at rest
outcome is h (Short lines at outer leaf) = Open (note_lines is h lines) at
outcome is h (Fault lines at why T) = Faulted (note_lines is h lines) at why

module _ (is : Bool) where
  -- two readings with the same outcome
  pub record HasSameOutcome (r q : Read) : Type 0 where
    pub shows : (h : Noted) → outcome is h r ≡ outcome is h q

  alike_itself : (r : Read) → HasSameOutcome r r
  alike_itself r = record { shows = λ h. refl }

  front_outcome : (h : Noted) (front : List ValueAt) (r : Read) →
      outcome is h (with_front front r) ≡ outcome is (note_lines is h front) r
  front_outcome h front (Done lines at rest) =
      ap (λ now. Ended now at rest) (noted-append is h front lines)
  front_outcome h front (Short lines at outer leaf) =
      ap (λ now. Open now at) (noted-append is h front lines)
  front_outcome h front (Fault lines at why T) =
      ap (λ now. Faulted now at why) (noted-append is h front lines)

  -- two readings have the same outcome after lines, if the same is noted of these lines
  front_same : (front other : List ValueAt) {r q : Read} →
      ((h : Noted) → note_lines is h front ≡ note_lines is h other) → HasSameOutcome r q →
      HasSameOutcome (with_front front r) (with_front other q)
  front_same front other {r} {q} e same = record {
    shows = λ h. front_outcome h front r ∙ (ap (λ now. outcome is now r) (e h)
        ∙ (same.shows (note_lines is h other) ∙ sym (front_outcome h other q)));
  }

  unless_same : (A B : Ty) (why : Option ValueFault) (at : ℕ) {r q : Read} → HasSameOutcome r q →
      HasSameOutcome (fault_or A why at r) (fault_or B why at q)
  unless_same A B None at same = same
  unless_same A B (Some why) at same = record { shows = λ h. refl }

  -- ---- what follows

  abbrev Then : (next : ℕ → List ℕ → Read) (o : Outcome) → Outcome
  Then next (Ended h at rest) = outcome is h (next at rest)
  Then next o = o

  followed_outcome : (next : ℕ → List ℕ → Read) (h : Noted) (r : Read) →
      outcome is h (read_then r next) ≡ Then next (outcome is h r)
  followed_outcome next h (Done lines at rest) = front_outcome h lines (next at rest)
  followed_outcome next h (Short lines at outer leaf) = refl
  followed_outcome next h (Fault lines at why T) = refl

  then_same : (next after : ℕ → List ℕ → Read) →
      ((at : ℕ) (s : List ℕ) → HasSameOutcome (next at s) (after at s)) → (o : Outcome) →
      Then next o ≡ Then after o
  then_same next after same (Ended h at rest) = (same at rest).shows h
  then_same next after same (Open h at) = refl
  then_same next after same (Faulted h at why) = refl

  followed_same : {next after : ℕ → List ℕ → Read} {r q : Read} → HasSameOutcome r q →
      ((at : ℕ) (s : List ℕ) → HasSameOutcome (next at s) (after at s)) →
      HasSameOutcome (read_then r next) (read_then q after)
  followed_same {next} {after} {r} {q} first same = record {
    shows = λ h. followed_outcome next h r
        ∙ (ap (Then next) (first.shows h) ∙ (then_same next after same (outcome is h q)
        ∙ sym (followed_outcome after h q)));
  }

  within_outcome : (place : OpenPart) (h : Noted) (r : Read) →
      outcome is h (within place r) ≡ outcome is h r
  within_outcome place h (Done lines at rest) = refl
  within_outcome place h (Short lines at outer leaf) = refl
  within_outcome place h (Fault lines at why T) = refl

  within_same : (here there : OpenPart) {r q : Read} → HasSameOutcome r q →
      HasSameOutcome (within here r) (within there q)
  within_same here there {r} {q} same = record {
    shows = λ h. within_outcome here h r ∙ (same.shows h ∙ sym (within_outcome there h q));
  }

  parts_same : {part other : ℕ → ℕ → List ℕ → Read} →
      ((i at : ℕ) (s : List ℕ) → HasSameOutcome (part i at s) (other i at s)) → (more i at : ℕ)
      (s : List ℕ) → HasSameOutcome (parts_from part more i at s) (parts_from other more i at s)
  parts_same same zero i at s = alike_itself (Done [] at s)
  parts_same same (suc more) i at s =
      followed_same (same i at s) (parts_same same more (suc i))

  -- ---- numbers

  same_width : (path : List PathSegment) (x y : Scalar) → AreAlikeScalars path x y →
      width x ≡ width y
  same_width path x y (inl e) = ap width e
  same_width path x y (inr (mark, e, f, none, deep)) = rw (e, f) refl

  same_wrong : (path : List PathSegment) (x y : Scalar) → AreAlikeScalars path x y → (n : ℕ) →
      number_fault x n ≡ number_fault y n
  same_wrong path x y (inl e) n = ap (λ z. number_fault z n) e
  same_wrong path x y (inr (mark, e, f, none, deep)) n = rw (e, f, none) refl

  none_first : (o : Option ℕ) → first_present o None ≡ o
  none_first None = refl
  none_first (Some n) = refl

  no_id : (a b : Bool) → b ≡ false → (n : ℕ) (o : Option ℕ) →
      first_present o (cond (a && b) (Some n) None) ≡ o
  no_id true b e n o = rw e (none_first o)
  no_id false b e n o = none_first o

  same_note : (path : List PathSegment) (x y : Scalar) → AreAlikeScalars path x y →
      (n at : ℕ) (h : Noted) →
      note_line is h (line at path (Number x n)) ≡ note_line is h (line at path (Number y n))
  same_note path x y (inl e) n at h = ap (λ z. note_line is h (line at path (Number z n))) e
  same_note path x y (inr (mark, e, f, none, deep)) n at h =
      rw (e, f) (ap (λ (o : Option ℕ). record h { request_id = o })
      (no_id is (is_member (codes "request_id") path) deep n h.request_id))

  leading_same : (A B : Ty) {after behind : List ℕ → ℕ → List ℕ → Read} (g : Block) →
      ((xs : List ℕ) (at : ℕ) (rest : List ℕ) → HasSameOutcome (after xs at rest)
      (behind xs at rest)) →
      HasSameOutcome (after_leading_number A after g) (after_leading_number B behind g)
  leading_same A B (Partial carry at) same = record { shows = λ h. refl }
  leading_same A B (Complete octets at rest) same = same octets at rest

  single_same : (path : List PathSegment) (x y : Scalar) → AreAlikeScalars path x y →
      (n at : ℕ) (rest : List ℕ) → HasSameOutcome (read_single path x n at rest)
      (read_single path y n at rest)
  single_same path x y alike n at rest =
      rw (same_wrong path x y alike n) (unless_same (Single x) (Single y) (number_fault y n)
      at (record {
        shows = λ h. ap (λ now. Ended now at rest) (same_note path x y alike n at h);
      }))

  -- ---- unions

  member_same : (selected : Selected) {case other : ℕ → ℕ → List ℕ → Read} →
      ((i at : ℕ) (s : List ℕ) → HasSameOutcome (case i at s) (other i at s)) →
      (at : ℕ) (s : List ℕ) →
      HasSameOutcome (selected_case selected case at s) (selected_case selected other at s)
  member_same (Case i) same at s = same i at s
  member_same Nothing same at s = alike_itself (Done [] at s)
  member_same Refused same at s = alike_itself (Done [] at s)

  chosen_same : (path : List PathSegment) (A B : Ty) (tag : Option (List ℕ)) (x y : Scalar) →
      AreAlikeScalars (path ++ Switch tag ∷ []) x y → (selected : Selected) (n : ℕ)
      {case other : ℕ → ℕ → List ℕ → Read} →
      ((i at : ℕ) (s : List ℕ) → HasSameOutcome (case i at s) (other i at s)) →
      (at : ℕ) (s : List ℕ) →
      HasSameOutcome (after_discriminator path A tag x selected n case at s)
      (after_discriminator path B tag y selected n other at s)
  chosen_same path A B tag x y alike selected n same at s =
      let place = path ++ Switch tag ∷ [] in
      rw (same_wrong place x y alike n)
      (unless_same A B (number_fault y n) at (unless_same A B (disposition_fault selected) at
      (front_same (line at place (Number x n) ∷ []) (line at place (Number y n) ∷ [])
      (same_note place x y alike n at) (member_same selected same at s))))

  -- ---- encapsulations

  module _ (path : List PathSegment) (A B : Ty) where
    last_same : (total offset : ℕ) (g : Block) →
        HasSameOutcome (last_piece (Encapsulation A) path total offset g)
        (last_piece (Encapsulation B) path total offset g)
    last_same total offset (Partial piece at) = record { shows = λ h. refl }
    last_same total offset (Complete octets at rest) = record { shows = λ h. refl }

    full_same : (total offset : ℕ) {next after : ℕ → List ℕ → Read} (g : Block) →
        ((at : ℕ) (s : List ℕ) → HasSameOutcome (next at s) (after at s)) →
        HasSameOutcome (full_piece (Encapsulation A) path total offset next g)
        (full_piece (Encapsulation B) path total offset after g)
    full_same total offset (Partial piece at) same = record { shows = λ h. refl }
    full_same total offset (Complete octets at rest) same =
        front_same (line at path (Piece (Encapsulation A) offset octets true) ∷ [])
        (line at path (Piece (Encapsulation B) offset octets true) ∷ []) (λ h. refl) (same at rest)

    content_same : (total full offset at : ℕ) (s : List ℕ) →
        HasSameOutcome (content (Encapsulation A) path total full offset at s)
        (content (Encapsulation B) path total full offset at s)
    content_same total zero offset at s = last_same total offset (block (total - offset + 0) at s)
    content_same total (suc full) offset at s =
        full_same total offset (block 32 at s) (content_same total full (offset + 32))

    rest_same : (n at : ℕ) (s : List ℕ) → HasSameOutcome (encapsulation_rest path
        (Encapsulation A) n at s)
        (encapsulation_rest path (Encapsulation B) n at s)
    rest_same zero at s = record { shows = λ h. refl }
    rest_same (suc n) at s = content_same (suc n) (full_pieces (suc n)) 0 at s

    module _ (coding : Coding) (end : ℕ) (left : ℕ → List ℕ) (more : List ℕ) where
      abbrev Closed : (type : Ty) (outcome : Outcome) → Outcome
      Closed T (Ended h at rest) =
          outcome is h (encapsulation_rest path (Encapsulation T) (end - at) at (rest ++ more))
      Closed T (Open h at) = cond (ltb at end) (Open h at) (Faulted h at kinds.EncapShort)
      Closed T (Faulted h at kinds.Untyped) =
          outcome is h (encapsulation_rest path (Encapsulation T) (end - at) at (left at ++ more))
      Closed T (Faulted h at why) = Faulted h at why

      closed_outcome : (T : Ty) (h : Noted) (r : Read) →
          outcome is h (enclosed path (Encapsulation T) coding end left r more)
          ≡ Closed T (outcome is h r)
      closed_outcome T h (Done lines at rest) = front_outcome h lines _
      closed_outcome T h (Short lines at outer leaf) = search (arith)
      closed_outcome T h (Fault lines at kinds.Untyped S) = front_outcome h lines _
      closed_outcome T h (Fault lines at why S) = refl

      closed_same : (o : Outcome) → Closed A o ≡ Closed B o
      closed_same (Ended h at rest) = (rest_same (end - at) at (rest ++ more)).shows h
      closed_same (Open h at) = refl
      closed_same (Faulted h at kinds.Untyped) =
          (rest_same (end - at) at (left at ++ more)).shows h
      closed_same (Faulted h at why) = refl

      enclosed_same : {r q : Read} → HasSameOutcome r q →
          HasSameOutcome (enclosed path (Encapsulation A) coding end left r more)
          (enclosed path (Encapsulation B) coding end left q more)
      enclosed_same {r} {q} same = record {
        shows = λ h. closed_outcome A h r ∙ (ap (Closed A) (same.shows h)
            ∙ (closed_same (outcome is h q) ∙ sym (closed_outcome B h q)));
      }

    module _ (value other : Coding → ℕ → List ℕ → Read)
        (same : (coding : Coding) (at : ℕ) (s : List ℕ) →
        HasSameOutcome (value coding at s) (other coding at s)) where
      ordered_same : (origin n : ℕ) (order : Option Order) (at : ℕ) (rest : List ℕ) →
          HasSameOutcome (after_order_octet path (Encapsulation A) value origin n order at rest)
          (after_order_octet path (Encapsulation B) other origin n order at rest)
      ordered_same origin n None at rest = record { shows = λ h. refl }
      ordered_same origin n (Some order) at rest =
          let front = line at path (Ordered order) ∷ [] in
          let coding = coding_from order origin in
          front_same front front (λ h. refl)
          (enclosed_same coding (at + n) (left_after at (take n rest)) (drop n rest)
          (same coding at (take n rest)))

      opening_same : (origin n : ℕ) (g : Block) →
          HasSameOutcome (from_order_octet path (Encapsulation A) value origin n g)
          (from_order_octet path (Encapsulation B) other origin n g)
      opening_same origin n (Partial none at) = record { shows = λ h. refl }
      opening_same origin n (Complete octets at rest) =
          ordered_same origin n (order_of (get_or octets 0 0)) at rest

      sized_same : (n at : ℕ) (s : List ℕ) → HasSameOutcome
          (after_encapsulation_size path (Encapsulation A) value n at s)
          (after_encapsulation_size path (Encapsulation B) other n at s)
      sized_same zero at s = record { shows = λ h. refl }
      sized_same (suc n) at s = opening_same at n (block 1 at s)

  -- ---- any type

  pub read_same : (coding : Coding) (path : List PathSegment) (A B : Ty) → AreAlike path A B →
      (at : ℕ) (s : List ℕ) → HasSameOutcome (read coding path A at s) (read coding path B at s)
  read_same coding path (Single x) (Single y) alike at s = rw (same_width path x y alike)
      (leading_same (Single x) (Single y) (number coding.phase (width y) at s)
      (λ xs. single_same path x y alike (num coding.order xs)))
  read_same coding path (Text x) (Text y) alike at s = rw alike (alike_itself _)
  read_same coding path (Octets x) (Octets y) alike at s = rw alike (alike_itself _)
  read_same coding path (Struct n names parts) (Struct m others bodies) (e, called, each) at s =
      rw e (parts_same (λ i at s. within_same (Part (Struct m names parts) i m)
      (Part (Struct m others bodies) i m) (rw (sym (called i))
      (read_same coding (path ++ Name (names i) ∷ []) (parts i) (bodies i) (each i) at s))) m 0 at
      s)
  read_same coding path (Array n A) (Array m B) (e, each) at s =
      rw e (parts_same (λ i at s. within_same (Part (Array m A) i m) (Part (Array m B) i m)
      (read_same coding (path ++ Index i ∷ []) A B (each i) at s)) m 0 at s)
  read_same coding path (Sequence x A) (Sequence y B) (e, each) at s =
      rw e (leading_same (Sequence y A) (Sequence y B) (number coding.phase 4 at s) (λ xs at rest.
      let n = num coding.order xs in
      let front = line at path (Count n) ∷ [] in
      unless_same (Sequence y A) (Sequence y B) (bound_fault y n)
      at (front_same front front (λ h. refl)
      (parts_same (λ i at s. within_same (Part (Sequence y A) i n) (Part (Sequence y B) i n)
      (read_same coding (path ++ Index i ∷ []) A B (each i) at s)) n 0 at rest))))
  read_same coding path (Union choice x select names cases) (Union other y selects others bodies)
      (e, alike, selected, called, each) at s =
      let A = Union choice x select names cases in
      let B = Union other y selects others bodies in
      let tag = discriminator_name choice x names in
      rw (sym e, same_width (path ++ Switch tag ∷ []) x y alike)
      (leading_same A B (number coding.phase (width y) at s) (λ xs at rest.
      let n = num coding.order xs in
      rw (sym (selected n)) (chosen_same path A B tag x y alike (select n) n
      (λ i at s. within_same (Member A i) (Member B i) (rw (sym (called i))
      (read_same coding (path ++ Name (names i) ∷ []) (cases i) (bodies i) (each i) at s))) at
      rest)))
  read_same coding path (Encapsulation A) (Encapsulation B) alike at s =
      leading_same (Encapsulation A) (Encapsulation B) (number coding.phase 4 at s) (λ xs at rest.
      let n = num coding.order xs in
      let front = line at path (Size n) ∷ [] in
      front_same front front (λ h. refl)
      (sized_same path A B (λ inner. read inner (path ++ Held ∷ []) A)
      (λ inner. read inner (path ++ Held ∷ []) B)
      (λ inner. read_same inner (path ++ Held ∷ []) A B alike) n at rest))
  read_same coding path A B alike at s = absurd alike

  -- ---- a complete value

  abbrev Rooted : (left : ℕ → List ℕ) (o : Outcome) → Outcome
  Rooted left (Faulted h at kinds.Untyped) = Ended h at (left at)
  Rooted left o = o

  rooted_outcome : (left : ℕ → List ℕ) (h : Noted) (r : Read) →
      outcome is h (done_if_untyped left r) ≡ Rooted left (outcome is h r)
  rooted_outcome left h (Done lines at rest) = refl
  rooted_outcome left h (Short lines at outer leaf) = refl
  rooted_outcome left h (Fault lines at kinds.Untyped T) = refl
  rooted_outcome left h (Fault lines at why T) = refl

  -- if types are alike, their complete values have the same outcome
  pub reading_same : (coding : Coding) (path : List PathSegment) (A B : Ty) → AreAlike path A B →
      (at : ℕ) (s : List ℕ) → HasSameOutcome (reading coding path A at s)
      (reading coding path B at s)
  reading_same coding path A B alike at s = record {
    shows = λ h. rooted_outcome (left_after at s) h (read coding path A at s)
        ∙ (ap (Rooted (left_after at s)) ((read_same coding path A B alike at s).shows h)
        ∙ sym (rooted_outcome (left_after at s) h (read coding path B at s)));
  }
