-- The transition after the number that begins a type, before any octet after it.
use Rattle.std.proofs.Common.{◌≡◌, ◌≢◌, ℕ, zero, suc, ◌+◌, ◌-◌, ◌^◌, ◌<◌, false, List, [], ◌∷◌, ◌++◌, length, Option, Some, None, refl, ap, arith, add-zero, lit<, lt-ltb, ne_eqb, Bool, true}
use Rattle.std.proofs.lemmas.Bool.{cases_lt}
use Rattle.giop_cdr.proofs.NumberLaws.{num_bound}
use Rattle.giop_cdr.specs.Numbers.{AreOctets, num, interpreted_as}
use Rattle.giop_cdr.specs.Primitives.{size_of}
use Rattle.giop_cdr.specs.declared.number.Number.{Number as Taken}
use Rattle.giop_cdr.specs.declared.number.Number.TheVariants as numbers
use Rattle.giop_cdr.specs.declared.order.Order.{Order}
use Rattle.giop_cdr.specs.declared.prim.Primitive.{Primitive}
use Rattle.giop_cdr.specs.declared.prim.Primitive.TheVariants as prims
use Rattle.giop_decode.specs.declared.leaf.Transition.TheVariants as transitions
use Rattle.giop_decode.specs.declared.progress.ValueFault.TheVariants as kinds
use Rattle.giop_decode.specs.declared.leaf.Output.TheVariants as outputs
use Rattle.giop_decode.specs.ReadResult
use Rattle.giop_decode.specs.ReadResult.{Coding, PathSegment, Switch, line, Count, Piece, Part, Member, Content, Done, Short, within, Fault, Opening, Ordered, Size}
use Rattle.giop_decode.specs.Pieces.{bound_fault, terminator_size, content}
use Rattle.giop_decode.specs.Reading.{order_of, number_fault}
use Rattle.giop_decode.specs.ReadingSteps.{leaf_step, inner_path, after_number, leading_width}
use Rattle.giop_decode.specs.Begins.{start_outer, start_leaf}
use Rattle.giop_decode.specs.Fits.{HasCase, IsEncapsulation}
use Rattle.giop_decode.specs.Transitions.{IsNumberOf, TransitionGives, bound_fault_if, after_recursive_count}
use Rattle.giop_decode.proofs.Law.{block_got, block_step_got}
use Rattle.giop_decode.proofs.OctetKinds.{octets_no_union}
use Rattle.giop_decode.proofs.Leaving.{fit_held}
use Rattle.giop_decode.proofs.Enclosing.{with_front-enclosed}
use Rattle.std.proofs.Math.Seq.{take-nil, drop-nil}
use Rattle.giop_decode.proofs.Around.{block_none, first_part, read_none}
use Rattle.giop_sig.specs.Types.{Cases, Scalar, Plain, Enum, Marked, Led, Ty, Single, Text, OctetKind, Octets, bound_of, Struct, Union, Sequence, Array, part_of, switch_of, shape_in, select_in, interpreted_in, IsUnion, HasMember, Tag, discriminator_name, Encapsulation, Recursive, elements_fit}
use Rattle.giop_sig.specs.declared.types.Selected.TheVariants.{Case, Nothing, Refused}
use Rattle.giop_sig.specs.Fits.{IsFit}

-- a content with something still to come, before its first octet
pub content_none : (path : List PathSegment) (U : Ty) (total full offset at : ℕ) →
    0 < total - offset + terminator_size U → content U path total full offset at []
    ≡ Short [] at [] (Content U total offset [])
content_none path U total zero offset at pos = search (arith, block_none)
content_none path U total (suc full) offset at pos = search (arith, block_none, lit<)

-- a number that is a value of its type isn't wrong
pub right_taken : (p : Primitive) (n : ℕ) (number : Taken) → interpreted_as p n ≡ Some number →
    number_fault (Plain p) n ≡ None
right_taken prims.Octet n number e = refl
right_taken prims.Char n number e = refl
right_taken prims.Boolean n number e = search (arith, cases_lt, lt-ltb, ne_eqb)
right_taken prims.Short n number e = refl
right_taken prims.UShort n number e = refl
right_taken prims.Long n number e = refl
right_taken prims.ULong n number e = refl
right_taken prims.LongLong n number e = refl
right_taken prims.ULongLong n number e = refl
right_taken prims.Float n number e = refl
right_taken prims.Double n number e = refl

-- octets spell a number below 256 to the power of the primitive's size
pub prim_bound : (T : Ty) (p : Primitive) (order : Order) (octets : List ℕ) → T ≡ Single (Plain p) →
    length octets ≡ leading_width T → AreOctets octets → num order octets < 256 ^ size_of p
prim_bound T p order octets is whole are = search (arith, num_bound)

same_scalar : (s t : Scalar) → Single s ≡ Single t → s ≡ t
same_scalar s t e = cc

pub switch_bound : (T : Ty) (p : Primitive) (order : Order) (octets : List ℕ) →
    IsUnion (shape_in T) → switch_of T ≡ Single (Plain p) → length octets ≡ leading_width T →
    AreOctets octets →
    num order octets < 256 ^ size_of p
switch_bound (Union choice scalar select names cases) p order octets u is whole are = search
    (arith, prim_bound)
switch_bound (Struct n names parts) p order octets u is whole are = absurd u
switch_bound (Array n T) p order octets u is whole are = absurd u
switch_bound (Sequence bound T) p order octets u is whole are = absurd u
switch_bound (Single (Plain q)) p order octets u is whole are = absurd u
switch_bound (Single (Enum n names)) p order octets u is whole are = absurd u
switch_bound (Text bound) p order octets u is whole are = absurd u
switch_bound (Encapsulation T) p order octets u is whole are = absurd u
switch_bound (Octets kind) p order octets u is whole are = absurd (octets_no_union kind u)
switch_bound (Single (Marked mark)) p order octets u is whole are = absurd u
switch_bound (Recursive bound fits T) p order octets u is whole are = absurd u
switch_bound (Led k F rest) p order octets u is whole are = absurd u

abbrev pub number_prim : (T : Ty) (p : Primitive) (n : ℕ) (number : Taken) → T ≡ Single (Plain p) →
    interpreted_as p n ≡ Some number → n < 256 ^ size_of p → IsNumberOf T number
number_prim T p n number is taken within =
    record {
      scalar = Plain p;
      n = n;
      is = is;
      right = right_taken p n number taken;
      taken = taken;
      within = within;
    }

abbrev pub number_switch : (T : Ty) (p : Primitive) (order : Order) (octets : List ℕ)
    (number : Taken) → IsUnion (shape_in T) → switch_of T ≡ Single (Plain p) →
    interpreted_as p (num order octets) ≡ Some number → length octets ≡ leading_width T →
    AreOctets octets → IsNumberOf (switch_of T) number
number_switch T p order octets number u is taken whole are =
    number_prim (switch_of T) p (num order octets) number is taken
    (switch_bound T p order octets u is whole are)

abbrev pub number_enum : (T : Ty) (count : ℕ) (names : ℕ → List ℕ) (n : ℕ) →
    T ≡ Single (Enum count names) → n < count → n < 256 ^ 4 → IsNumberOf T (numbers.Unsigned n)
number_enum T count names n is below within =
    record {
      scalar = Enum count names;
      n = n;
      is = is;
      right = rw lt-ltb refl;
      taken = refl;
      within = within;
    }

module _ (coding : Coding) (path : List PathSegment) (T : Ty) (at : ℕ) where
  pub turns_number : (number : Taken) (is : IsNumberOf T number) →
      TransitionGives T transitions.Ended (outputs.Number number) [] [] path at
      (after_number coding path T is.n at [])
  turns_number number is = record {
    lines = line at path (ReadResult.Number is.scalar is.n) ∷ [];
    comes = rw (is.is, is.right) refl;
    says = (is, refl);
  }

  pub text_open : (bound : Option ℕ) (n : ℕ) → T ≡ Text bound → bound_fault bound n
      ≡ bound_fault_if false →
      after_number coding path T (suc n) at [] ≡ Short [] at [] (Content T n 0 [])
  text_open bound n is ok = search (arith, content_none)

  pub octets_empty : (kind : OctetKind) (n : ℕ) → T ≡ Octets kind →
      bound_fault (bound_of kind) n ≡ bound_fault_if false → n ≡ 0 →
      after_number coding path T n at [] ≡ Done (line at path (Piece T 0 [] false) ∷ []) at []
  octets_empty kind n is ok none = search (arith, block_got, add-zero)

  pub octets_open : (kind : OctetKind) (n : ℕ) → T ≡ Octets kind →
      bound_fault (bound_of kind) n ≡ bound_fault_if false → 0 < n →
      after_number coding path T n at [] ≡ Short [] at [] (Content T n 0 [])
  octets_open kind n is ok pos = search (arith, content_none)

  pub sequence_empty : (bound : Option ℕ) (E : Ty) (n : ℕ) → T ≡ Sequence bound E →
      bound_fault bound n ≡ bound_fault_if false → n ≡ 0 →
      after_number coding path T n at [] ≡ Done (line at path (Count n) ∷ []) at []
  sequence_empty bound E n is ok none = rw (is, ok, none) refl

  pub sequence_open : (d : ℕ) (bound : Option ℕ) (E : Ty) (n : ℕ) → IsFit d T →
      T ≡ Sequence bound E → bound_fault bound n ≡ bound_fault_if false → 0 < n →
      after_number coding path T n at [] ≡ Short (line at path (Count n) ∷ []) at
      (Part T 0 n ∷ start_outer (part_of T 0)) (start_leaf (part_of T 0))
  unfolding IsFit
  sequence_open zero bound E n fit is ok pos = absurd fit
  sequence_open (suc d) bound E zero fit is ok pos = absurd (omega arith)
  sequence_open (suc d) bound E (suc n) fit is ok pos = search (arith, first_part, read_none)

module _ (coding : Coding) (path : List PathSegment) (T : Ty) (at : ℕ) where
  pub recursive_empty : (bound : Option ℕ) (fits : Bool) (E : Ty) (n : ℕ) →
      T ≡ Recursive bound fits E → bound_fault bound n ≡ bound_fault_if false → n ≡ 0 →
      after_number coding path T n at [] ≡ Done (line at path (Count n) ∷ []) at []
  recursive_empty bound true E n is ok none = rw (is, ok, none) refl
  recursive_empty bound false E n is ok none = rw (is, ok, none) refl

  pub recursive_open : (d : ℕ) (bound : Option ℕ) (fits : Bool) (E : Ty) (n : ℕ) → IsFit d T →
      T ≡ Recursive bound fits E → bound_fault bound n ≡ bound_fault_if false → 0 < n →
      after_number coding path T n at []
      ≡ after_recursive_count T (elements_fit T) n (line at path (Count n) ∷ []) at
  unfolding IsFit
  recursive_open zero bound fits E n fit is ok pos = absurd fit
  recursive_open (suc d) bound fits E zero fit is ok pos = absurd (omega arith)
  recursive_open (suc d) bound true E (suc n) fit is ok pos =
      let below : IsFit d E = (rw is at fit) refl in search (arith, first_part, read_none)
  recursive_open (suc d) bound false E (suc n) fit is ok pos = rw (is, ok) refl

pub member_case : (T : Ty) (i : ℕ) → IsUnion (shape_in T) → HasMember (shape_in T) i → HasCase T i
member_case (Union (Cases n) scalar select names cases) i u h = h
member_case (Union Tag scalar select names cases) i u h = h
member_case (Encapsulation T) i u h = absurd u
member_case (Struct n names parts) i u h = absurd u
member_case (Array n T) i u h = absurd u
member_case (Sequence bound T) i u h = absurd u
member_case (Single (Plain p)) i u h = absurd u
member_case (Single (Enum n names)) i u h = absurd u
member_case (Text bound) i u h = absurd u
member_case (Octets kind) i u h = absurd (octets_no_union kind u)
member_case (Single (Marked mark)) i u h = absurd u
member_case (Recursive bound fits T) i u h = absurd u
member_case (Led k F rest) i u h = absurd u

-- a union after a discriminator that is a value
module _ (coding : Coding) (path : List PathSegment) (at : ℕ) (number : Taken) where
  pub case_transition : (d : ℕ) (T : Ty) (i : ℕ) (is : IsNumberOf (switch_of T) number) →
      IsFit d T → IsUnion (shape_in T) → select_in T is.n ≡ Case i → HasCase T i →
      TransitionGives T (transitions.Selected i) (outputs.Switch number) [] [] path at
      (after_number coding path T is.n at [])
  unfolding IsFit
  case_transition zero T i is fit u e h = absurd fit
  case_transition (suc d) (Union choice scalar select names cases) i is fit u e h =
      let s : scalar ≡ is.scalar = same_scalar scalar is.scalar is.is in
      let w : number_fault scalar is.n ≡ None = rw s is.right in
      record {
        lines = line at (path ++ Switch (discriminator_name choice scalar names) ∷ [])
            (ReadResult.Number is.scalar is.n) ∷ [];
        comes = rw (
          w,
          e,
          read_none coding (inner_path path (Union choice scalar select names cases)
              i) d (cases i) at (fit.1 i h),
        ) (ap (λ k.
            Short (line at (path ++ Switch (discriminator_name choice scalar names) ∷ [])
            (ReadResult.Number k is.n) ∷ []) at
            (Member (Union choice scalar select names cases) i ∷ start_outer (cases i))
            (start_leaf (cases i))) s);
        says = (is, refl);
      }
  case_transition (suc d) (Struct n names parts) i is fit u e h = absurd u
  case_transition (suc d) (Array n T) i is fit u e h = absurd u
  case_transition (suc d) (Sequence bound T) i is fit u e h = absurd u
  case_transition (suc d) (Single (Plain p)) i is fit u e h = absurd u
  case_transition (suc d) (Single (Enum n names)) i is fit u e h = absurd u
  case_transition (suc d) (Text bound) i is fit u e h = absurd u
  case_transition (suc d) (Octets kind) i is fit u e h = absurd (octets_no_union kind u)
  case_transition (suc d) (Single (Marked mark)) i is fit u e h = absurd u
  case_transition (suc d) (Recursive bound fits T) i is fit u e h = absurd u
  case_transition (suc d) (Led k F rest) i is fit u e h = absurd u
  case_transition (suc d) (Encapsulation T) i is fit u e h = absurd u

  pub turns_nothing : (T : Ty) (is : IsNumberOf (switch_of T) number) → IsUnion (shape_in T) →
      select_in T is.n ≡ Nothing →
      TransitionGives T transitions.Ended (outputs.Switch number) [] [] path at
      (after_number coding path T is.n at [])
  turns_nothing (Union choice scalar select names cases) is u e =
      let s : scalar ≡ is.scalar = same_scalar scalar is.scalar is.is in
      let w : number_fault scalar is.n ≡ None = rw s is.right in
      record {
        lines = line at (path ++ Switch (discriminator_name choice scalar names) ∷ [])
            (ReadResult.Number is.scalar is.n) ∷ [];
        comes = rw (w, e) (ap (λ k. Done (line at (path
            ++ Switch (discriminator_name choice scalar names) ∷ [])
            (ReadResult.Number k is.n) ∷ []) at []) s);
        says = (is, refl);
      }
  turns_nothing (Struct n names parts) is u e = absurd u
  turns_nothing (Array n T) is u e = absurd u
  turns_nothing (Sequence bound T) is u e = absurd u
  turns_nothing (Single (Plain p)) is u e = absurd u
  turns_nothing (Single (Enum n names)) is u e = absurd u
  turns_nothing (Text bound) is u e = absurd u
  turns_nothing (Octets kind) is u e = absurd (octets_no_union kind u)
  turns_nothing (Single (Marked mark)) is u e = absurd u
  turns_nothing (Recursive bound fits T) is u e = absurd u
  turns_nothing (Led k F rest) is u e = absurd u
  turns_nothing (Encapsulation T) is u e = absurd u

  pub turns_refused : (T : Ty) (is : IsNumberOf (switch_of T) number) → IsUnion (shape_in T) →
      select_in T is.n ≡ Refused →
      TransitionGives T (transitions.Refused kinds.Disposition) outputs.Nothing [] [] path at
      (after_number coding path T is.n at [])
  turns_refused (Union choice scalar select names cases) is u e = search (arith, same_scalar)
  turns_refused (Struct n names parts) is u e = absurd u
  turns_refused (Array n T) is u e = absurd u
  turns_refused (Sequence bound T) is u e = absurd u
  turns_refused (Single (Plain p)) is u e = absurd u
  turns_refused (Single (Enum n names)) is u e = absurd u
  turns_refused (Text bound) is u e = absurd u
  turns_refused (Octets kind) is u e = absurd (octets_no_union kind u)
  turns_refused (Single (Marked mark)) is u e = absurd u
  turns_refused (Recursive bound fits T) is u e = absurd u
  turns_refused (Led k F rest) is u e = absurd u
  turns_refused (Encapsulation T) is u e = absurd u

-- the number of a union's discriminator is a value of its type
pub taken_number : (T U : Ty) (number : Taken) (is : IsNumberOf U number) → T ≡ U →
    interpreted_in T is.n ≡ Some number
taken_number T U number is e = rw (e, is.is) is.taken

-- ---- encapsulations

pub no_order : (b : ℕ) → b ≢ 0 → b ≢ 1 → order_of b ≡ None
no_order zero h k = absurd (h refl)
no_order (suc zero) h k = absurd (k refl)
no_order (suc (suc b)) h k = refl

module _ (coding : Coding) (path : List PathSegment) (at : ℕ) where
  pub size_none : (T : Ty) → IsEncapsulation T →
      after_number coding path T 0 at [] ≡ Fault (line at path (Size 0) ∷ []) at kinds.EncapShort T
  size_none (Encapsulation T) h = refl
  size_none _ h = absurd h

  pub size_some : (T : Ty) (left : ℕ) → IsEncapsulation T →
      after_number coding path T (suc left) at []
      ≡ Short (line at path (Size (suc left)) ∷ []) at []
      (Opening T left)
  size_some (Encapsulation T) left h = search (arith, block_none, lit<)
  size_some _ left h = absurd h

module _ (coding : Coding) (path : List PathSegment) (T : Ty) (count here b : ℕ) where
  pub order_bad : order_of b ≡ None → leaf_step coding path (Opening T (count - 1)) here b
      ≡ Fault [] (here + 1) kinds.EncapOrder T
  order_bad e = search (arith, block_step_got)

  -- what comes after the octet that gives a byte order
  pub order_transition : (d : ℕ) (order : Order) → IsFit d T → IsEncapsulation T →
      order_of b ≡ Some order →
      TransitionGives T (transitions.Entered order count) (outputs.Ordered order) [] [] path
      (here + 1) (leaf_step coding path (Opening T (count - 1)) here b)
  unfolding IsFit
  order_transition zero order fit kind e = absurd fit
  order_transition (suc d) order fit kind e = search (
    arith,
    block_step_got,
    take-nil,
    drop-nil,
    read_none,
    fit_held,
    with_front-enclosed,
  )
