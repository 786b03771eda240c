-- The steps of a number: if a rule is broken, if a value ends with the number, and if one begins
-- with it.
use Rattle.std.proofs.Common.{◌≡◌, ℕ, suc, ◌<◌, ◌≤◌, Bool, false, true, List, [], ◌∷◌, Option, Some, refl, arith, le-ltb}
use Rattle.giop_cdr.specs.declared.order.Order.{Order}
use Rattle.giop_cdr.specs.declared.prim.Primitive.{Primitive}
use Rattle.giop_cdr.specs.declared.prim.Primitive.TheVariants as prims
use Rattle.giop_decode.specs.declared.leaf.Output.TheVariants as outputs
use Rattle.giop_decode.specs.declared.leaf.Step.{Step}
use Rattle.giop_decode.specs.declared.leaf.Transition.TheVariants as transitions
use Rattle.giop_decode.specs.declared.progress.ValueFault.{ValueFault}
use Rattle.giop_decode.specs.declared.progress.ValueFault.TheVariants as kinds
use Rattle.giop_decode.specs.Fits.{HasContent, IsEncapsulation}
use Rattle.giop_decode.specs.Noted.{is_text}
use Rattle.giop_decode.specs.Pieces.{bound_fault}
use Rattle.giop_decode.specs.ReadResult.{Coding, PathSegment, Piece, line, Done, Fault, Read}
use Rattle.giop_decode.specs.Reading.{number_fault}
use Rattle.giop_decode.specs.ReadingSteps.{BreaksRule, after_number}
use Rattle.giop_decode.specs.Runs.{IsStepBy}
use Rattle.giop_decode.specs.Transitions.{TransitionGives, bound_fault_if}
use Rattle.giop_sig.specs.Types.{Scalar, Plain, Enum, Marked, Ty, Single, Text, OctetKind, Octets, bound_of, Recursive, Sequence, Union, Encapsulation, IsUnion, shape_in, switch_of}
use Rattle.giop_decode.proofs.OctetKinds.{octets_no_union}

pub union_silent : (T : Ty) → IsUnion (shape_in T) → is_text T ≡ false
union_silent (Text bound) is = absurd is
union_silent _ is = refl

pub held_silent : (T : Ty) → IsEncapsulation T → is_text T ≡ false
held_silent (Encapsulation T) kind = refl
held_silent _ kind = absurd kind

-- ---- a broken rule

pub refused_fits : (T : Ty) (of : ℕ) (s : Step) (kind : ValueFault) →
    s.transition ≡ transitions.Refused kind → s.output ≡ outputs.Nothing → BreaksRule kind →
    is_text T ≡ false → IsStepBy T of s
refused_fits T of s kind t o rule silent = record {
  transition_fits = rw t rule;
  has_output = rw o tt;
  output_fits_string = rw (t, o) silent;
  string_goes_on = λ n. rw t tt;
}

pub refused_gives : (T : Ty) (s : Step) (kind : ValueFault) (path : List PathSegment) (at : ℕ)
    (read : Read) → s.transition ≡ transitions.Refused kind → s.output ≡ outputs.Nothing →
    read ≡ Fault [] at kind T → TransitionGives T s.transition s.output [] [] path at read
refused_gives T s kind path at read t o e = record {
  lines = [];
  comes = rw t e;
  says = rw o refl;
}

module _ (coding : Coding) (path : List PathSegment) (T : Ty) (at : ℕ) where
  pub text_empty : (bound : Option ℕ) (n : ℕ) → T ≡ Text bound → n ≡ 0 →
      after_number coding path T n at [] ≡ Done (line at path (Piece T 0 [] false) ∷ []) at []
  text_empty bound n is none = rw (is, none) refl

  pub text_over : (bound : Option ℕ) (n : ℕ) → T ≡ Text bound → bound_fault bound n
      ≡ bound_fault_if true → after_number coding path T (suc n) at [] ≡ Fault [] at kinds.Bound T
  text_over bound n is great = rw (is, great) refl

  pub octets_over : (kind : OctetKind) (n : ℕ) → T ≡ Octets kind →
      bound_fault (bound_of kind) n ≡ bound_fault_if true →
      after_number coding path T n at [] ≡ Fault [] at kinds.Bound T
  octets_over kind n is great = rw (is, great) refl

  pub sequence_over : (bound : Option ℕ) (E : Ty) (n : ℕ) → T ≡ Sequence bound E →
      bound_fault bound n ≡ bound_fault_if true → after_number coding path T n at []
      ≡ Fault [] at kinds.Bound T
  sequence_over bound E n is great = rw (is, great) refl

  pub recursive_over : (bound : Option ℕ) (fits : Bool) (E : Ty) (n : ℕ) →
      T ≡ Recursive bound fits E → bound_fault bound n ≡ bound_fault_if true →
      after_number coding path T n at [] ≡ Fault [] at kinds.Bound T
  recursive_over bound fits E n is great = rw (is, great) refl

same_single : (s t : Scalar) → Single s ≡ Single t → s ≡ t
same_single s t e = cc

-- a union's discriminator that is no value of its type
pub switch_wrong : (coding : Coding) (path : List PathSegment) (T : Ty) (at : ℕ) (scalar : Scalar)
    (n : ℕ) (kind : ValueFault) → IsUnion (shape_in T) → switch_of T ≡ Single scalar →
    number_fault scalar n ≡ Some kind → after_number coding path T n at [] ≡ Fault [] at kind T
switch_wrong coding path (Union choice own select names cases) at scalar n kind is same bad =
    let e : own ≡ scalar = same_single own scalar same in
    let w : number_fault own n ≡ Some kind = rw e bad in
    rw w refl
switch_wrong coding path (Single (Plain p)) at scalar n kind is same bad = absurd is
switch_wrong coding path (Single (Enum count names)) at scalar n kind is same bad = absurd is
switch_wrong coding path (Single (Marked mark)) at scalar n kind is same bad = absurd is
switch_wrong coding path (Octets octets) at scalar n kind is same bad =
    absurd (octets_no_union octets is)
switch_wrong coding path _ at scalar n kind is same bad = absurd is

pub wrong_enum : (count : ℕ) (names : ℕ → List ℕ) (n : ℕ) → count ≤ n →
    number_fault (Enum count names) n ≡ Some kinds.Enum
wrong_enum count names n le = rw (le-ltb n count le) refl

pub wrong_boolean : (p : Primitive) (n : ℕ) → p ≡ prims.Boolean → 1 < n →
    number_fault (Plain p) n ≡ Some kinds.Boolean
wrong_boolean p n is lt = rw (is, le-ltb n 2 (omega arith)) refl

-- ---- the byte order of an encapsulation

pub entered_fits : (T : Ty) (of : ℕ) (s : Step) (order : Order) (count : ℕ) →
    s.transition ≡ transitions.Entered order count → s.output ≡ outputs.Ordered order →
    IsEncapsulation T → 0 < count → IsStepBy T of s
entered_fits T of s order count t o kind some = record {
  transition_fits = rw t (kind, some);
  has_output = rw o tt;
  output_fits_string = rw (t, o) (refl, refl);
  string_goes_on = λ n. rw (t, o) (refl, refl);
}

-- ---- a content without octets

pub piece_ended : (T : Ty) (of : ℕ) → HasContent T → IsStepBy T of (record {
  transition = transitions.Ended;
  output = outputs.Piece 0 false;
})
piece_ended (Text bound) of has = record {
  transition_fits = tt;
  has_output = tt;
  output_fits_string = refl;
  string_goes_on = λ n. (refl, refl);
}
piece_ended (Octets kind) of has = record {
  transition_fits = tt;
  has_output = tt;
  output_fits_string = refl;
  string_goes_on = λ n. (refl, refl);
}
piece_ended (Encapsulation T) of has = record {
  transition_fits = tt;
  has_output = tt;
  output_fits_string = refl;
  string_goes_on = λ n. (refl, refl);
}
piece_ended _ of has = absurd has
