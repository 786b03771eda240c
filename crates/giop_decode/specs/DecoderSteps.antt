-- What one octet does to the fields of a decoder (steps).
use Rattle.std.specs.Prelude.{◌≡◌, ℕ, ◌+◌, ◌-◌, ◌<◌, Bool, true, false, List, [], length, Option, Some, None}
use Rattle.giop_decode.specs.declared.decoder.Decoder.{Decoder}
use Rattle.giop_decode.specs.declared.frame.Frame.{Frame}
use Rattle.giop_decode.specs.declared.leaf.Leaf.{Leaf as Innermost}
use Rattle.giop_decode.specs.declared.leaf.Transition.{Transition}
use Rattle.giop_decode.specs.declared.leaf.Transition.TheVariants as transitions
use Rattle.giop_decode.specs.declared.leaf.Output.{Output}
use Rattle.giop_decode.specs.declared.progress.Progress.{Progress}
use Rattle.giop_decode.specs.declared.progress.Progress.TheVariants as progress
use Rattle.giop_decode.specs.ReadResult.{Coding, ValueAt, Leaf, LeadingNumber, Read, Fault, Done}
use Rattle.giop_decode.specs.declared.progress.ValueFault.TheVariants as kinds
use Rattle.giop_decode.specs.Fits.{OpenPartsFit}
use Rattle.giop_decode.specs.Reading.{none_left, done_if_untyped}
use Rattle.giop_decode.specs.ReadingSteps.{resume_outer, root_step}
use Rattle.giop_decode.specs.NameBuffer.{string_offset}
use Rattle.giop_decode.specs.NotingSteps.{transition_offset}
use Rattle.giop_decode.specs.Noted.{is_header_root, names_operation}
use Rattle.giop_decode.specs.SeenState.{read_by_fields}
use Rattle.giop_decode.specs.Transitions.{open_parts, short_unless_ended, leaf_of, leaf_type, tree_in, after_transition, held_after_output, within_of, AreKnown, HaveOctetsLeft, HoldsOnlyItsOwn, Link}
use Rattle.giop_sig.specs.Types.{Ty}
use Rattle.giop_sig.specs.Fits.{IsFit}
use Rattle.giop_sig.specs.Table.{Table}
use Rattle.giop_sig.specs.Trees.{tree}

-- the reading that the fields of a decoder stand for; it is a fault if an encapsulation has ended
-- before its value
abbrev pub read_unless_ended_with : (C : Table) (frames : List Frame)
    (held_of_number held_of_piece : List ℕ) (leaf : Option Innermost) (lines : List ValueAt)
    (offset_reached : ℕ) → Read
read_unless_ended_with C frames carry piece None lines at = Done lines at []
read_unless_ended_with C frames carry piece (Some leaf) lines at =
    short_unless_ended C lines at frames (leaf_of C frames leaf carry piece)

abbrev pub read_unless_ended : (C : Table) (d : Decoder) (leaf : Option Innermost)
    (lines : List ValueAt) (offset_reached : ℕ) → Read
read_unless_ended C d leaf lines at = read_unless_ended_with C d.outer.items d.carry d.piece.items
    leaf lines at

-- the reading that the fields of a decoder stand for after a transition of the innermost part
abbrev pub transition_result : (C : Table) (type_if_refused : Ty) (d : Decoder)
    (transition : Transition) (lines : List ValueAt) (offset_reached : ℕ) → Read
transition_result C T d (transitions.Refused kind) lines at = Fault lines at kind T
transition_result C T d transition lines at = read_unless_ended C d d.leaf lines at

-- the innermost part of a decoder
abbrev pub leaf_in : (C : Table) (d : Decoder) (leaf : Option Innermost) → Leaf
leaf_in C d None = LeadingNumber (tree C 0) []
leaf_in C d (Some leaf) = leaf_of C d.outer.items leaf d.carry d.piece.items

-- one more octet, from the fields of a decoder
abbrev pub decoder_step : (coding : Coding) (C : Table) (d : Decoder)
    (octet_offset next_octet : ℕ) → Read
decoder_step coding C d here octet =
    root_step coding [] (open_parts C here d.outer.items) (leaf_in C d d.leaf) here octet

-- the answer agrees with the decoder after a step with these lines, and with the reading; `named`
-- says whether a value that goes on has just named its operation
abbrev pub ProgressAgrees : (C : Table) (d : Decoder) (operation_named : Bool) (progress : Progress)
    (lines : List ValueAt) (offset_after_octet : ℕ) (r : Read) → Type 0
ProgressAgrees C d named progress.More lines at r =
    (r ≡ read_by_fields C d lines at) × ((leaf : Innermost) × (d.leaf ≡ Some leaf))
    × (named ≡ false)
ProgressAgrees C d named progress.Named lines at r =
    (r ≡ read_by_fields C d lines at) × ((leaf : Innermost) × (d.leaf ≡ Some leaf)) × (named ≡ true)
ProgressAgrees C d named progress.Done lines at r = (r ≡ read_by_fields C d lines at)
    × (d.leaf ≡ None)
ProgressAgrees C d named (progress.Fault kind) lines at r = (T : Ty) × (r ≡ Fault lines at kind T)

-- the answer to an octet that breaks no rule: the value goes on as long as it has an innermost
-- part; `ended` says whether an encapsulation has ended
abbrev pub IsUnrefusedProgress : (operation_named encapsulation_ended : Bool)
    (next_leaf : Option Innermost) (p : Progress) → Type 0
IsUnrefusedProgress named ended None p = p ≡ progress.Done
IsUnrefusedProgress named true (Some leaf) p = p ≡ progress.Fault kinds.EncapShort
IsUnrefusedProgress true false (Some leaf) p = p ≡ progress.Named
IsUnrefusedProgress false false (Some leaf) p = p ≡ progress.More

-- the answer to an octet, from its transition; a rule that the octet breaks comes first
abbrev pub IsProgress : (operation_named encapsulation_ended : Bool) (transition : Transition)
    (next_leaf : Option Innermost) (p : Progress) → Type 0
IsProgress named ended (transitions.Refused kind) leaf p = p ≡ progress.Fault kind
IsProgress named ended transition leaf p = IsUnrefusedProgress named ended leaf p

-- the answer agrees with the reading after a step with some lines
abbrev pub AgreesWithReading : (C : Table) (d : Decoder) (p : Progress) (offset_after_octet : ℕ)
    (r : Read) → Type 0
AgreesWithReading C d p at r =
    (lines : List ValueAt)
    × ProgressAgrees C d (names_operation (is_header_root d.head.root) lines) p lines at r

-- a transition that breaks no rule
abbrev pub IsNotRefused : (transition : Transition) → Type 0
IsNotRefused (transitions.Refused kind) = ⊥
IsNotRefused transition = Unit {0}

-- the parts around an innermost part of this type, whatever is held of it
pub record FitsAroundPart (C : Table) (d : Decoder) (part_type_index : ℕ) : Type 0 where
  pub known : part_type_index < length C.types
  pub known_outer : AreKnown C d.outer.items
  pub inside : d.inside ≡ within_of d.outer.items
  pub ahead : HaveOctetsLeft d.outer.items
  pub are_open : (here : ℕ) × OpenPartsFit 24 (open_parts C here d.outer.items)
  pub room : length d.outer.items < 24
  pub fit : IsFit (24 - length d.outer.items) (tree_in C d.outer.items part_type_index)
  pub at : d.at < 8

-- the reading after a transition of that part, within the parts around it, with these lines
abbrev pub root_after_transition : (coding : Coding) (C : Table) (d : Decoder) (part_type_index : ℕ)
    (transition : Transition) (output : Output) (lines : List ValueAt) (octet_offset : ℕ) → Read
root_after_transition coding C d of transition output lines here =
    done_if_untyped none_left (resume_outer coding [] (open_parts C here d.outer.items)
    (after_transition (tree_in C d.outer.items of) transition d.carry
    (held_after_output output d.piece.items) lines (here + 1)))

-- the decoder after that transition: the innermost part that comes next, and the parts around it
pub record IsAfterTransition (C : Table) (d new : Decoder) (part_type_index : ℕ)
    (transition : Transition) : Type 0 where
  pub known_outer : AreKnown C new.outer.items
  pub inside : new.inside ≡ within_of new.outer.items
  pub ahead : HaveOctetsLeft new.outer.items
  pub known : (leaf : Innermost) → new.leaf ≡ Some leaf → leaf_type leaf < length C.types
  pub clean : (leaf : Innermost) → new.leaf ≡ Some leaf →
      HoldsOnlyItsOwn leaf new.carry new.piece.items
  pub link : (root : ℕ) (leaf : Innermost) → Link C root d.outer.items part_type_index →
      new.leaf ≡ Some leaf →
      Link C root new.outer.items (leaf_type leaf)
  pub going : IsNotRefused transition
  pub offset : (leaf : Innermost) → new.leaf ≡ Some leaf →
      string_offset (tree_in C new.outer.items (leaf_type leaf)) leaf
      ≡ transition_offset (tree_in C d.outer.items part_type_index) transition
