-- A decoder before the first octet.
use Rattle.std.proofs.Common.{◌≡◌, ℕ, true, ◌+◌, ◌%◌, ◌<◌, [], length, Some, subst, sym, add-zero, inl, inr, arith}
use Rattle.giop_decode.proofs.Rooted.{whole_none}
use Rattle.giop_decode.specs.declared.decoder.Decoder.{Decoder}
use Rattle.giop_decode.specs.declared.leaf.Leaf.TheVariants as innermost
use Rattle.giop_decode.specs.Begins.{start_outer, start_leaf}
use Rattle.giop_decode.specs.Fits.{IsSoundReading}
use Rattle.giop_decode.specs.Noted.{nothing_noted}
use Rattle.giop_decode.proofs.NameBuffer.{nothing_fits, nothing_of_root}
use Rattle.giop_decode.specs.SeenState.{CanStandAt, Fits, KeepsNoted, Reads, HoldsNoKey, HoldsNoted, read_by_fields}
use Rattle.giop_decode.specs.Reading.{reading}
use Rattle.giop_decode.specs.ReadResult.{Coding, IsEvenFrom, message_coding, LeadingNumber, Short}
use Rattle.giop_decode.specs.Transitions.{open_parts, within_of, AreKnown, Link, HaveOctetsLeft, StandAt, tree_in}
use Rattle.giop_decode.proofs.Around.{read_none}
use Rattle.giop_decode.proofs.Sound.{read_keeps}
use Rattle.giop_print.specs.declared.path.Root.{Root}
use Rattle.giop_sig.specs.declared.types.TypeId.{TypeId}
use Rattle.giop_sig.specs.Fits.{IsFit, IsEmptyStruct, IsRoot}
use Rattle.giop_sig.specs.Table.{Table}
use Rattle.giop_sig.specs.Trees.{tree}
use Rattle.giop_sig.specs.Types.{Ty}

pub begins_at : (coding : Coding) (d : Decoder) (at : ℕ) → d.order ≡ coding.order →
    coding.phase at % 8 ≡ d.at → IsEvenFrom coding at → StandAt at d.outer.items →
    CanStandAt coding d (at + length {A = ℕ} [])
begins_at coding d at order phase even stand =
    subst (CanStandAt coding d) (sym (add-zero at))
    (record { order = order; phase = phase; even = even; outer = stand })

module _ (C : Table) (T : Ty) (coding : Coding) (at message : ℕ) (root : Root) (d : Decoder) where
  -- a type that isn't the empty struct begins with a number
  pub first_reads : (first : TypeId) → IsFit 24 T → d.leaf ≡ Some (innermost.Number first) →
      d.carry ≡ [] → ((here : ℕ) → open_parts C here d.outer.items ≡ start_outer T) →
      StandAt at d.outer.items → start_leaf T ≡ LeadingNumber (tree_in C d.outer.items first.0) [] →
      HoldsNoted C true d.notes nothing_noted → d.forbids_wide ≡ C.forbids_wide → d.order
      ≡ coding.order → d.head.message ≡ message →
      d.head.root ≡ root →
      coding.phase at % 8 ≡ d.at → IsEvenFrom coding at → Reads C T coding at message root d []
  first_reads first fit goes_on empty are stand leaf recalls forbids_wide order same_message
      same_root phase even =
      let is : reading coding [] T at [] ≡ read_by_fields C d [] (at + length {A = ℕ} []) =
      search (arith, whole_none, add-zero) in
      let noted : KeepsNoted C root d (reading coding [] T at []) = search (arith, whole_none) in
      record {
        lines = [];
        is = is;
        keeps_noted = noted;
        forbids_wide = forbids_wide;
        same_message = same_message;
        same_root = same_root;
        offset = begins_at coding d at order phase even stand;
      }

pub first_fits : (C : Table) (of : ℕ) (d : Decoder) (first : TypeId) → of < length C.types →
    IsFit 24 (tree C of) → d.leaf ≡ Some (innermost.Number first) → d.carry ≡ [] →
    d.piece.items ≡ [] → ((here : ℕ) → open_parts C here d.outer.items ≡ start_outer (tree C of)) →
    StandAt d.at d.outer.items → HaveOctetsLeft d.outer.items → d.inside ≡ within_of d.outer.items →
    start_leaf (tree C of) ≡ LeadingNumber (tree_in C d.outer.items first.0) [] → Link C of
    d.outer.items first.0 →
    AreKnown C d.outer.items → first.0 < length C.types → d.at < 8 →
    HoldsNoted C true d.notes nothing_noted → HoldsNoKey d.notes.buffer → d.forbids_wide
    ≡ C.forbids_wide → Fits C d
first_fits C of d first known_root fit goes_on empty none are stand ahead inside leaf link
    known_outer known at none_noted no_key forbids_wide =
    let T = tree C of in
    let sound : IsSoundReading T (0 + 0) (Short [] 0 (start_outer T) (start_leaf T)) =
    subst (IsSoundReading T (0 + 0)) (read_none (message_coding d.order) [] 24 T 0 fit)
    (read_keeps 24 (message_coding d.order) [] T fit 0 []) in
    record {
      leaf = innermost.Number first;
      goes_on = goes_on;
      root = of;
      known_root = known_root;
      link = link;
      fit = fit;
      forbids_wide = forbids_wide;
      here = d.at;
      stands = stand;
      fits = rw (are d.at, empty, ← leaf) sound.1;
      ahead = ahead;
      inside = inside;
      known_outer = known_outer;
      known = known;
      clean = none;
      at = at;
      of_root = nothing_of_root C d.head.root d.notes none_noted no_key;
      name = nothing_fits C d.head.root d.notes none_noted;
    }

-- a type that can be at the root fits, unless it is the empty struct
pub fit_some : (T : Ty) → IsRoot T → (IsEmptyStruct T → ⊥) → IsFit 24 T
fit_some T (inl fit) some = fit
fit_some T (inr empty) some = absurd (some empty)
