-- What is noted of an octet's line, and which part is a member of the root.
use Rattle.std.specs.Prelude.{slice_index_or, codes}
use Rattle.std.proofs.Common.{◌≡◌, ◌≢◌, ℕ, ap, ◌&&◌, Bool, true, false, List, [], ◌∷◌, ◌++◌, length, append_assoc, refl, ◌∙◌, arith, Option, Some, None, sym, subst, ◌≤◌}
use Rattle.giop_cdr.specs.declared.prim.Primitive.TheVariants as prims
use Rattle.giop_decode.specs.declared.leaf.Leaf.{Leaf as Innermost}
use Rattle.giop_decode.specs.declared.leaf.Leaf.TheVariants as innermost
use Rattle.giop_decode.specs.declared.leaf.Transition.{Transition}
use Rattle.giop_decode.specs.declared.leaf.Output.{Output}
use Rattle.giop_decode.specs.declared.leaf.Output.TheVariants as outputs
use Rattle.giop_decode.specs.Noted.{Noted, note_value, expects_after, note_line, with_string_ended, with_string_piece, note_string_piece, with_key_piece, with_key_ended, may_have_key, note_key_piece, is_name, is_member, is_key_path, note_lines, noted_of, without_name_if, with_expects, in_string_content, names_operation, ends_in_string, is_text, nothing_noted}
use Rattle.giop_decode.specs.NotingSteps.{OutputFitsString, clears_name, leaf_in_string, transition_in_string}
use Rattle.giop_decode.specs.ReadResult.{Number, Leaf, Held, PathSegment, Name, Index, Switch, ValueAt, line, Value, Piece, OpenPart, Content, Read, Done, lines_of, with_front}
use Rattle.giop_decode.specs.declared.frame.Frame.{Frame}
use Rattle.giop_decode.specs.ReadingSteps.{path_in, segment_in}
use Rattle.giop_decode.specs.Transitions.{leaf_of, leaf_type, open_part, open_parts, tree_in, IsOutput}
use Rattle.giop_decode.proofs.Resuming.{noted-append, lines_front}
use Rattle.std.specs.Prelude.{IfSome}
use Rattle.giop_decode.specs.Fits.{IsEncapsulation}
use Rattle.giop_decode.specs.DecoderSteps.{read_unless_ended_with}
use Rattle.giop_decode.specs.Reading.{type_at_cut}
use Rattle.giop_decode.proofs.Surrounding.{unless_ended}
use Rattle.giop_sig.specs.declared.types.InterfaceId.{InterfaceId}
use Rattle.giop_sig.specs.Table.{Table, has_keys, interface_in}
use Rattle.giop_decode.proofs.NotedKeys.{SameButKey, same_but_key}
use Rattle.giop_sig.specs.declared.types.Shape.TheVariants as shapes
use Rattle.giop_decode.specs.declared.notes.Notes.{Notes}
use Rattle.giop_decode.specs.SeenState.{HoldsNoted, IsInterfaceOfKey, key_octets_held, interface_of, interface_of_key}
use Rattle.std.proofs.Math.Bool.{and-false}
use Rattle.giop_sig.specs.Types.{Scalar, Ty, Single, Text, Octets, Raw, WideText, WideChar, Struct, Union, Sequence, Array, Plain, HasShape, shape_in, Encapsulation, Led, Recursive}

content_in : (T : Ty) (total offset : ℕ) (piece : List ℕ) →
    in_string_content (Content T total offset piece) ≡ is_text T
content_in (Text bound) total offset piece = refl
content_in _ total offset piece = refl

pub leaf_inside : (C : Table) (frames : List Frame) (leaf : Innermost) (carry piece : List ℕ) →
    in_string_content (leaf_of C frames leaf carry piece)
    ≡ leaf_in_string (tree_in C frames (leaf_type leaf)) leaf
leaf_inside C frames (innermost.Content of total offset) carry piece = search (arith, content_in)
leaf_inside C frames _ carry piece = refl

-- an encapsulation that ends inside a string cuts the string off
pub cut_inside : (leaf : Leaf) → is_text (type_at_cut leaf) ≡ in_string_content leaf
cut_inside (Content T total offset piece) = search (arith, content_in)
cut_inside _ = refl

pub unless_ended_inside : (ended : Bool) (lines : List ValueAt) (at : ℕ) (outer : List OpenPart)
    (leaf : Leaf) → ends_in_string (unless_ended ended lines at outer leaf) ≡ in_string_content leaf
unless_ended_inside true lines at outer leaf = cut_inside leaf
unless_ended_inside false lines at outer leaf = refl

-- the rest of an encapsulation is no string
pub rest_silent : (T : Ty) → IsEncapsulation T → is_text T ≡ false
rest_silent (Encapsulation T) h = refl
rest_silent _ h = absurd h

pub stopped_silent : (C : Table) (frames : List Frame) (carry piece : List ℕ)
    (leaf : Option Innermost) (lines : List ValueAt) (at : ℕ) →
    IfSome leaf (λ l. leaf_in_string (tree_in C frames (leaf_type l)) l ≡ false) →
    ends_in_string (read_unless_ended_with C frames carry piece leaf lines at) ≡ false
stopped_silent C frames carry piece None lines at h = refl
stopped_silent C frames carry piece (Some leaf) lines at h = search (
  arith,
  unless_ended_inside,
  leaf_inside,
)

text_inside : (T : Ty) (leaf : Innermost) → leaf_in_string T leaf ≡ true → is_text T ≡ true
text_inside T (innermost.Content of total offset) h = h
text_inside T _ h = cc

pub front_inside : (front : List ValueAt) (r : Read) →
    ends_in_string (with_front front r) ≡ ends_in_string r
front_inside front (Done lines at rest) = refl
front_inside front _ = refl

without_name_twice : (was : Bool) (h : Noted) →
    without_name_if true (without_name_if was h) ≡ without_name_if true h
without_name_twice true h = refl
without_name_twice false h = refl

-- what is noted of a piece: a piece of a string, or one of octets, which are in no string
piece_noted : (header : Bool) (T : Ty) (was more : Bool) (h : Noted) (path : List PathSegment)
    (at offset : ℕ) (octets : List ℕ) → (was ≡ true → is_text T ≡ true) →
    note_lines header (without_name_if was h) (line at path (Piece T offset octets more) ∷ [])
    ≡ without_name_if (is_text T && more)
    (note_lines header h (line at path (Piece T offset octets more) ∷ []))
piece_noted header (Text bound) true true h path at offset octets k = refl
piece_noted header (Text bound) true false h path at offset octets k = refl
piece_noted header (Text bound) false true h path at offset octets k = refl
piece_noted header (Text bound) false false h path at offset octets k = refl
piece_noted header (Octets kind) false more h path at offset octets k = refl
piece_noted header (Octets kind) true more h path at offset octets k = let e = k refl in cc
piece_noted header (Single scalar) false more h path at offset octets k = refl
piece_noted header (Single scalar) true more h path at offset octets k = let e = k refl in cc
piece_noted header (Struct n names parts) false more h path at offset octets k = refl
piece_noted header (Struct n names parts) true more h path at offset octets k = let e = k refl in cc
piece_noted header (Union choice scalar select names cases) false more h path at offset octets k =
    refl
piece_noted header (Union choice scalar select names cases) true more h path at offset octets k =
    let e = k refl in cc
piece_noted header (Sequence bound T) false more h path at offset octets k = refl
piece_noted header (Sequence bound T) true more h path at offset octets k = let e = k refl in cc
piece_noted header (Encapsulation T) false more h path at offset octets k = refl
piece_noted header (Encapsulation T) true more h path at offset octets k = let e = k refl in cc
piece_noted header (Array n T) false more h path at offset octets k = refl
piece_noted header (Array n T) true more h path at offset octets k = let e = k refl in cc
piece_noted header (Recursive bound fits T) false more h path at offset octets k = refl
piece_noted header (Recursive bound fits T) true more h path at offset octets k =
    let e = k refl in cc
piece_noted header (Led g F parts) false more h path at offset octets k = refl
piece_noted header (Led g F parts) true more h path at offset octets k = let e = k refl in cc

output_noted : (header : Bool) (T : Ty) (was : Bool) (transition : Transition) (output : Output)
    (path : List PathSegment) (at : ℕ) (piece : List ℕ) (lines : List ValueAt) (h : Noted) →
    OutputFitsString T was transition output → IsOutput T path at output piece lines →
    (was ≡ true → is_text T ≡ true) →
    without_name_if (clears_name output) (note_lines header (without_name_if was h) lines)
    ≡ without_name_if (transition_in_string T transition) (note_lines header h lines)
output_noted header T was transition outputs.Nothing path at piece lines h v says k =
    rw (says, v) refl
output_noted header T was transition outputs.Length path at piece lines h v says k = search (
  arith,
  without_name_twice,
)
output_noted header T was transition (outputs.Size size) path at piece lines h v says k =
    rw (v.0, v.1, says) refl
output_noted header T was transition (outputs.Ordered order) path at piece lines h v says k =
    rw (v.0, v.1, says) refl
output_noted header T was transition (outputs.Piece offset more) path at piece lines h v says k =
    search (arith, piece_noted)
output_noted header T was transition _ path at piece lines h v says k = rw (v.0, v.1) refl

-- What is noted of a reading is what its earlier lines note and then the lines of one octet.
pub noted_on : (header : Bool) (T : Ty) (leaf : Innermost) (transition : Transition)
    (output : Output) (path : List PathSegment) (at : ℕ) (piece : List ℕ) (front lines : List
    ValueAt)
    (r : Read) → OutputFitsString T (leaf_in_string T leaf) transition output →
    IsOutput T path at output piece lines →
    ends_in_string r ≡ transition_in_string T transition → lines_of r ≡ lines →
    without_name_if (clears_name output) (note_lines header (without_name_if (leaf_in_string T leaf)
    (note_lines header nothing_noted front)) lines) ≡ noted_of header (with_front front r)
noted_on header T leaf transition output path at piece front lines r v says inside are = search
    (arith, output_noted, text_inside, front_inside, lines_front, noted-append)

-- ---- pieces and members

-- A piece of neither a string nor an object key isn't noted, and names no operation.

pub silent_piece : (C : Table) (asked header : Bool) (T : Ty) (path : List PathSegment)
    (at offset : ℕ) (octets : List ℕ) (more : Bool) (h : Noted) (m : Notes) →
    ((bound : Option ℕ) → shape_in T ≡ shapes.Text bound → ⊥) →
    ((bound : Option ℕ) → shape_in T ≡ shapes.Octets bound → header && is_key_path path ≡ false) →
    HoldsNoted C asked m h →
    HoldsNoted C asked m (note_lines header h (line at path (Piece T offset octets more) ∷ []))
silent_piece C asked header (Text bound) path at offset octets more h m other key held =
    absurd (other bound refl)
silent_piece C asked header (Octets (Raw bound)) path at offset octets more h m other key held =
    rw (key bound refl) held
silent_piece C asked header (Octets WideText) path at offset octets more h m other key held = held
silent_piece C asked header (Octets WideChar) path at offset octets more h m other key held = held
silent_piece C asked header T path at offset octets more h m other key held = held

-- If a table has no KEYs, nothing is held of a key, and no key has an interface.
keyless : (C : Table) (so_far : List ℕ) → has_keys C ≡ false → key_octets_held C so_far ≡ []
keyless C [] none = refl
keyless C (x ∷ so_far) none = rw none refl

no_interface : (C : Table) (key : Option (List ℕ)) → ((k : List ℕ) → interface_in C k ≡ None) →
    interface_of_key C key ≡ None
no_interface C None none = refl
no_interface C (Some key) none = none key

still_whose : (C : Table) (asked : Bool) (i : Option InterfaceId) (before now : Option (List ℕ)) →
    ((k : List ℕ) → interface_in C k ≡ None) → IsInterfaceOfKey C asked i before →
    IsInterfaceOfKey C asked i now
still_whose C true i before now none is =
    is ∙ (no_interface C before none ∙ sym (no_interface C now none))
still_whose C false i before now none is = tt

keyless_noted : (C : Table) (asked : Bool) (m : Notes) (h k : Noted) → SameButKey k h →
    has_keys C ≡ false → ((key : List ℕ) → interface_in C key ≡ None) → HoldsNoted C asked m h →
    HoldsNoted C asked m k
keyless_noted C asked m h k same keys none held = record {
  request_id = held.request_id ∙ sym same.request_id;
  status = held.status ∙ sym same.status;
  interface = still_whose C asked (interface_of m.last) h.key k.key none held.interface;
  expects_reply = held.expects_reply ∙ sym same.expects_reply;
  name = rw (same.name, same.so_far, keyless C k.key_so_far keys)
      (rw (keyless C h.key_so_far keys) at held.name);
}

keyless_octets : (C : Table) (asked header : Bool) (path : List PathSegment) (at offset : ℕ)
    (octets : List ℕ) (more : Bool) (h : Noted) (m : Notes) (bound : Option ℕ) →
    has_keys C ≡ false → ((key : List ℕ) → interface_in C key ≡ None) → HoldsNoted C asked m h →
    HoldsNoted C asked m (note_lines header h
    (line at path (Piece (Octets (Raw bound)) offset octets more) ∷ []))
keyless_octets C asked header path at offset octets more h m bound =
    keyless_noted C asked m h _ (same_but_key (header && is_key_path path) h
    (Piece (Octets (Raw bound)) offset octets more))

pub keyless_piece : (C : Table) (asked header : Bool) (T : Ty) (path : List PathSegment)
    (at offset : ℕ) (octets : List ℕ) (more : Bool) (h : Noted) (m : Notes) (bound : Option ℕ) →
    HasShape T (shapes.Octets bound) → has_keys C ≡ false →
    ((key : List ℕ) → interface_in C key ≡ None) → HoldsNoted C asked m h →
    HoldsNoted C asked m (note_lines header h (line at path (Piece T offset octets more) ∷ []))
keyless_piece C asked header T path at offset octets more h m bound is keys none held =
    subst (λ U. HoldsNoted C asked m
    (note_lines header h (line at path (Piece U offset octets more) ∷ []))) (sym is)
    (keyless_octets C asked header path at offset octets more h m bound keys none held)

pub unnamed_piece : (header : Bool) (T : Ty) (path : List PathSegment) (at offset : ℕ)
    (octets : List ℕ) (more : Bool) → ((bound : Option ℕ) → shape_in T ≡ shapes.Text bound → ⊥) →
    false ≡ names_operation header (line at path (Piece T offset octets more) ∷ [])
unnamed_piece header (Text bound) path at offset octets more other = absurd (other bound refl)
unnamed_piece header T path at offset octets more other = search (arith, and-false)

-- the last piece of a string ends the string
pub piece_last : (h : Noted) (octets : List ℕ) (more : Bool) → more ≡ false →
    with_string_ended (with_string_piece h octets) ≡ note_string_piece h octets more
piece_last h octets more last = rw last refl

-- a piece of an object key in two parts is one piece
pub key_both : (h : Noted) (held rest : List ℕ) →
    with_key_piece (with_key_piece h held) rest ≡ with_key_piece h (held ++ rest)
key_both h held rest = search (arith, append_assoc)

-- a piece of an object key: one that isn't the last, and the last one
pub key_more : (h : Noted) (octets : List ℕ) (more : Bool) → may_have_key h ≡ true → more ≡ true →
    with_key_piece h octets ≡ note_key_piece h octets more
key_more h octets more may goes_on = rw (may, goes_on) refl

pub key_last : (h : Noted) (octets : List ℕ) (more : Bool) → may_have_key h ≡ true →
    more ≡ false → with_key_ended (with_key_piece h octets) ≡ note_key_piece h octets more
key_last h octets more may last = rw (may, last) refl

-- a piece of a string in two parts is one piece
pub piece_both : (h : Noted) (held rest : List ℕ) →
    with_string_piece (with_string_piece h held) rest ≡ with_string_piece h (held ++ rest)
piece_both h held rest = search (arith, append_assoc)

pub piece_more : (h : Noted) (octets : List ℕ) (more : Bool) → more ≡ true →
    with_string_piece h octets ≡ note_string_piece h octets more
piece_more h octets more e = rw e refl

-- only a part with one part around it is a member of the root
deep : (name : List ℕ) (x y : PathSegment) (zs : List PathSegment) (ps : List OpenPart) →
    false ≡ is_member name (path_in (x ∷ y ∷ zs) ps)
deep name (Name octets) y zs [] = refl
deep name (Index i) y zs [] = refl
deep name (Switch tag) y zs [] = refl
deep name Held y zs [] = refl
deep name x y zs (p ∷ ps) = deep name x y (zs ++ segment_in p ∷ []) ps

pub no_member : (name : List ℕ) (C : Table) (here : ℕ) (outer : List Frame) → length outer ≢ 1 →
    false ≡ is_member name (path_in [] (open_parts C here outer))
no_member name C here [] h = refl
no_member name C here (f ∷ []) h = absurd (h refl)
no_member name C here (f ∷ g ∷ outer) h = search (arith, deep)

-- a part with two parts around it is no object key if the outer of them isn't the target
pub no_target : (C : Table) (here : ℕ) (outer : List Frame) (d : Frame) → length outer ≡ 2 →
    is_name (codes "target") (segment_in (open_part C 24 here (slice_index_or outer 0 d))) ≡ false →
    is_key_path (path_in [] (open_parts C here outer)) ≡ false
no_target C here (f ∷ g ∷ []) d h other = rw other refl
no_target C here _ d h other = absurd (omega arith)

-- a part with more than two parts around it is no object key
deeper : (x y z : PathSegment) (zs : List PathSegment) (ps : List OpenPart) →
    false ≡ is_key_path (path_in (x ∷ y ∷ z ∷ zs) ps)
deeper x y z zs [] = refl
deeper x y z zs (p ∷ ps) = deeper x y z (zs ++ segment_in p ∷ []) ps

pub no_key : (C : Table) (here : ℕ) (outer : List Frame) → 3 ≤ length outer →
    false ≡ is_key_path (path_in [] (open_parts C here outer))
no_key C here [] h = absurd (omega arith)
no_key C here (f ∷ []) h = absurd (omega arith)
no_key C here (f ∷ g ∷ []) h = absurd (omega arith)
no_key C here (f ∷ g ∷ k ∷ outer) h = search (arith, deeper)

-- a discriminator is no member
pub switch_member : (name : List ℕ) (path : List PathSegment) (tag : Option (List ℕ)) →
    is_member name (path ++ Switch tag ∷ []) ≡ false
switch_member name [] tag = refl
switch_member name (Name octets ∷ []) tag = refl
switch_member name (Index i ∷ []) tag = refl
switch_member name (Switch other ∷ []) tag = refl
switch_member name (Held ∷ []) tag = refl
switch_member name (Name octets ∷ y ∷ path) tag = refl
switch_member name (Index i ∷ y ∷ path) tag = refl
switch_member name (Switch other ∷ y ∷ path) tag = refl
switch_member name (Held ∷ y ∷ path) tag = refl

-- so the number of a discriminator doesn't say whether a reply is expected
switch_expects : (header : Bool) (path : List PathSegment) (tag : Option (List ℕ)) (scalar : Scalar)
    (n : ℕ) (before : Option Bool) →
    expects_after header (path ++ Switch tag ∷ []) (Number scalar n) before ≡ before
switch_expects true path tag (Plain prims.Boolean) n before = search (arith, switch_member)
switch_expects true path tag (Plain prims.Octet) n before = search (arith, switch_member)
switch_expects false path tag (Plain prims.Boolean) n before = refl
switch_expects false path tag (Plain prims.Octet) n before = refl
switch_expects header path tag scalar n before = refl

-- nor does noting a number change whether a reply is expected
pub value_expects : (is_id : Bool) (h : Noted) (scalar : Scalar) (n : ℕ) →
    (note_value is_id h (Number scalar n)).expects_reply ≡ h.expects_reply
value_expects is_id h (Plain prims.ULong) n = refl
value_expects is_id h scalar n = refl

same_id : (header : Bool) (path : List PathSegment) (tag : Option (List ℕ)) (h : Noted)
    (value : Value) →
    note_value false h value ≡ note_value (header
    && is_member (codes "request_id") (path ++ Switch tag ∷ [])) h value
same_id true path tag h value = search (arith, switch_member)
same_id false path tag h value = refl

pub switch_noted : (header : Bool) (path : List PathSegment) (tag : Option (List ℕ)) (h : Noted)
    (scalar : Scalar) (n at : ℕ) →
    note_value false h (Number scalar n) ≡ note_line header h
    (line at (path ++ Switch tag ∷ []) (Number scalar n))
switch_noted header path tag h scalar n at =
    same_id header path tag h (Number scalar n)
    ∙ ap (with_expects (note_value (header
    && is_member (codes "request_id") (path ++ Switch tag ∷ [])) h (Number scalar n)))
    (value_expects (header && is_member (codes "request_id") (path ++ Switch tag ∷ [])) h scalar n
    ∙ sym (switch_expects header path tag scalar n h.expects_reply))
