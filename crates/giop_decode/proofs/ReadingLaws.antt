-- What the crates above may use of the reading of a value, beside its contracts: lemmas on the
-- public definitions, each proved in the file that it names. Of the other files of this crate's
-- proofs only `NotedKeys` can be cited from outside.
use Rattle.std.specs.List.{AllByRecursion as Each}
use Rattle.std.proofs.Common.{◌≡◌, ℕ, suc, ◌+◌, ◌<◌, Bool, false, List, [], ◌∷◌, ◌++◌, length, Option}
use Rattle.giop_cdr.specs.declared.order.Order.{Order}
use Rattle.giop_print.specs.declared.path.Root.{Root}
use Rattle.giop_sig.specs.Fits.{IsFit}
use Rattle.giop_sig.specs.Table.{Table, seen}
use Rattle.giop_decode.specs.Transitions.{FrameIndexFits}
use Rattle.giop_sig.specs.HeaderTypes.{IsTable}
use Rattle.giop_sig.specs.Trees.{catalogue_depth, tree_at}
use Rattle.giop_sig.specs.Types.{Scalar, Ty, part_of, width}
use Rattle.giop_decode.specs.declared.decoder.Decoder.{Decoder}
use Rattle.giop_decode.specs.DecoderState.{Fits}
use Rattle.giop_decode.specs.ReadResult.{Coding, PathSegment, Switch, ValueAt, OpenPart, Part, Leaf, Read, Done, Short, with_front, within, lines_of}
use Rattle.giop_decode.specs.Pieces.{Partial, block, number}
use Rattle.giop_decode.proofs.Rooms as rooms
use Rattle.giop_decode.proofs.Rooted as rooted
use Rattle.giop_decode.specs.Reading.{type_at_cut, parts_from, read, reading, encapsulation_rest}
use Rattle.giop_decode.specs.Begins.{start_outer, start_leaf}
use Rattle.giop_decode.specs.ReadingSteps.{IsOctetResult, IsEmptyResult, read_after_octet, part_at, resume_part, step, root_after_octet, root_step}
use Rattle.giop_decode.specs.Fits.{HasParts, IsSoundReading}
use Rattle.giop_decode.specs.Noted.{Noted, note_lines, in_string_content, ends_in_string, is_member, is_text}
use Rattle.giop_decode.specs.Runs.{added_lines_of_run}
use Rattle.giop_decode.specs.Spelling.{lines_text}
use Rattle.giop_decode.proofs.Codings as codings
use Rattle.giop_decode.proofs.Law as law
use Rattle.giop_decode.proofs.Enclosing as enclosing
use Rattle.giop_decode.proofs.OctetResults as now
use Rattle.giop_decode.proofs.Around as around
use Rattle.giop_decode.proofs.Sound as sound
use Rattle.giop_decode.proofs.Resuming as resuming
use Rattle.giop_decode.proofs.Noting as hearing
use Rattle.giop_decode.proofs.Runs as runs
use Rattle.giop_decode.proofs.Depths as depths
use Rattle.giop_decode.proofs.Versions as versions

-- The laws of `reading_laws`: one more octet is one step;
pub read_goes : (coding : Coding) (path : List PathSegment) (T : Ty) (at : ℕ) (s : List ℕ) (b : ℕ) →
    read coding path T at (s ++ b ∷ []) ≡ read_after_octet coding path (read coding path T at s) b
read_goes coding path T at s b = enclosing.read_goes coding path T at s b

-- a step has at most one line, which is at its octet;
pub step_now : (coding : Coding) (path : List PathSegment) (outer : List OpenPart) (leaf : Leaf)
    (at b : ℕ) →
    IsOctetResult (at + 1) (step coding path outer leaf at b)
step_now coding path outer leaf at b = now.step_now coding path outer leaf at b

-- the parts that have begun fit into the type.
pub read_keeps : (d : ℕ) (coding : Coding) (path : List PathSegment) (T : Ty) → IsFit d T →
    (at : ℕ) (s : List ℕ) → IsSoundReading T (at + length s) (read coding path T at s)
read_keeps d coding path T fit at s = sound.read_keeps d coding path T fit at s

-- Lines before a reading, and what is noted of them.

pub lines_front : (front : List ValueAt) (r : Read) →
    lines_of (with_front front r) ≡ front ++ lines_of r
lines_front front r = resuming.lines_front front r

pub noted-append : (header : Bool) (h : Noted) (xs ys : List ValueAt) →
    note_lines header h (xs ++ ys) ≡ note_lines header (note_lines header h xs) ys
noted-append header h xs ys = resuming.noted-append header h xs ys

pub front_inside : (front : List ValueAt) (r : Read) →
    ends_in_string (with_front front r) ≡ ends_in_string r
front_inside front r = hearing.front_inside front r

-- The result of one octet is such a result inside a part, too.
pub now_within : (n : ℕ) (place : OpenPart) (r : Read) → IsOctetResult n r →
    IsOctetResult n (within place r)
now_within n place r h = now.now_within n place r h

-- the type that an encapsulation's end cuts off inside a string is a string
pub cut_inside : (leaf : Leaf) → is_text (type_at_cut leaf) ≡ in_string_content leaf
cut_inside leaf = hearing.cut_inside leaf

-- a discriminator is no member
pub switch_member : (name : List ℕ) (path : List PathSegment) (tag : Option (List ℕ)) →
    is_member name (path ++ Switch tag ∷ []) ≡ false
switch_member name path tag = hearing.switch_member name path tag

-- No octets give no line: neither of a value, nor of its parts, nor of the parts from an index on,

pub read_quiet : (coding : Coding) (path : List PathSegment) (T : Ty) (n : ℕ) →
    IsEmptyResult n (read coding path T n [])
read_quiet coding path T n = now.read_quiet coding path T n

-- nor of what is left of an encapsulation
pub rest_quiet : (n : ℕ) (path : List PathSegment) (T : Ty) (k : ℕ) →
    IsEmptyResult n (encapsulation_rest path T k n [])
rest_quiet n path T k = now.rest_quiet n path T k

pub quiet_within : (n : ℕ) (place : OpenPart) (r : Read) → IsEmptyResult n r →
    IsEmptyResult n (within place r)
quiet_within n place r h = now.quiet_within n place r h

pub quiet_parts : (n : ℕ) (part : ℕ → ℕ → List ℕ → Read) →
    ((i : ℕ) → IsEmptyResult n (part i n [])) →
    (more i : ℕ) → IsEmptyResult n (parts_from part more i n [])
quiet_parts n part h more i = now.quiet_parts n part h more i

pub part_quiet : (coding : Coding) (path : List PathSegment) (T : Ty) (count n i : ℕ) →
    IsEmptyResult n (part_at coding path T count i n [])
part_quiet coding path T count n i = now.part_quiet coding path T count n i

pub parts_quiet : (coding : Coding) (path : List PathSegment) (T : Ty) (count n more i : ℕ) →
    IsEmptyResult n (parts_from (part_at coding path T count) more i n [])
parts_quiet coding path T count n more i = now.parts_quiet coding path T count n more i

-- A number and a block of octets, with octets still to come.

pub width_pos : (scalar : Scalar) → 0 < width scalar
width_pos scalar = law.width_pos scalar

pub number_none : (phase : ℕ → ℕ) (w n : ℕ) → number phase w n [] ≡ Partial [] n
number_none phase w n = law.number_none phase w n

pub block_waits : (n at : ℕ) (s : List ℕ) → length s < n → block n at s ≡ Partial s (at + length s)
block_waits n at s h = law.block_waits n at s h

-- When a part has ended and another part follows it, that other part begins.
pub next_part : (coding : Coding) (path : List PathSegment) (d : ℕ) (T : Ty) (i count at : ℕ) →
    IsFit (suc d) T → HasParts T count → suc i < count →
    resume_part coding path (Part T i count) (Done [] at [])
    ≡ Short [] at (Part T (suc i) count ∷ start_outer (part_of T (suc i)))
    (start_leaf (part_of T (suc i)))
next_part coding path d T i count at fit kind below =
    around.next_part coding path d T i count at fit kind below

-- On lists.

pub length_one_more : (s : List ℕ) (b : ℕ) → length (s ++ b ∷ []) ≡ length s + 1
length_one_more s b = law.length_one_more s b

pub each_append : {A : Type 0} (P : A → Type 0) (xs ys : List A) → Each P xs → Each P ys →
    Each P (xs ++ ys)
each_append P xs ys h k = now.each_append P xs ys h k

-- The text of the lines that more octets give: for no octets, and for two lists one after the
-- other.

pub text_none : (message : ℕ) (root : Root) (coding : Coding) (T : Ty) (at : ℕ) (s : List ℕ) →
    lines_text message root (added_lines_of_run coding T at s []) ≡ []
text_none message root coding T at s = runs.text_none message root coding T at s

pub text_both : (message : ℕ) (root : Root) (coding : Coding) (T : Ty) (at : ℕ) (s xs ys : List ℕ) →
    lines_text message root (added_lines_of_run coding T at s (xs ++ ys))
    ≡ lines_text message root (added_lines_of_run coding T at s xs) ++ lines_text message root
    (added_lines_of_run coding T at (s ++ xs) ys)
text_both message root coding T at s xs ys = runs.text_both message root coding T at s xs ys

-- A decoder has fewer parts that have begun and not ended than the types of the table are deep.
pub fits_depth : (C : Table) (d : Decoder) → IsTable C → Fits C d →
    length d.outer.items < catalogue_depth C
fits_depth C d laws fits =
    depths.fits_depth (seen d.forbids_wide C) d (versions.table_seen d.forbids_wide C laws) fits

-- a frame that is at a part of a type in one room is at a part of it in each room
pub within_in_room : (C : Table) (a b of : ℕ) (inside : Option Order) (i count : ℕ) →
    FrameIndexFits inside i count (tree_at C a of) → FrameIndexFits inside i count (tree_at C b of)
within_in_room C a b of inside i count h = rooms.within_in_room C a b of inside i count h

-- ---- reading a whole

pub reading_goes : (coding : Coding) (path : List PathSegment) (T : Ty) (at : ℕ) (s : List ℕ)
    (b : ℕ) → reading coding path T at (s ++ b ∷ [])
    ≡ root_after_octet coding path (reading coding path T at s) b
reading_goes coding path T at s b = enclosing.reading_goes coding path T at s b

pub root_now : (coding : Coding) (path : List PathSegment) (outer : List OpenPart) (leaf : Leaf)
    (at b : ℕ) → IsOctetResult (at + 1) (root_step coding path outer leaf at b)
root_now coding path outer leaf at b = rooted.whole_now coding path outer leaf at b

pub reading_keeps : (d : ℕ) (coding : Coding) (path : List PathSegment) (T : Ty) → IsFit d T →
    (at : ℕ) (s : List ℕ) → IsSoundReading T (at + length s) (reading coding path T at s)
reading_keeps d coding path T fit at s = rooted.whole_keeps d coding path T at s fit

pub reading_quiet : (coding : Coding) (path : List PathSegment) (T : Ty) (n : ℕ) →
    IsEmptyResult n (reading coding path T n [])
reading_quiet coding path T n = rooted.whole_quiet coding path T n

-- Two codings whose phases are the same at the octets of a list have the same reading of it.
pub reading_phased : (coding other : Coding) (path : List PathSegment) (T : Ty) (at : ℕ)
    (s : List ℕ) → coding.order ≡ other.order →
    ((here : ℕ) → here < at + length s → coding.phase here ≡ other.phase here) →
    reading coding path T at s ≡ reading other path T at s
reading_phased coding other path T at s order phases =
    codings.reading_agrees coding other path T at s order phases
