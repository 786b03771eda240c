-- What is noted of a reading line by line is what all its lines give at once. Of request ids this
-- is the first, and of enums and strings the last.
use Rattle.std.proofs.Common.{arith, ◌≡◌, ℕ, zero, suc, ◌+◌, ◌&&◌, Bool, true, false, List, [], ◌∷◌, ◌++◌, take, drop, Option, Some, None, refl, sym, ◌∙◌, ap, append_assoc, append-nil}
use Rattle.std.specs.Prelude.{cond, flat_map, codes}
use Rattle.std.specs.List.{cons_option, last_or}
use Rattle.std.proofs.lemmas.List.{take-append-drop}
use Rattle.giop_cdr.specs.declared.prim.Primitive.TheVariants as prims
use Rattle.giop_decode.specs.Noted.{Noted, expects_after, first_present, is_key_path, with_expects, note_line, note_value, note_lines, noted_of, without_name_if, ends_in_string, is_member, name_if_short, nothing_noted}
use Rattle.giop_decode.specs.NotedFromLines.{TextPiece, last_content, first_in, enum_of, enums, ulong_of, id_of, request_ids, expected_by, expectations, text_of, text_pieces, pieces_from, pieces_of, Strings, name_of, IsNotedOfReading}
use Rattle.giop_decode.specs.Reading.{read}
use Rattle.giop_decode.specs.ReadResult.{Coding, PathSegment, Value, Number, Piece, ValueAt, Read, lines_of}
use Rattle.giop_sig.specs.Types.{Plain, Enum, Ty, Text}
use Rattle.giop_decode.proofs.LastKeys.{left_key}
use Rattle.giop_decode.proofs.NotedKeys.{SameButKey, same_but_key}
use Rattle.giop_decode.proofs.WholeStrings.{read_strings}

-- what a line notes beside an object key
same_note : (is_header : Bool) (h : Noted) (l : ValueAt) → SameButKey (note_line is_header h l)
    (with_expects (note_value (is_header && is_member (codes "request_id") l.path) h l.value)
    (expects_after is_header l.path l.value h.expects_reply))
same_note is_header h l =
    same_but_key (is_header && is_key_path l.path)
    (with_expects (note_value (is_header && is_member (codes "request_id") l.path) h l.value)
    (expects_after is_header l.path l.value h.expects_reply)) l.value

-- the last of several values, with one more value in front of them
last_cons : (o x : Option ℕ) (xs : List ℕ) →
    last_or o (cons_option x xs) ≡ last_or (last_or o (cons_option x [])) xs
last_cons o None xs = refl
last_cons o (Some n) xs = refl

-- ---- the last enum

value_status : (is_id : Bool) (h : Noted) (value : Value) →
    (note_value is_id h value).status ≡ last_or h.status (cons_option (enum_of value) [])
value_status is_id h (Number (Plain p) n) = search (arith)
value_status is_id h (Number (Enum count names) n) = refl
value_status is_id h (Piece (Text bound) offset octets true) = refl
value_status is_id h (Piece (Text bound) offset octets false) = refl
value_status is_id h value = refl

left_status : (is_header : Bool) (h : Noted) (lines : List ValueAt) →
    (note_lines is_header h lines).status ≡ last_or h.status (enums lines)
left_status is_header h [] = refl
left_status is_header h (l ∷ ls) =
    left_status is_header (note_line is_header h l) ls
    ∙ (ap (λ o. last_or o (enums ls)) ((same_note is_header h l).status ∙ value_status
    (is_header && is_member (codes "request_id") l.path) h l.value)
    ∙ sym (last_cons h.status (enum_of l.value) (enums ls)))

-- ---- whether a reply is expected

-- one value says whether a reply is expected, or leaves what was said before
expects_one : (is_header : Bool) (path : List PathSegment) (value : Value) (before : Option Bool) →
    expects_after is_header path value before
    ≡ last_or before (cons_option (expects_after is_header path value None) [])
expects_one is_header path (Number (Plain prims.Boolean) n) before = search (arith)
expects_one is_header path (Number (Plain prims.Octet) n) before = search (arith)
expects_one is_header path value before = refl

last_expected : (o x : Option Bool) (xs : List Bool) →
    last_or o (cons_option x xs) ≡ last_or (last_or o (cons_option x [])) xs
last_expected o None xs = refl
last_expected o (Some n) xs = refl

left_expects : (is_header : Bool) (h : Noted) (lines : List ValueAt) →
    (note_lines is_header h lines).expects_reply
    ≡ last_or h.expects_reply (expectations is_header lines)
left_expects is_header h [] = refl
left_expects is_header h (l ∷ ls) =
    left_expects is_header (note_line is_header h l) ls
    ∙ (ap (λ o. last_or o (expectations is_header ls))
    ((same_note is_header h l).expects_reply
    ∙ expects_one is_header l.path l.value h.expects_reply)
    ∙ sym (last_expected h.expects_reply (expected_by is_header l) (expectations is_header ls)))

-- ---- the request id

kept : (is_id : Bool) (o : Option ℕ) → o ≡ first_present o (cond is_id None None)
kept true (Some n) = refl
kept true None = refl
kept false (Some n) = refl
kept false None = refl

value_id : (is_id : Bool) (h : Noted) (value : Value) →
    (note_value is_id h value).request_id ≡ first_present h.request_id
    (cond is_id (ulong_of value) None)
value_id is_id h (Number (Plain prims.ULong) n) = refl
value_id is_id h (Number (Enum count names) n) = kept is_id h.request_id
value_id is_id h (Piece (Text bound) offset octets true) = kept is_id h.request_id
value_id is_id h (Piece (Text bound) offset octets false) = kept is_id h.request_id
value_id is_id h value = kept is_id h.request_id

first_cons : (o x : Option ℕ) (xs : List ℕ) →
    first_present (first_present o x) (first_in xs) ≡ first_present o (first_in (cons_option x xs))
first_cons (Some n) x xs = refl
first_cons None (Some n) xs = refl
first_cons None None xs = refl

left_id : (is_header : Bool) (h : Noted) (lines : List ValueAt) →
    (note_lines is_header h lines).request_id
    ≡ first_present h.request_id (first_in (request_ids is_header lines))
left_id is_header h [] = kept true h.request_id
left_id is_header h (l ∷ ls) =
    let is_id = is_header && is_member (codes "request_id") l.path in
    left_id is_header (note_line is_header h l) ls
    ∙ (ap (λ o. first_present o (first_in (request_ids is_header ls)))
    ((same_note is_header h l).request_id ∙ value_id is_id h l.value)
    ∙ first_cons h.request_id (id_of is_header l) (request_ids is_header ls))

-- ---- the last whole string

value_name : (is_id : Bool) (h : Noted) (value : Value) (ps : List TextPiece) →
    last_content (note_value is_id h value).name (note_value is_id h value).so_far ps
    ≡ last_content h.name h.so_far (cons_option (text_of value) ps)
value_name is_id h (Piece (Text bound) offset octets true) ps = refl
value_name is_id h (Piece (Text bound) offset octets false) ps = refl
value_name is_id h (Number (Plain prims.ULong) n) ps = refl
value_name is_id h value ps = refl

left_name : (is_header : Bool) (h : Noted) (lines : List ValueAt) →
    (note_lines is_header h lines).name ≡ last_content h.name h.so_far (text_pieces lines)
left_name is_header h [] = refl
left_name is_header h (l ∷ ls) =
    let same = same_note is_header h l in
    left_name is_header (note_line is_header h l) ls
    ∙ rw (same.name, same.so_far) (value_name
    (is_header && is_member (codes "request_id") l.path) h l.value (text_pieces ls))

said_cut : (full offset : ℕ) (content : List ℕ) (name : Option (List ℕ)) (so_far : List ℕ)
    (ps : List TextPiece) → last_content name so_far (pieces_from full offset content ++ ps)
    ≡ last_content (name_if_short (so_far ++ content)) [] ps
said_cut zero offset content name so_far ps = refl
said_cut (suc full) offset content name so_far ps = search (
  arith,
  drop,
  take,
  append_assoc,
  take-append-drop,
  said_cut full (offset + 32) (drop 32 content) None (so_far ++ take 32
      content) ps,
)

said_all : (before : Option (List ℕ)) (contents : List (List ℕ)) →
    last_content (name_of before) [] (flat_map pieces_of contents)
    ≡ name_of (last_or before contents)
said_all before [] = refl
said_all before (c ∷ contents) = search (arith, said_cut, said_all (Some c) contents)

outside_name : (is_header : Bool) (r : Read) (strings : Strings r) → ends_in_string r ≡ false →
    (note_lines is_header nothing_noted (lines_of r)).name ≡ name_of (last_or None strings.contents)
outside_name is_header r strings outside =
    let whole : text_pieces (lines_of r) ≡ flat_map pieces_of strings.contents =
    rw (strings.lines, strings.none outside)
    (append-nil (flat_map pieces_of strings.contents)) in
    left_name is_header nothing_noted (lines_of r)
    ∙ (ap (last_content None []) whole ∙ said_all None strings.contents)

-- ---- all that is noted

without_name_id : (inside : Bool) (h : Noted) → (without_name_if inside h).request_id ≡ h.request_id
without_name_id true h = refl
without_name_id false h = refl

without_name_status : (inside : Bool) (h : Noted) → (without_name_if inside h).status ≡ h.status
without_name_status true h = refl
without_name_status false h = refl

without_name_expects : (inside : Bool) (h : Noted) →
    (without_name_if inside h).expects_reply ≡ h.expects_reply
without_name_expects true h = refl
without_name_expects false h = refl

without_name_key : (inside : Bool) (h : Noted) → (without_name_if inside h).key ≡ h.key
without_name_key true h = refl
without_name_key false h = refl

is_left : (is_header : Bool) (r : Read) → Strings r →
    IsNotedOfReading is_header r (noted_of is_header r)
is_left is_header r strings = search (
  arith,
  without_name_id,
  left_id,
  without_name_status,
  left_status,
  without_name_expects,
  left_expects,
  outside_name,
  without_name_key,
  left_key,
)

-- What is noted of any reading is what all its lines give at once.
pub read_left : (is_header : Bool) (coding : Coding) (path : List PathSegment) (T : Ty) (at : ℕ)
    (s : List ℕ) → IsNotedOfReading is_header (read coding path T at s)
    (noted_of is_header (read coding path T at s))
read_left is_header coding path T at s = search (arith, is_left, read_strings)
