-- The object key that is noted of a header line by line is the one that its pieces give all at
-- once.
use Rattle.std.proofs.Common.{◌≡◌, ℕ, ◌&&◌, Bool, true, false, List, [], ◌∷◌, ◌++◌, Option, Some, None, refl, sym, ◌∙◌, ap}
use Rattle.std.specs.Prelude.{cond}
use Rattle.std.specs.List.{cons_option}
use Rattle.std.proofs.lemmas.List.Elements.{filter_map-append}
use Rattle.giop_cdr.specs.declared.prim.Primitive.TheVariants as prims
use Rattle.giop_decode.specs.Noted.{Noted, is_key_path, with_key_ended, may_have_key, note_line, note_lines, nothing_noted, with_key_piece}
use Rattle.giop_decode.specs.NotedFromLines.{TextPiece, enum_of, enums, key_piece, key_pieces, last_content, piece, text_of, text_pieces}
use Rattle.giop_decode.specs.ReadResult.{PathSegment, Value, Number, Piece, ValueAt, line}
use Rattle.giop_decode.proofs.Resuming.{noted-append}
use Rattle.giop_sig.specs.Types.{Plain, Enum, Octets, Raw, Text}

none_first : {A : Type 0} (o : Option A) (rest : List A) → cons_option o rest ≡ [] → o ≡ None
none_first None rest e = refl
none_first (Some x) rest e = absurd cc

none_later : {A : Type 0} (o : Option A) (rest : List A) → cons_option o rest ≡ [] → rest ≡ []
none_later None rest e = e
none_later (Some x) rest e = absurd cc

-- ---- lines after the key

piece_kept : (is_key : Bool) (h k : Noted) (p : TextPiece) → cond is_key (Some p) None ≡ None →
    (cond is_key k h).key ≡ h.key
piece_kept true h k p none = absurd cc
piece_kept false h k p none = refl

-- A line that is neither an enum nor a piece of a key leaves the noted key as it is.
value_kept : (is_header : Bool) (h : Noted) (at : ℕ) (path : List PathSegment) (value : Value) →
    enum_of value ≡ None → key_piece is_header (line at path value) ≡ None →
    (note_line is_header h (line at path value)).key ≡ h.key
value_kept is_header h at path (Number (Plain prims.ULong) n) quiet other = refl
value_kept is_header h at path (Number (Enum count names) n) quiet other = absurd cc
value_kept is_header h at path (Piece (Text bound) offset octets true) quiet other = refl
value_kept is_header h at path (Piece (Text bound) offset octets false) quiet other = refl
value_kept is_header h at path (Piece (Octets (Raw bound)) offset octets more) quiet other =
    piece_kept (is_header && is_key_path path) h _ _ other
value_kept is_header h at path value quiet other = refl

key_kept : (is_header : Bool) (h : Noted) (lines : List ValueAt) → enums lines ≡ [] →
    key_pieces is_header lines ≡ [] → (note_lines is_header h lines).key ≡ h.key
key_kept is_header h [] quiet other = refl
key_kept is_header h (l ∷ ls) quiet other =
    key_kept is_header (note_line is_header h l) ls (none_later (enum_of l.value) (enums ls) quiet)
    (none_later (key_piece is_header l) (key_pieces is_header ls) other)
    ∙ value_kept is_header h l.at l.path l.value (none_first (enum_of l.value) (enums ls) quiet)
    (none_first (key_piece is_header l) (key_pieces is_header ls) other)

-- ---- lines up to the key

-- neither a string nor an enum was noted
record HasNoStringOrEnum (h : Noted) : Type 0 where
  name : h.name ≡ None
  so_far : h.so_far ≡ []
  status : h.status ≡ None

-- a line that is neither a string nor an enum notes neither, and notes at most a piece of a key
record NotesOnlyKey (h k : Noted) (p : Option TextPiece) : Type 0 where
  clean : HasNoStringOrEnum k
  key : (ps : List TextPiece) → last_content k.key k.key_so_far ps
      ≡ last_content h.key h.key_so_far (cons_option p ps)

-- the key doesn't depend on the request id, nor on whether a reply is expected
same_goes : (h : Noted) (id : Option ℕ) (expects : Option Bool) → HasNoStringOrEnum h →
    NotesOnlyKey h (record h { request_id = id; expects_reply = expects }) None
same_goes h id expects clean = record {
  clean = record { name = clean.name; so_far = clean.so_far; status = clean.status };
  key = λ ps. refl;
}

piece_goes : (is_key may more : Bool) (h : Noted) (offset : ℕ) (octets : List ℕ) →
    HasNoStringOrEnum h → may ≡ true → NotesOnlyKey h (cond is_key
    (cond may (cond more (with_key_piece h octets) (with_key_ended (with_key_piece h octets))) h) h)
    (cond is_key (Some (piece offset octets more)) None)
piece_goes false may more h offset octets clean goes =
    same_goes h h.request_id h.expects_reply clean
piece_goes true false more h offset octets clean goes = absurd cc
piece_goes true true true h offset octets clean goes = record {
  clean = record { name = clean.name; so_far = clean.so_far; status = clean.status };
  key = λ ps. refl;
}
piece_goes true true false h offset octets clean goes = record {
  clean = record { name = clean.name; so_far = clean.so_far; status = clean.status };
  key = λ ps. refl;
}

may_go : (h : Noted) → HasNoStringOrEnum h → may_have_key h ≡ true
may_go h clean = rw (clean.name, clean.so_far, clean.status) refl

value_goes : (is_header : Bool) (h : Noted) (at : ℕ) (path : List PathSegment) (value : Value) →
    HasNoStringOrEnum h → enum_of value ≡ None → text_of value ≡ None →
    NotesOnlyKey h (note_line is_header h (line at path value))
    (key_piece is_header (line at path value))
value_goes is_header h at path (Number (Plain prims.ULong) n) clean quiet silent =
    same_goes h _ _ clean
value_goes is_header h at path (Number (Enum count names) n) clean quiet silent = absurd cc
value_goes is_header h at path (Piece (Text bound) offset octets more) clean quiet silent =
    absurd cc
value_goes is_header h at path (Piece (Octets (Raw bound)) offset octets more) clean quiet silent =
    piece_goes (is_header && is_key_path path) _ more h offset octets clean (may_go h clean)
value_goes is_header h at path value clean quiet silent = same_goes h _ _ clean

left_front : (is_header : Bool) (h : Noted) (lines : List ValueAt) → HasNoStringOrEnum h →
    enums lines ≡ [] → text_pieces lines ≡ [] → (note_lines is_header h lines).key
    ≡ last_content h.key h.key_so_far (key_pieces is_header lines)
left_front is_header h [] clean quiet silent = refl
left_front is_header h (l ∷ ls) clean quiet silent =
    let g = value_goes is_header h l.at l.path l.value clean
    (none_first (enum_of l.value) (enums ls) quiet)
    (none_first (text_of l.value) (text_pieces ls) silent) in
    left_front is_header (note_line is_header h l) ls g.clean
    (none_later (enum_of l.value) (enums ls) quiet)
    (none_later (text_of l.value) (text_pieces ls) silent)
    ∙ g.key (key_pieces is_header ls)

-- ---- all lines

both_none : (xs ys : List ℕ) → xs ++ ys ≡ [] → (xs ≡ []) × (ys ≡ [])
both_none [] ys e = (refl, e)
both_none (x ∷ xs) ys e = absurd cc

pub left_key : (is_header : Bool) (lines front back : List ValueAt) → lines ≡ front ++ back →
    enums lines ≡ [] → text_pieces front ≡ [] → key_pieces is_header back ≡ [] →
    (note_lines is_header nothing_noted lines).key
    ≡ last_content None [] (key_pieces is_header front)
left_key is_header lines front back are quiet silent other =
    let clean : HasNoStringOrEnum nothing_noted =
    record { name = refl; so_far = refl; status = refl } in
    let none = both_none (enums front) (enums back)
    (sym (filter_map-append (λ l. enum_of l.value) front back) ∙ (ap enums (sym are) ∙ quiet)) in
    ap (λ ls. (note_lines is_header nothing_noted ls).key) are
    ∙ (ap (λ k. k.key) (noted-append is_header nothing_noted front back)
    ∙ (key_kept is_header (note_lines is_header nothing_noted front) back none.1 other
    ∙ left_front is_header nothing_noted front clean none.0 silent))
