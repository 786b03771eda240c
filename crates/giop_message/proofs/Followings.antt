-- If a message follows a list of octets, it isn't over, and its request id is the first one in its
-- lines.
use Rattle.std.proofs.Common.{◌&&◌, ◌≡◌, ℕ, ◌+◌, ◌%◌, Bool, true, false, List, [], ◌∷◌, ◌++◌, length, drop, Option, Some, None, refl, sym, ap, subst, ◌∙◌, append-nil, add-zero, arith, inl, inr, length-append}
use Rattle.std.specs.Prelude.{cond}
use Rattle.std.proofs.Math.Seq.{drop-append_seam}
use Rattle.std.proofs.lemmas.Bool.{false≢true}
use Rattle.giop_cdr.specs.declared.prim.Primitive.TheVariants as prims
use Rattle.giop_print.specs.declared.path.Root.TheVariants as roots
use Rattle.giop_sig.specs.Types.{Octets, Plain, Text}
use Rattle.giop_sig.specs.Table.{Table, seen}
use Rattle.giop_decode.specs.declared.decoder.Decoder.{Decoder}
use Rattle.giop_decode.specs.declared.leaf.Leaf.{Leaf as Innermost}
use Rattle.giop_decode.specs.ReadResult.{PathSegment, Value, Number, Piece, ValueAt, Read, Done, lines_of}
use Rattle.giop_decode.specs.Reading.{reading}
use Rattle.giop_decode.specs.Noted.{is_key_path, Noted, nothing_noted, first_present, note_line, note_lines, noted_of, without_name_if, ends_in_string, is_header_root}
use Rattle.giop_decode.specs.DecoderState as decoders
use Rattle.giop_message.specs.Phases.{Phase, IsShiftedFrom}
use Rattle.giop_message.specs.declared.message.Message.{Message as Struct_of}
use Rattle.giop_message.specs.declared.part.Section.{Section}
use Rattle.giop_message.specs.declared.part.Section.TheVariants as sections
use Rattle.giop_message.specs.declared.part.Part.TheVariants as parts
use Rattle.giop_message.specs.Signatures.{Signatures, Answers, signatures_of}
use Rattle.giop_message.specs.Messages.{coding_of, CallSource, ValueLine, LineAt, line_at, call_lines_after, section_lines, MessageReading, ReadTo, section_then, read_message, message_lines, stage_of, root_of, section_call_source, section_and_rest}
use Rattle.giop_message.specs.ReaderOfTable.{request_id_in, first_some, first_request_id, is_over}
use Rattle.giop_message.specs.MessageState.{more_lines, Decodes, PartFollows, is_header, in_header, Follows}
use Rattle.giop_message.specs.MessageSteps.{HasTaken}
use Rattle.giop_message.proofs.Causal.{IsAtMostOneCall, calls_is, HasNoLinesAt, after_silent, told_begins}
use Rattle.giop_message.proofs.Faults.{IsOverIffFaultLine, after_tallies}
use Rattle.giop_message.proofs.Octets.{told_front, stage_front, told_silent, fault_lines_of}
use Rattle.giop_decode.proofs.NotedKeys.{same_but_key}

-- ---- a message that follows isn't over

none_over : (n : ℕ) (m : MessageReading) → HasNoLinesAt n m → IsOverIffFaultLine m →
    is_over (stage_of m) ≡ false
unfolding stage_of
none_over n (ReadTo said at stage) silent tallies = rw silent.0 at tallies

module _ (S : Signatures) (header : List ℕ) (section : Section) (C : Table) (d : Decoder)
    (lines : List ValueAt) (at : ℕ) where
  -- if the decoder of a section goes on, the section isn't over, and the message has the decoder's
  -- lines
  standing_over : (leaf : Option Innermost) →
      is_over (stage_of (section_and_rest S header section nothing_noted
      (decoders.read_by_leaf C d leaf lines at)))
      ≡ false
  unfolding section_then stage_of is_over
  standing_over None = search (arith, stage_front, none_over, after_silent, after_tallies)
  standing_over (Some leaf) = refl

  standing_told : (leaf : Option Innermost) →
      message_lines (section_and_rest S header section nothing_noted
      (decoders.read_by_leaf C d leaf lines at))
      ≡ section_lines (root_of section) (section_call_source S header section) nothing_noted lines
  unfolding section_then message_lines
  standing_told None = search (arith, told_front, told_silent, after_silent, append-nil)
  standing_told (Some leaf) = refl

  lines_standing : (leaf : Option Innermost) →
      lines_of (decoders.read_by_leaf C d leaf lines at) ≡ lines
  lines_standing None = refl
  lines_standing (Some leaf) = refl

section_over : {C : Table} {S : Signatures} {number : ℕ} {header s : List ℕ} {section : Section}
    {d : Decoder} →
    Decodes C S number header s section d → is_over (stage_of (read_message S header s)) ≡ false
section_over {C} {S} {number} {header} {s} {section} {d} e =
    let r = reading (coding_of S header) [] e.T (12 + length e.front) e.octets in
    ap (λ m. is_over (stage_of m)) e.is ∙ (ap is_over
    (stage_front e.before (section_and_rest S header section nothing_noted r))
    ∙ (ap (λ r. is_over (stage_of (section_and_rest S header section nothing_noted r))) e.reads.is
    ∙ standing_over S header section (seen d.forbids_wide C) d e.reads.lines _ d.leaf))

pub follows_goes : {C : Table} {answers : Answers} {phase : Phase} {number : ℕ} {header : List ℕ}
    {m : Struct_of}
    {s : List ℕ} → Follows C answers phase number header m s →
    is_over (stage_of (read_message (signatures_of C (answers number) phase) header s)) ≡ false
unfolding is_over stage_of
follows_goes {C} {answers} {phase} {number} {header} {m} {s} f = search (arith, section_over)

-- ---- the request id

pub told_more : (S : Signatures) (header s more : List ℕ) →
    message_lines (read_message S header (s ++ more)) ≡ message_lines (read_message S header s)
    ++ more_lines S header s more
unfolding more_lines
told_more S header s more =
    let g = told_begins S header s more in
    g.1 ∙ ap (λ ts. message_lines (read_message S header s) ++ ts)
    (sym (ap (drop (length (message_lines (read_message S header s)))) g.1
    ∙ drop-append_seam (message_lines (read_message S header s)) g.0))

first_all : (a b c : Option ℕ) → first_some a (first_some b c) ≡ first_some (first_some a b) c
unfolding first_some
first_all (Some a) b c = refl
first_all None b c = refl

pub id_both : (xs ys : List LineAt) → first_request_id (xs ++ ys)
    ≡ first_some (first_request_id xs) (first_request_id ys)
unfolding first_request_id first_some
id_both [] ys = refl
id_both (x ∷ xs) ys = search (arith, first_all, id_both xs ys)

pub first_none : (a : Option ℕ) → first_some a None ≡ a
unfolding first_some
first_none (Some a) = refl
first_none None = refl

-- if more lines have no request id, the request id stays
pub id_stays : (S : Signatures) (header s more : List ℕ) →
    first_request_id (more_lines S header s more) ≡ None →
    first_request_id (message_lines (read_message S header (s ++ more)))
    ≡ first_request_id (message_lines (read_message S header s))
id_stays S header s more e = search (arith, told_more, id_both, first_none)

call_no_id : (n : ℕ) (emitted : List LineAt) → IsAtMostOneCall n emitted →
    first_request_id emitted ≡ None
unfolding first_request_id request_id_in line_at first_some
call_no_id n emitted (inl e) = rw e refl
call_no_id n emitted (inr f) = rw f.3 refl

wrongs_no_id : (r : Read) → first_request_id (fault_lines_of r) ≡ None
unfolding first_request_id request_id_in line_at first_some
wrongs_no_id (Done lines at s) = refl
wrongs_no_id r = refl

-- the request id of one more line, with its call
line_id : (section : Section) (is : CallSource) (h : Noted) (l : ValueAt) (ls : List ValueAt) →
    first_request_id (section_lines (root_of section) is h (l ∷ ls))
    ≡ first_some (request_id_in (ValueLine (root_of section) l.path l.value))
    (first_request_id (section_lines (root_of section) is
    (note_line (is_header_root (root_of section)) h l) ls))
unfolding section_lines first_request_id line_at
line_id section is h l ls =
    let R = root_of section in
    let now = note_line (is_header_root R) h l in
    id_both (line_at l.at (ValueLine R l.path l.value) ∷ call_lines_after is l now)
    (section_lines R is now ls)
    ∙ ap (λ id. first_some id (first_request_id (section_lines R is now ls)))
    (rw (call_no_id l.at (call_lines_after is l now) (calls_is is l now), first_none) refl)

-- outside of the header, no line has a request id
others_none : (section : Section) → is_header section ≡ false →
    (path : List PathSegment) (v : Value) →
    request_id_in (ValueLine (root_of section) path v) ≡ None
unfolding request_id_in
others_none sections.Header e path v = absurd (false≢true (sym e))
others_none section e path v = refl

no_id : (section : Section) → is_header section ≡ false →
    (is : CallSource) (h : Noted) (lines : List ValueAt) →
    first_request_id (section_lines (root_of section) is h lines) ≡ None
unfolding section_lines first_request_id first_some
no_id section other is h [] = refl
no_id section other is h (l ∷ ls) =
    line_id section is h l ls ∙ rw (others_none section other l.path l.value)
    (no_id section other is (note_line (is_header_root (root_of section)) h l) ls)

pub section_no_id : (section : Section) → is_header section ≡ false →
    (is : CallSource) (h : Noted) (r : Read) →
    first_request_id (section_lines (root_of section) is h (lines_of r) ++ fault_lines_of r) ≡ None
unfolding first_some
section_no_id section other is h r = search (arith, id_both, fault_lines_of, no_id, wrongs_no_id)

first_same : (a b : Option ℕ) → first_present a b ≡ first_some a b
unfolding first_some
first_same (Some n) b = refl
first_same None b = refl

-- in the header, the request id of a line is the one that is noted
note_id : (h : Noted) (at : ℕ) (path : List PathSegment) (v : Value) →
    (note_line true h (record { at = at; path = path; value = v })).request_id
    ≡ first_some h.request_id (request_id_in (ValueLine roots.Header path v))
unfolding request_id_in
note_id h at path (Number (Plain prims.ULong) n) = first_same h.request_id _
note_id h at path (Piece (Text bound) offset octets true) = sym (first_none h.request_id)
note_id h at path (Piece (Text bound) offset octets false) = sym (first_none h.request_id)
note_id h at path (Piece (Octets bound) offset octets more) =
    (same_but_key (true && is_key_path path) h (Piece (Octets bound) offset octets more)).request_id
    ∙ sym (first_none h.request_id)
note_id h at path v = sym (first_none h.request_id)

lines_noted : (is : CallSource) (h : Noted) (lines : List ValueAt) →
    (note_lines true h lines).request_id
    ≡ first_some h.request_id (first_request_id (section_lines roots.Header is h lines))
unfolding section_lines first_request_id
lines_noted is h [] = sym (first_none h.request_id)
lines_noted is h (l ∷ ls) =
    let now = note_line true h l in
    let id = request_id_in (ValueLine roots.Header l.path l.value) in
    let later = first_request_id (section_lines roots.Header is now ls) in
    lines_noted is now ls ∙ (ap (λ id. first_some id later) (note_id h l.at l.path l.value)
    ∙ (sym (first_all h.request_id id later)
    ∙ ap (first_some h.request_id) (sym (line_id sections.Header is h l ls))))

without_name_id : (quiet : Bool) (h : Noted) → (without_name_if quiet h).request_id ≡ h.request_id
without_name_id true h = refl
without_name_id false h = refl

pub header_only : (section : Section) → is_header section ≡ true → section ≡ sections.Header
header_only sections.Header e = refl
header_only section e = absurd (false≢true e)

-- the request id that a header's decoder has noted is the request id of the message's lines
module _ {C : Table} {S : Signatures} {number : ℕ} {header s : List ℕ} {section : Section}
    {d : Decoder}
    (e : Decodes C S number header s section d) where
  -- the reading whose notes the decoder has
  abbrev pub noted_reading : Read
  noted_reading = reading (coding_of S header) [] e.T (12 + length e.front) e.octets

  header_told : section ≡ sections.Header → message_lines (read_message S header s)
      ≡ section_lines (root_of section) (section_call_source S header section) nothing_noted
      e.reads.lines
  header_told in_it = search (arith, told_front, standing_told)

  pub id_noted : section ≡ sections.Header →
      (noted_of true noted_reading).request_id
      ≡ first_request_id (message_lines (read_message S header s))
  unfolding first_some
  id_noted in_it =
      let lines : lines_of noted_reading ≡ e.reads.lines =
      ap lines_of e.reads.is
      ∙ lines_standing S header section (seen d.forbids_wide C) d e.reads.lines _ d.leaf in
      let emitted = subst (λ x. message_lines (read_message S header s)
      ≡ section_lines (root_of x) (section_call_source S header x) nothing_noted e.reads.lines)
      in_it
      (header_told in_it) in
      without_name_id (ends_in_string noted_reading)
      (note_lines true nothing_noted (lines_of noted_reading))
      ∙ (ap (λ ls. (note_lines true nothing_noted ls).request_id) lines
      ∙ (lines_noted (section_call_source S header sections.Header) nothing_noted e.reads.lines
      ∙ ap first_request_id (sym emitted)))

-- the request id that a message gives inside a section
pub id_read : {C : Table} {answers : Answers} {phase : Phase} {number : ℕ} {header : List ℕ}
    {m : Struct_of}
    {s : List ℕ} {section : Section} → Follows C answers phase number header m s →
    m.part ≡ parts.Typed section →
    (r : Read) × decoders.KeepsNoted C (root_of section) m.decoder r
    × (cond (is_header section) (noted_of true r).request_id m.id
    ≡ first_request_id (message_lines (read_message (signatures_of C
    (answers number) phase) header s)))
id_read {C} {answers} {phase} {number} {header} {m} {s} {section} f is =
    (noted_reading stands, stands.reads.keeps_noted, go (is_header section) refl)
  where
    stands : Decodes C (signatures_of C (answers number) phase) number header s section m.decoder
    stands = search (arith)

    go : (inside : Bool) → is_header section ≡ inside →
        cond inside (noted_of true (noted_reading stands)).request_id m.id
        ≡ first_request_id (message_lines (read_message (signatures_of C (answers number) phase)
        header s))
    go true e = id_noted stands (header_only section e)
    go false e = f.id ∙ rw (is, e) refl

-- ---- more octets

-- a message after `count` more octets: its number, its header and its offset
pub record IsMovedBy (m n : Struct_of) (count : ℕ) : Type 0 where
  pub number : n.number ≡ m.number
  pub header : n.header ≡ m.header
  pub at : n.at ≡ m.at + count
  pub lacks : n.lacks ≡ m.lacks

-- the phase of an offset from which it is counted, and that of those after it
pub counted_now : (phase : Phase) (lacks here : ℕ) → IsShiftedFrom phase lacks here →
    phase here % 8 ≡ (here + lacks) % 8
counted_now phase lacks here c = rw (add-zero here, add-zero (here + lacks)) at (c 0)

pub even_from : (phase : Phase) (lacks here : ℕ) → IsShiftedFrom phase lacks here → (k : ℕ) →
    phase (here + k) % 8 ≡ (phase here + k) % 8
even_from phase lacks here c k = omega (arith, c k, counted_now phase lacks here c)

-- what is counted from an offset on is counted so from a later one on
counted_on : (phase : Phase) (lacks at n : ℕ) → IsShiftedFrom phase lacks at →
    IsShiftedFrom phase lacks (at + n)
counted_on phase lacks at n c k =
    let here : (at + n) + k ≡ at + (n + k) = omega arith in
    let there : ((at + n) + lacks) + k ≡ (at + lacks) + (n + k) = omega arith in
    rw (here, there) (c (n + k))

pub at_more : {phase : Phase} {number : ℕ} {header : List ℕ} {m n : Struct_of} {s : List ℕ}
    (more : List ℕ) → HasTaken phase number header m s → IsMovedBy m n (length more) →
    HasTaken phase number header n (s ++ more)
at_more {phase} {m = m} {s = s} more is move = record {
  same_number = move.number ∙ is.same_number;
  same_header = move.header ∙ is.same_header;
  at = omega (arith, length-append s more, is.at, move.at);
  counted = rw (move.lacks, move.at) (counted_on phase m.lacks m.at (length more) is.counted);
}

module _ {C : Table} {answers : Answers} {phase : Phase} {number : ℕ} {header : List ℕ}
    {m : Struct_of} {s : List ℕ}
    (f : Follows C answers phase number header m s) (more : List ℕ) where
  pub is_at : {n : Struct_of} → IsMovedBy m n (length more) →
      HasTaken phase number header n (s ++ more)
  is_at move = search (arith, at_more)

  pub follows_on : {n : Struct_of} → IsMovedBy m n (length more) →
      n.id ≡ cond (in_header n.part) None
      (first_request_id (message_lines (read_message (signatures_of C (answers number) phase) header
      (s ++ more)))) →
      PartFollows C answers phase number header (s ++ more) n.decoder n.part →
      Follows C answers phase number header n (s ++ more)
  follows_on move id stands =
      let is = is_at move in
      record {
        same_number = is.same_number;
        same_header = is.same_header;
        id = id;
        at = is.at;
        counted = is.counted;
        stands = stands;
      }

  -- if no line has a request id, the message keeps the one that it has
  pub id_kept : first_request_id (more_lines (signatures_of C (answers number) phase) header s more)
      ≡
      None →
      in_header m.part ≡ false →
      m.id ≡ first_request_id (message_lines
      (read_message (signatures_of C (answers number) phase) header (s ++ more)))
  id_kept none past = search (arith, id_stays)

-- if two messages have the same fields, both follow the same octets
pub same_fields : {C : Table} {answers : Answers} {phase : Phase} {number : ℕ} {header : List ℕ}
    {m n : Struct_of}
    {s : List ℕ} →
    Follows C answers phase number header m s → n.number ≡ m.number → n.header ≡ m.header →
    n.id ≡ m.id → n.at ≡ m.at → n.lacks ≡ m.lacks → n.part ≡ m.part → n.decoder ≡ m.decoder →
    Follows C answers phase number header n s
same_fields f same_number same_header id at lacks part decoder = record {
  same_number = same_number ∙ f.same_number;
  same_header = same_header ∙ f.same_header;
  id = rw (id, part) f.id;
  at = at ∙ f.at;
  counted = rw (lacks, at) f.counted;
  stands = rw (decoder, part) f.stands;
}
