-- The headers and the names of exceptions that end in octets of a message, and the state of a
-- correspondent after them.
use Rattle.std.proofs.Common.{◌≡◌, ℕ, zero, suc, ◌+◌, ◌-◌, ◌<◌, ◌≤◌, arith, Bool, true, false, List, [], ◌∷◌, ◌++◌, length, Option, Some, None, refl, sym, ap, subst, ◌∙◌, append-nil, append_assoc, take, drop, take-add, map, ◌⊎◌, inl, inr}
use Rattle.std.specs.List.{AllByRecursion as Each}
use Rattle.std.proofs.lemmas.List.{take-append-drop}
use Rattle.std.proofs.lemmas.Bool.{cases_lt}
use Rattle.giop_sig.specs.Types.{Ty}
use Rattle.giop_sig.specs.Table.{Table}
use Rattle.giop_sig.specs.Builtin.{builtin_table}
use Rattle.giop_decode.specs.ReadResult.{Read, Done, Short, Fault}
use Rattle.giop_decode.specs.Reading.{reading}
use Rattle.giop_decode.specs.Noted.{Noted, nothing_noted, note_lines}
use Rattle.giop_message.specs.Phases.{Phase}
use Rattle.giop_message.specs.declared.part.Section.TheVariants as sections
use Rattle.giop_message.specs.Headers.{kind}
use Rattle.giop_message.specs.Signatures.{Signatures, Answer, Answers, signatures_of}
use Rattle.giop_message.specs.Messages.{coding_of, Mark, MessageReading, HeaderMark, NameMark, section_then, is_request, read_rest, read_body, body_of, has_aligned_body, read_after_header, read_header_and_rest, read_message, message_marks, stage_of, section_and_rest}
use Rattle.giop_message.specs.StageSteps.{read_one_more}
use Rattle.giop_message.specs.ReaderOfTable.{is_over, timed_lines_by, lines_of_close_by}
use Rattle.giop_message.specs.DueOctets.{StaysUndue}
use Rattle.giop_message.specs.HeaderEnds.{HeaderEnd, Header_end, Exception_end, CallEvent, marks, noted_in, header_noted, header_end_at, header_ends, call_event, after_event, after_ends, AgreesAtEnds}
use Rattle.giop_message.proofs.Going.{message_goes}
use Rattle.giop_message.proofs.Causal.{map_both}
use Rattle.giop_message.proofs.Dues.{over_stays}
use Rattle.giop_message.proofs.Marks.{AtMostOneMark, marks_front, rest_unmarked, marks_are, marks_on, ends_by, unmarked, marks_of_octet, head_unmarked}

-- ---- what is noted of a header that has ended

noted_front : (xs ys : List Mark) → noted_in (xs ++ ys) ≡ None → noted_in xs ≡ None
noted_front [] ys e = refl
noted_front (HeaderMark n ∷ xs) ys e = absurd cc
noted_front (NameMark name ∷ xs) ys e = noted_front xs ys e

noted_later : (xs ys : List Mark) → noted_in xs ≡ None → noted_in (xs ++ ys) ≡ noted_in ys
noted_later [] ys e = refl
noted_later (HeaderMark n ∷ xs) ys e = absurd cc
noted_later (NameMark name ∷ xs) ys e = noted_later xs ys e

pub header_noted_before : (phase : Phase) (header s more : List ℕ) → header_noted phase header
    (s ++ more) ≡ None →
    header_noted phase header s ≡ None
unfolding header_noted
header_noted_before phase header s more e =
    let all = marks_on phase header s more in
    noted_front (marks phase header s) all.0 (ap noted_in (sym all.1) ∙ e)

-- A header that ends in octets is one of the ends in these octets.
pub header_ended : (P : HeaderEnd → Type 0) (phase : Phase) (number : ℕ) (header s more : List ℕ) →
    header_noted phase header s ≡ None → Each P (header_ends phase number header s more) →
    (header_noted phase header (s ++ more) ≡ None) ⊎ ((n : Noted) × P (Header_end number header n))
unfolding header_noted
header_ended P phase number header s more e each =
    let all = marks_on phase header s more in
    go all.0 (ap noted_in all.1 ∙ noted_later (marks phase header s) all.0 e)
    (subst (Each P) (ends_by phase number header s more all.0 all.1) each)
  where
    go : (later : List Mark) → noted_in (marks phase header (s ++ more)) ≡ noted_in later →
        Each P (map (header_end_at number header) later) →
        (noted_in (marks phase header (s ++ more)) ≡ None)
        ⊎ ((n : Noted) × P (Header_end number header n))
    go [] is h = inl is
    go (HeaderMark n ∷ ms) is h = inr (n, h.0)
    go (NameMark name ∷ ms) is h = go ms is h.1

-- ---- octets in two parts, and no octets

pub header_ends_both : (phase : Phase) (number : ℕ) (header s xs ys : List ℕ) →
    header_ends phase number header s (xs ++ ys) ≡ header_ends phase number header s xs
    ++ header_ends phase number header (s ++ xs) ys
header_ends_both phase number header s xs ys =
    let one = marks_on phase header s xs in
    let two = marks_on phase header (s ++ xs) ys in
    ends_by phase number header s (xs ++ ys) (one.0 ++ two.0)
    (ap (marks phase header) (sym (append_assoc s xs ys)) ∙ (two.1
    ∙ (ap (λ (ms : List Mark). ms ++ two.0) one.1 ∙ append_assoc (marks phase header s) one.0
    two.0)))
    ∙ rw (
      ends_by phase number header s xs one.0 one.1,
      ends_by phase number header (s ++ xs) ys
          two.0 two.1,
    )
    (map_both (header_end_at number header) one.0 two.0)

pub header_ends_none : (phase : Phase) (number : ℕ) (header s : List ℕ) → header_ends phase number
    header s [] ≡ []
header_ends_none phase number header s =
    ends_by phase number header s [] []
    (ap (marks phase header) (append-nil s) ∙ sym (append-nil (marks phase header s)))

-- if nothing ends in j more octets, the ends are those of the octets before
pub ends_further : (phase : Phase) (number : ℕ) (header s octets : List ℕ) (t j : ℕ) →
    header_ends phase number header (s ++ take t octets) (take j (drop t octets)) ≡ [] →
    header_ends phase number header s (take (t + j) octets) ≡ header_ends phase number header s
    (take t octets)
ends_further phase number header s octets t j none =
    ap (header_ends phase number header s) (take-add t j octets)
    ∙ (header_ends_both phase number header s (take t octets) (take j (drop t octets))
    ∙ rw none (append-nil (header_ends phase number header s (take t octets))))

-- if nothing ends in more octets, a correspondent that isn't due stays so
module _ {St : Type 0} (due : St → Bool) (notified : St → CallEvent → St) (C : Table) (st : St)
    (phase : Phase) (number : ℕ) (header s octets : List ℕ) where
  abbrev Undue : (k : ℕ) → Type 0
  Undue k = StaysUndue due notified C st (header_ends phase number header s) (take k octets)

  pub fronts_on : (t n : ℕ) → ((k : ℕ) → k ≤ t → Undue k) →
      ((j : ℕ) → j < n → header_ends phase number header (s ++ take t octets)
      (take j (drop t octets))
      ≡ []) → (k : ℕ) → k < t + n → Undue k
  fronts_on t n before none k few = go (cases_lt t k)
    where
      go : (t < k) ⊎ (k ≤ t) → Undue k
      go (inl above) calm =
          let at : t + (k - t) ≡ k = omega (arith, above) in
          let same = ends_further phase number header s octets t (k - t)
          (none (k - t) (omega (arith, above, few))) in
          subst (λ i. due (after_ends notified C st
          (header_ends phase number header s (take i octets)))
          ≡ false) at (rw same (before t (omega arith) calm))
      go (inr below) calm = before k below calm

-- ---- one octet ends a header, or a name, or neither

pub one_octet : (phase : Phase) (number : ℕ) (header s : List ℕ) (x : ℕ) →
    (header_ends phase number header s (x ∷ []) ≡ [])
    ⊎ (((n : Noted) × (header_noted phase header s ≡ None) ×
    (header_noted phase header (s ++ x ∷ []) ≡ Some n)
    × (header_ends phase number header s (x ∷ []) ≡ Header_end number header n ∷ []))
    ⊎ ((name : List ℕ) × (header_ends phase number header s (x ∷ []) ≡ Exception_end number name
    ∷ [])))
unfolding marks header_noted
one_octet phase number header s x = go one.0 one.1 one.2
  where
    S : Signatures
    S = signatures_of builtin_table (λ id. None) phase

    now : MessageReading
    now = read_message S header s

    one : (ms : List Mark) × (message_marks (read_one_more S header now x) ≡ message_marks now
        ++ ms)
        × AtMostOneMark (stage_of now) ms
    one = marks_of_octet S header now x

    go : (ms : List Mark) → message_marks (read_one_more S header now x) ≡ message_marks now ++ ms →
        AtMostOneMark (stage_of now) ms →
        (header_ends phase number header s (x ∷ []) ≡ [])
        ⊎ (((n : Noted) × (header_noted phase header s ≡ None)
        × (header_noted phase header (s ++ x ∷ []) ≡ Some n)
        × (header_ends phase number header s (x ∷ []) ≡ Header_end number header n ∷ []))
        ⊎ ((name : List ℕ)
        × (header_ends phase number header s (x ∷ []) ≡ Exception_end number name ∷ [])))
    go ms grows one' =
        let grown : marks phase header (s ++ x ∷ []) ≡ marks phase header s ++ ms =
        ap message_marks (message_goes S header s x) ∙ grows in
        let ends = ends_by phase number header s (x ∷ []) ms grown in
        elim one' [
          | inl none ↦ inl (ends ∙ ap (map (header_end_at number header)) none)
          | inr some ↦ elim some [
            | inl head ↦
                let before = ap noted_in (head_unmarked S header s head.2) in
                inr (inl (
                  head.0,
                  before,
                  ap noted_in grown ∙ (noted_later (marks phase header s) ms before
                      ∙ ap noted_in head.1),
                  ends ∙ ap (map (header_end_at number header)) head.1,
                ))
            | inr name ↦ inr (inr (name.0, ends ∙ ap (map (header_end_at number header)) name.1))
          ]
        ]

-- ---- nothing ends after a fault

pub over_none : (C : Table) (answer : Answer) (phase : Phase) (number : ℕ)
    (header s more : List ℕ) →
    is_over (stage_of (read_message (signatures_of C answer phase) header s)) ≡ true →
    header_ends phase number header s more ≡ []
over_none C answer phase number header s more e =
    unmarked C answer phase number header s more
    (ap message_marks (over_stays (signatures_of C answer phase) header s more e))

-- ---- no name ends in a Fragment

module _ (P : HeaderEnd → Type 0) (phase : Phase) (number : ℕ) (header : List ℕ)
    (fragment : kind header ≡ 7)
    (heads : (n : Noted) → P (Header_end number header n)) where
  abbrev few : (ms : List Mark) → Type 0
  few ms = (k : ℕ) → Each P (map (header_end_at number header) (drop k ms))

  bare : few []
  bare zero = tt
  bare (suc k) = tt

  one_head : (n : Noted) → few (HeaderMark n ∷ [])
  one_head n zero = (heads n, tt)
  one_head n (suc k) = bare k

  bodiless : (S : Signatures) (h : Noted) (at : ℕ) (s : List ℕ) →
      read_after_header S header h at s ≡ read_rest at s
  unfolding read_after_header has_aligned_body body_of is_request read_body
  bodiless S h at s = rw fragment refl

  alone : (S : Signatures) (r : Read) →
      few (message_marks (section_and_rest S header sections.Header nothing_noted r))
  unfolding section_then message_marks
  alone S (Done lines at s) =
      let n = note_lines true nothing_noted lines in
      subst few (sym (marks_front _ _ ∙ ap (λ (ms : List Mark). HeaderMark n ∷ ms)
      (ap message_marks (bodiless S n at s) ∙ rest_unmarked at s))) (one_head n)
  alone S (Short lines at outer leaf) = bare
  alone S (Fault lines at why T) = bare

  by_type : (S : Signatures) (found : Option Ty) (s : List ℕ) →
      few (message_marks (read_header_and_rest S header found 12 s))
  unfolding read_header_and_rest
  by_type S None s = subst few (sym (rest_unmarked 12 s)) bare
  by_type S (Some T) s = alone S (reading (coding_of S header) [] T 12 s)

  pub bodiless_ends : (s more : List ℕ) → Each P (header_ends phase number header s more)
  unfolding header_ends marks read_message
  bodiless_ends s more = by_type (signatures_of builtin_table (λ id. None) phase) _ (s ++ more)
      (length (marks phase header s))

-- ---- ends, and then other ends

module _ {St : Type 0} (answer : St → Answer) (notified : St → CallEvent → St) (C : Table) where
  pub told_both : (st : St) (es fs : List HeaderEnd) →
      after_ends notified C st (es ++ fs) ≡ after_ends notified C (after_ends notified C st es) fs
  told_both st [] fs = refl
  told_both st (e ∷ es) fs = told_both (after_event notified st (call_event C e)) es fs

  pub answers_first : (st : St) (a : Answers) (es fs : List HeaderEnd) →
      AgreesAtEnds answer notified C st a (es ++ fs) → AgreesAtEnds answer notified C st a es
  answers_first st a [] fs h = tt
  answers_first st a (e ∷ es) fs h = (
    h.0,
    answers_first (after_event notified st (call_event C e)) a es fs h.1,
  )

  pub answers_then : (st : St) (a : Answers) (es fs : List HeaderEnd) →
      AgreesAtEnds answer notified C st a (es ++ fs) →
      AgreesAtEnds answer notified C (after_ends notified C st es) a fs
  answers_then st a [] fs h = h
  answers_then st a (e ∷ es) fs h = answers_then (after_event notified st (call_event C e)) a es fs
      h.1

-- ---- octets that were taken, and the others

module _ (phase : Phase) (number : ℕ) (header s octets : List ℕ) (t : ℕ) where
  ends_split : header_ends phase number header s octets
      ≡ header_ends phase number header s (take t octets)
      ++ header_ends phase number header (s ++ take t octets) (drop t octets)
  ends_split = ap (header_ends phase number header s) (sym (take-append-drop t octets))
      ∙ header_ends_both phase number header s (take t octets) (drop t octets)

  pub ends_over : (C : Table) (answer : Answer) →
      is_over (stage_of (read_message (signatures_of C answer phase) header (s ++ take t octets))) ≡
      true →
      header_ends phase number header s octets ≡ header_ends phase number header s (take t octets)
  ends_over C answer over = search (arith, ends_split, take, over_none, drop, append-nil)

  module _ {St : Type 0} (answer : St → Answer) (notified : St → CallEvent → St) (C : Table)
      (st now : St) where
    pub agrees_now : (a : Answers) → now ≡ after_ends notified C st
        (header_ends phase number header s (take t octets)) →
        AgreesAtEnds answer notified C st a (header_ends phase number header s octets) →
        AgreesAtEnds answer notified C now a
        (header_ends phase number header (s ++ take t octets) (drop t octets))
    agrees_now a told h = search (arith, take, drop, answers_then, ends_split)

    pub told_more : (n : ℕ) (later : St) →
        now ≡ after_ends notified C st (header_ends phase number header s (take t octets)) →
        later ≡ after_ends notified C now (header_ends phase number header (s ++ take t octets)
        (take n (drop t octets))) →
        later ≡ after_ends notified C st (header_ends phase number header s (take (t + n) octets))
    told_more n later told more = search (arith, take, drop, told_both, take-add, header_ends_both)

-- ---- a message whose header has not ended is read in the same way, whatever the ids answer

pub through_header : (C : Table) (x y : Answer) (phase : Phase) (header : List ℕ) (r : Read) →
    noted_in (message_marks (section_and_rest (signatures_of C x phase) header sections.Header
    nothing_noted r)) ≡ None →
    section_and_rest (signatures_of C x phase) header sections.Header nothing_noted r
    ≡ section_and_rest (signatures_of C y phase) header sections.Header nothing_noted r
unfolding section_then signatures_of
through_header C x y phase header (Done lines at s) none =
    absurd (let no : Some _ ≡ None = sym (ap noted_in (marks_front _ _)) ∙ none in cc)
through_header C x y phase header (Short lines at outer leaf) none = refl
through_header C x y phase header (Fault lines at why T) none = refl

unended_by : (C : Table) (x y : Answer) (phase : Phase) (header : List ℕ) (found : Option Ty)
    (s : List ℕ) →
    noted_in (message_marks (read_header_and_rest (signatures_of C x phase) header found 12 s))
    ≡ None →
    read_header_and_rest (signatures_of C x phase) header found 12 s
    ≡ read_header_and_rest (signatures_of C y phase) header found 12 s
unfolding read_header_and_rest signatures_of
unended_by C x y phase header None s e = refl
unended_by C x y phase header (Some T) s e =
    through_header C x y phase header (reading (coding_of (signatures_of C x phase) header) [] T 12
    s) e

pub unended_agree : (C : Table) (x y : Answer) (phase : Phase) (header s : List ℕ) → header_noted
    phase header s ≡ None →
    read_message (signatures_of C x phase) header s ≡ read_message
    (signatures_of C y phase) header s
unfolding header_noted read_message signatures_of
unended_agree C x y phase header s e = unended_by C x y phase header _ s
    (ap noted_in (sym (marks_are C x phase header s)) ∙ e)

-- if two answers agree, or if the header has not ended, a message has the same lines by both
pub alike_remarks : (C : Table) (x y : Answer) (phase : Phase) (header s : List ℕ) → (x ≡ y)
    ⊎ (header_noted phase header s ≡ None) →
    timed_lines_by (signatures_of C x phase) header s ≡ timed_lines_by
    (signatures_of C y phase) header s
unfolding timed_lines_by
alike_remarks C x y phase header s (inl e) = search (arith)
alike_remarks C x y phase header s (inr e) = search (arith, map, unended_agree)

pub alike_closes : (C : Table) (x y : Answer) (phase : Phase) (header s : List ℕ) → (x ≡ y)
    ⊎ (header_noted phase header s ≡ None) →
    lines_of_close_by (signatures_of C x phase) header s ≡ lines_of_close_by
    (signatures_of C y phase) header s
unfolding lines_of_close_by
alike_closes C x y phase header s (inl e) = search (arith)
alike_closes C x y phase header s (inr e) = search (arith, map, unended_agree)
