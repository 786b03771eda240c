-- If two answers agree, or if the header of a message has not ended, the message follows the same
-- octets by both.
use Rattle.std.proofs.Common.{arith, ◌≡◌, ℕ, ◌+◌, List, [], ◌++◌, length, None, refl, sym, ap, ◌∙◌, ◌⊎◌, inl, inr}
use Rattle.giop_sig.specs.Table.{Table}
use Rattle.giop_decode.specs.declared.decoder.Decoder.{Decoder}
use Rattle.giop_decode.specs.ReadResult.{Coding, Read, Done, Short, Fault}
use Rattle.giop_decode.specs.Reading.{reading}
use Rattle.giop_decode.specs.Noted.{nothing_noted}
use Rattle.giop_message.specs.Headers.{order}
use Rattle.giop_message.specs.Phases.{Phase}
use Rattle.giop_message.specs.declared.message.Message.{Message as Struct_of}
use Rattle.giop_message.specs.declared.part.Part.{Part}
use Rattle.giop_message.specs.declared.part.Part.TheVariants as parts
use Rattle.giop_message.specs.declared.part.Section.{Section}
use Rattle.giop_message.specs.declared.part.Section.TheVariants as sections
use Rattle.giop_message.specs.Signatures.{Answer, Answers, signatures_of}
use Rattle.giop_message.specs.Messages.{coding_of, Said, message_marks, section_then, section_and_rest, read_after_exception, members_of, with_front}
use Rattle.giop_message.specs.MessageState.{Decodes, PartFollows, Follows}
use Rattle.giop_message.specs.HeaderEnds.{noted_in, header_noted}
use Rattle.giop_message.proofs.HeaderEndLaws.{through_header, unended_agree}
use Rattle.giop_message.proofs.Marks.{marks_front, marks_are}

header_read : (C : Table) (x : Answer) (phase : Phase) (number : ℕ) (header s : List ℕ)
    (d : Decoder)
    (e : Decodes C (signatures_of C x phase) number header s sections.Header d) →
    (let S = signatures_of C x phase in header_noted phase header s
    ≡ noted_in (message_marks (section_and_rest S header sections.Header nothing_noted
    (reading (coding_of S header) [] e.T (12 + length e.front) e.octets))))
unfolding header_noted
header_read C x phase number header s d e =
    let S = signatures_of C x phase in
    let m = section_and_rest S header sections.Header nothing_noted
    (reading (coding_of S header) [] e.T (12 + length e.front) e.octets) in
    ap noted_in (marks_are C x phase header s ∙ (ap message_marks e.is ∙ (marks_front e.before m
    ∙ ap (λ (said : Said). said.marks ++ message_marks m) e.first.1)))

through_exception : (C : Table) (x y : Answer) (phase : Phase) (header : List ℕ) (r : Read) →
    section_and_rest (signatures_of C x phase) header sections.Exception nothing_noted r
    ≡ section_and_rest (signatures_of C y phase) header sections.Exception nothing_noted r
unfolding section_then read_after_exception members_of signatures_of
through_exception C x y phase header (Done lines at rest) = refl
through_exception C x y phase header (Short lines at outer leaf) = refl
through_exception C x y phase header (Fault lines at why T) = refl

module _ (C : Table) (a b : Answers) (phase : Phase) (number : ℕ) (header s : List ℕ) where
  -- the two answers agree
  stands_same : (d : Decoder) (p : Part) → a number ≡ b number →
      PartFollows C a phase number header s d p → PartFollows C b phase number header s d p
  stands_same d (parts.Typed section) e h = search (arith)
  stands_same d (parts.Padding body_type_id) e h = search (arith)
  stands_same d (parts.Rest r) e h = search (arith)

  -- how the octets of the message's values are taken by both
  abbrev Alike : Coding
  Alike = record { order = order header; phase = phase }

  -- the header has not ended
  decodes_new : (section : Section) (d : Decoder) → header_noted phase header s ≡ None →
      Decodes C (signatures_of C (a number) phase) number header s section d →
      Decodes C (signatures_of C (b number) phase) number header s section d
  unfolding signatures_of
  decodes_new section d none h = record {
    T = h.T;
    before = h.before;
    front = h.front;
    octets = h.octets;
    since = h.since;
    is = sym (unended_agree C (a number) (b number) phase header s none)
        ∙ (h.is ∙ ap (with_front h.before) (go section d h none));
    first = h.first;
    reads = h.reads;
  }
    where
      go : (section' : Section) (d' : Decoder)
          (k : Decodes C (signatures_of C (a number) phase) number header s section' d') →
          header_noted phase header s ≡ None →
          section_and_rest (signatures_of C (a number) phase) header section' nothing_noted
          (reading Alike [] k.T (12 + length k.front) k.octets)
          ≡ section_and_rest (signatures_of C (b number) phase) header section' nothing_noted
          (reading Alike [] k.T (12 + length k.front) k.octets)
      go sections.Header d' k none' = through_header C (a number) (b number) phase header _
          (sym (header_read C (a number) phase number header s d' k) ∙ none')
      go sections.Exception d' k none' = search (arith, through_exception)
      go sections.SystemException d' k none' = search (arith)
      go sections.Body d' k none' = search (arith)

  stands_new : (d : Decoder) (p : Part) → header_noted phase header s ≡ None →
      PartFollows C a phase number header s d p → PartFollows C b phase number header s d p
  stands_new d (parts.Typed section) none h = decodes_new section d none h
  stands_new d (parts.Padding body_type_id) none h = search (arith, unended_agree)
  stands_new d (parts.Rest r) none h = search (arith, unended_agree)

  pub follows_agree : (m : Struct_of) → (a number ≡ b number) ⊎
      (header_noted phase header s ≡ None) →
      Follows C a phase number header m s →
      Follows C b phase number header m s
  follows_agree m (inl e) f = search (arith, stands_same)
  follows_agree m (inr none) f = search (arith, unended_agree, stands_new)
