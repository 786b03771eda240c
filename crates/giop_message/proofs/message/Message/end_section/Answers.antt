use Rattle.std.proofs.Common.{◌≡◌, ◌+◌, true, false, [], length, sym, ap, subst, ◌∙◌}
use Rattle.giop_decode.specs.Noted.{noted_of, is_header_root}
use Rattle.giop_decode.specs.DecoderState.{KeepsNoted}
use Rattle.giop_message.specs.Messages.{with_front, root_of, read_body}
use Rattle.giop_message.specs.Signatures.{signatures_of}
use Rattle.giop_message.specs.MessageSteps.{has_padding_after, HasEndedSection}
use Rattle.giop_message.proofs.Going.{none_front}
use Rattle.giop_message.proofs.Starting.{left_padded, left_bare, wanted_agree}
use Rattle.giop_message.proofs.message.Message.end_section.Goals as goal

pub returns-then-has_padding_after-clause-arrives :
    goal.returns-then-has_padding_after-clause-arrives
returns-then-has_padding_after-clause-arrives g c answers phase number header s section r ended
    agrees at
    before
    e =
    let C = c.args.catalogue.now in
    let answer = g.Q.Correspondent.answer (g.Q.Correspondent.state c.args.correspondent.now) in
    let S = signatures_of C (answers number) phase in
    let h = noted_of (is_header_root (root_of section)) r in
    let d = c.args.self.now.decoder in
    let here = subst (λ p. HasEndedSection C d p section r) c.in-Typed.is ended in
    let keeps_noted = subst (λ x. KeepsNoted C (root_of x) d r) (sym here.0) here.1 in
    let some : has_padding_after header section (12 + length s) ≡ true =
    rw (← at.same_header, ← at.at, ← here.0) (sym c.has_padding_after.ensures
    ∙ c.if-has_padding_after.true) in
    let wants = rw (at.same_header, here.0) at
    (c.body_type_after-body_type_id.ensures.is phase r keeps_noted
    (c.operation_of-operation.ensures.is r keeps_noted)) in
    let body_type_id = wants ∙ wanted_agree C answer (answers number) phase header section h
    (λ j. sym (agrees j)) in
    rw c.begin_padding.ensures (
      before,
      e ∙ (ap (with_front before) (left_padded S header section h (12 + length s) some)
          ∙ (rw body_type_id (none_front before (12 + length s) _))),
    )

pub returns-else-has_padding_after-clause-arrives :
    goal.returns-else-has_padding_after-clause-arrives
returns-else-has_padding_after-clause-arrives g c answers phase number header s section r ended
    agrees at
    before
    e =
    let C = c.args.catalogue.now in
    let answer = g.Q.Correspondent.answer (g.Q.Correspondent.state c.args.correspondent.now) in
    let S = signatures_of C (answers number) phase in
    let h = noted_of (is_header_root (root_of section)) r in
    let d = c.args.self.now.decoder in
    let here = subst (λ p. HasEndedSection C d p section r) c.in-Typed.is ended in
    let keeps_noted = subst (λ x. KeepsNoted C (root_of x) d r) (sym here.0) here.1 in
    let none : has_padding_after header section (12 + length s) ≡ false =
    rw (← at.same_header, ← at.at, ← here.0) (sym c.has_padding_after.ensures
    ∙ c.if-has_padding_after.false) in
    let wants = rw (at.same_header, here.0) at
    (c.body_type_after-body_type_id.ensures.is phase r keeps_noted
    (c.operation_of-operation.ensures.is r keeps_noted)) in
    let body_type_id = wants ∙ wanted_agree C answer (answers number) phase header section h
    (λ j. sym (agrees j)) in
    c.begin_body.ensures.arrives answers phase number header s
    (record {
      same_number = at.same_number;
      same_header = at.same_header;
      at = at.at;
      counted = at.counted;
    }) before
    (e ∙ (ap (with_front before) (left_bare S header section h (12 + length s) none)
    ∙ ap (λ b. with_front before (read_body S header b (12 + length s) [])) (sym body_type_id)))
