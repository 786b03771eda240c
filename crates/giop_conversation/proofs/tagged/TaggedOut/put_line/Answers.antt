use Rattle.std.proofs.Common.{◌≡◌, ◌+◌, ◌-◌, ◌<◌, ◌++◌, length, length-append, inl, refl, ap, ◌∙◌, arith}
use Rattle.std.proofs.lemmas.List.{take_all}
use Rattle.giop_print.specs.Line.{line_text}
use Rattle.giop_conversation.proofs.FailingBelow.{some_failed}
use Rattle.giop_conversation.proofs.WholeLines.{wrote_line, wrote_front}
use Rattle.giop_conversation.proofs.tagged.TaggedOut.put_line.Goals as goal

pub put_end-requires : goal.put_end-requires
put_end-requires g c =
    let fits = c.if-not-can_put_in_one_step.ensures in
    let due = c.self.invariant.1 (fits.short refl) in
    record {
      size = c.last_16_octets.ensures.size;
      within = rw c.len.ensures due.short;
      room = fits.room refl;
    }

pub returns-then-taken-text-clause-does : goal.returns-then-taken-text-clause-does
returns-then-taken-text-clause-does g c =
    let tag = c.self.inside.tag in
    let line = line_text c.args.line.now in
    let fits = c.if-not-can_put_in_one_step.ensures in
    let due = c.self.invariant.1 (fits.short refl) in
    let text : c.text-text.result.now ≡ tag ++ line =
    c.text-text.ensures ∙ (c.put_end.ensures.text
    ∙ ap (λ t. t ++ line) (rw c.len.ensures (c.last_16_octets.ensures.value due.short))) in
    let all = take_all (length c.text-text.result.now) c.text-text.result.now (omega arith) in
    let appends = rw text at (rw all at (rw c.if-taken-text.true at
    c.put_until_failure-taken.ensures.written)) in
    rw (← c.self.view_is)
    (wrote_line _ _ tag line 0 0 c.self.inside.since (c.self.inside.since +
    c.put_until_failure-taken.result)
    c.self.inside.due c.self.inside.puts c.self.inside.failures (fits.line refl)
    due.some due.whole appends
    (ap (λ n. c.self.inside.since + n) (c.if-taken-text.true ∙ ap length text)))

pub returns-clause-does : goal.returns-clause-does
returns-clause-does g c =
    let tag = c.self.inside.tag in
    let line = line_text c.args.line.now in
    let taken = c.put_until_failure-taken.result in
    let fits = c.if-not-can_put_in_one_step.ensures in
    let due = c.self.invariant.1 (fits.short refl) in
    let text : c.text-text.result.now ≡ tag ++ line =
    c.text-text.ensures ∙ (c.put_end.ensures.text
    ∙ ap (λ t. t ++ line) (rw c.len.ensures (c.last_16_octets.ensures.value due.short))) in
    let whole : c.self.inside.due ≡ length tag = due.whole in
    let size : length c.text-text.result.now ≡ length (tag ++ line) = ap length text in
    let few : taken < length (tag ++ line) =
    omega (arith, size, c.put_until_failure-taken.ensures.within, c.if-taken-text.false) in
    rw (← c.self.view_is)
    (wrote_front _ _ tag line 0 0 c.self.inside.since (c.self.inside.since + taken)
    c.self.inside.due c.saturating_sub-self-inside.result taken c.self.inside.puts
    c.self.inside.failures c.saturating_add_one-self-inside.result (fits.line refl) due.some whole
    (c.saturating_sub-self-inside.ensures ∙ ap (λ d. d - taken) whole) few
    (rw text at c.put_until_failure-taken.ensures.written) refl
    c.saturating_add_one-self-inside.ensures)

pub returns-then-taken-text-clause-cause : goal.returns-then-taken-text-clause-cause
returns-then-taken-text-clause-cause g c =
    let due = c.self.invariant.1 (c.if-not-can_put_in_one_step.ensures.short refl) in
    let text : length c.text-text.result.now
    ≡ length (c.self.inside.tag ++ line_text c.args.line.now) =
    ap length (c.text-text.ensures ∙ (c.put_end.ensures.text
    ∙ ap (λ t. t ++ line_text c.args.line.now)
    (rw c.len.ensures (c.last_16_octets.ensures.value due.short)))) in
    let size = length-append c.self.inside.tag (line_text c.args.line.now) in
    rw (← c.self.view_is) (c.put_until_failure-taken.ensures.none c.if-taken-text.true
    (omega (arith, text, size, due.some)))

pub invariant_of-self-2 : goal.invariant_of-self-2
invariant_of-self-2 g c =
    let taken = c.put_until_failure-taken.result in
    let few : taken < length c.text-text.result.now =
    omega (arith, c.put_until_failure-taken.ensures.within, c.if-taken-text.false) in (
      omega (arith, c.saturating_sub-self-inside.ensures, c.self.invariant.0),
      λ short. absurd (cc short),
      λ some. inl (some_failed _ _ (c.put_until_failure-taken.ensures.cause few)),
    )
