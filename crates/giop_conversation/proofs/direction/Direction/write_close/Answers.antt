use Rattle.std.proofs.Common.{ap, ◌∙◌}
use Rattle.giop_print.specs.Output.{saturating_next, WroteFront}
use Rattle.giop_stream.specs.declared.status.Totals.{Totals}
use Rattle.giop_stream.specs.EngineHolds.{rules_with}
use Rattle.giop_stream.specs.Stream.{closing}
use Rattle.giop_conversation.specs.TaggedState.{Tagging, tagging_log}
use Rattle.std.proofs.Common.{◌++◌, Result, Ok, Err}
use Rattle.std.proofs.lemmas.Result.{MatchResult-from_err}
use Rattle.giop_print.proofs.Writing.{front-append, wrote-append, wrote-front}
use Rattle.giop_stream.specs.EngineHolds.{HoldsBy}
use Rattle.giop_conversation.specs.Tags.{stream_tag}
use Rattle.giop_conversation.specs.Lines.{closed_line}
use Rattle.giop_conversation.proofs.LineEnds.{closing_lines_end}
use Rattle.giop_conversation.proofs.StreamReadLemmas.{below_tag, closing_front}
use Rattle.giop_conversation.proofs.FailingLemmas.{closing_counts}
use Rattle.giop_conversation.proofs.direction.Direction.write_close.Goals as goal

pub returns-in-Ok-clause-fails : goal.returns-in-Ok-clause-fails
returns-in-Ok-clause-fails g c =
    let h = c.self.invariant.0.read in
    let closed = c.in_ok-closed_line.ensures.failures in
    (c.in-Ok.ensures.text h.answers c.self.invariant.0.stream h.holds).failures
    ∙ (closed ∙ ap (λ (t : Tagging). t.failures) c.set_tag.ensures)

pub returns-in-Err-clause-fails : goal.returns-in-Err-clause-fails
returns-in-Err-clause-fails g c =
    let e = c.self.inside.engine in
    let h = c.self.invariant.0.read in
    let closed = c.in_ok-closed_line.ensures.failures in
    let counts =
    closing_counts Totals c.in-Err.field-0 (tagging_log c.closed_line.new.out)
    (tagging_log c.close.new.out)
    (closing (rules_with e h.answers) c.self.invariant.0.stream) e h.holds.sound
    c.in-Err.ensures.sound
    (c.in-Err.ensures.text h.answers c.self.invariant.0.stream h.holds) in
    counts ∙ ap saturating_next (closed ∙ ap (λ (t : Tagging). t.failures) c.set_tag.ensures)

pub returns-in_err-closed_line-clause-text : goal.returns-in_err-closed_line-clause-text
returns-in_err-closed_line-clause-text g c = λ a p w holds ready.
    let e = c.args.self.now.engine in
    let rest = closing (rules_with e a) p in
    let failed : Result Totals Totals = Err record { messages = 0; faults = 0; octets = 0 } in
    MatchResult-from_err c.from_residual.result _ _ c.from_residual.ensures.0 (λ _.
    below_tag failed c.args.out.now c.set_tag.new.self c.closed_line.new.out w
    (closed_line c.args.cause ++ rest)
    c.copied.result (stream_tag c.args.self.now.stream) ready c.set_tag.ensures
    (rw (← c.self.view_is) (c.copied.ensures ∙ c.self.invariant.1))
    (closing_lines_end (rules_with e a) p c.args.cause)
    (front-append (tagging_log c.set_tag.new.self) (tagging_log c.closed_line.new.out)
    (closed_line c.args.cause) rest c.in_err-closed_line.ensures))

pub returns-in-Ok-clause-text : goal.returns-in-Ok-clause-text
returns-in-Ok-clause-text g c = λ a p w holds ready.
    let e = c.args.self.now.engine in
    let rest = closing (rules_with e a) p in
    let inside : HoldsBy c.self.inside.engine a p = rw (← c.self.view_is) at holds in
    let done : Result Totals Totals = Ok c.in-Ok.totals in
    below_tag done c.args.out.now c.set_tag.new.self c.close.new.out w
    (closed_line c.args.cause ++ rest)
    c.copied.result (stream_tag c.args.self.now.stream) ready c.set_tag.ensures
    (rw (← c.self.view_is) (c.copied.ensures ∙ c.self.invariant.1))
    (closing_lines_end (rules_with e a) p c.args.cause)
    (wrote-append (tagging_log c.set_tag.new.self) (tagging_log c.closed_line.new.out)
    (tagging_log c.close.new.out) (closed_line c.args.cause) rest
    c.in_ok-closed_line.ensures (rw (← c.self.view_is) (c.in-Ok.ensures.text a p inside)))

pub returns-in-Err-clause-text : goal.returns-in-Err-clause-text
returns-in-Err-clause-text g c = λ a p w holds ready.
    let e = c.args.self.now.engine in
    let rest = closing (rules_with e a) p in
    let inside : HoldsBy c.self.inside.engine a p = rw (← c.self.view_is) at holds in
    let failed : Result Totals Totals = Err record { messages = 0; faults = 0; octets = 0 } in
    let front : WroteFront (tagging_log c.closed_line.new.out) (tagging_log c.close.new.out) rest =
    rw (← c.self.view_is) (closing_front Totals c.in-Err.field-0
    (tagging_log c.closed_line.new.out) (tagging_log c.close.new.out)
    (closing (rules_with c.self.inside.engine a) p) c.self.inside.engine inside.sound
    c.in-Err.ensures.sound (c.in-Err.ensures.text a p inside)) in
    below_tag failed c.args.out.now c.set_tag.new.self c.close.new.out w
    (closed_line c.args.cause ++ rest)
    c.copied.result (stream_tag c.args.self.now.stream) ready c.set_tag.ensures
    (rw (← c.self.view_is) (c.copied.ensures ∙ c.self.invariant.1))
    (closing_lines_end (rules_with e a) p c.args.cause)
    (wrote-front (tagging_log c.set_tag.new.self) (tagging_log c.closed_line.new.out)
    (tagging_log c.close.new.out) (closed_line c.args.cause) rest
    c.in_ok-closed_line.ensures front)
