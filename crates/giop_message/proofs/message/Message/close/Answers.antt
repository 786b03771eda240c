use Rattle.std.proofs.Common.{◌≡◌, true, sym, ◌∙◌}
use Rattle.giop_print.proofs.Writing.{writes_err, wrote-append, wrote-front, writes_failed}
use Rattle.giop_message.specs.Signatures.{signatures_of}
use Rattle.giop_message.specs.Messages.{read_message, stage_of, lines_of_close}
use Rattle.giop_message.specs.MessageState.{is_short_close}
use Rattle.giop_message.proofs.Closing.{short_text, ended_text}
use Rattle.giop_message.proofs.message.Message.close.Goals as goal

pub returns-in_err-fault_line-clause-writes : goal.returns-in_err-fault_line-clause-writes
returns-in_err-fault_line-clause-writes g c answers phase number header s f =
    let stage = stage_of (read_message (signatures_of c.args.catalogue.now
    (answers number) phase) header
    s) in
    let short : is_short_close (lines_of_close stage) ≡ true =
    sym (c.is_short.ensures answers phase number header s f) ∙ c.if-is_short.true in
    rw (short_text number c.args.place stage short, ← f.same_number)
    (writes_failed _ _ _ _ c.from_residual.ensures.0 c.in_err-fault_line.ensures)

pub returns-then-is_short-clause-writes : goal.returns-then-is_short-clause-writes
returns-then-is_short-clause-writes g c answers phase number header s f =
    let stage = stage_of (read_message (signatures_of c.args.catalogue.now
    (answers number) phase) header
    s) in
    let short : is_short_close (lines_of_close stage) ≡ true =
    sym (c.is_short.ensures answers phase number header s f) ∙ c.if-is_short.true in
    rw (short_text number c.args.place stage short, ← f.same_number) c.in_ok-fault_line.ensures

pub returns-in_err-write_last_rest-clause-writes : goal.returns-in_err-write_last_rest-clause-writes
returns-in_err-write_last_rest-clause-writes g c answers phase number header s f =
    let ended = sym (c.is_short.ensures answers phase number header s f) ∙ c.if-is_short.false in
    rw (ended_text f c.requires.fits c.args.place ended)
    (writes_err _ _ _ _ _ c.from_residual-in_err-write_last_rest.ensures.0
    c.in_err-write_last_rest.ensures)

pub returns-in_err-end_line-clause-writes : goal.returns-in_err-end_line-clause-writes
returns-in_err-end_line-clause-writes g c answers phase number header s f =
    let ended = sym (c.is_short.ensures answers phase number header s f) ∙ c.if-is_short.false in
    rw (ended_text f c.requires.fits c.args.place ended)
    (writes_failed _ _ _ _ c.from_residual-in_err-end_line.ensures.0
    (wrote-front _ _ _ _ _ c.in_ok-write_last_rest.ensures c.in_err-end_line.ensures))

pub returns-clause-writes : goal.returns-clause-writes
returns-clause-writes g c answers phase number header s f =
    let ended = sym (c.is_short.ensures answers phase number header s f) ∙ c.if-is_short.false in
    rw (ended_text f c.requires.fits c.args.place ended)
    (wrote-append _ _ _ _ _ c.in_ok-write_last_rest.ensures c.in_ok-end_line.ensures)
