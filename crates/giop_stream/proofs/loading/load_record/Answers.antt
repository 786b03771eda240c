use Rattle.std.proofs.Common.{◌+◌, Some}
use Rattle.giop_stream.proofs.Restored.Loaded.{open_not_current, current_not_open, current_not_over}
use Rattle.giop_stream.proofs.loading.load_record.Goals as goal

pub returns-in-Current-clause-one_open : goal.returns-in-Current-clause-one_open
returns-in-Current-clause-one_open c l held is room =
    absurd (open_not_current c.args.catalogue.now l (c.args.octets + 1) c.args.first.now held is
    c.in-Current.is)

pub returns-in-Current-clause-one_current : goal.returns-in-Current-clause-one_current
returns-in-Current-clause-one_current c l w xs is =
    let made = c.load_current.ensures.again l w xs is in
    (made.0, c.load_current.ensures.same, made.1)

pub returns-in-Open-clause-one_open : goal.returns-in-Open-clause-one_open
returns-in-Open-clause-one_open c l held is room =
    let made = c.load_open.ensures.again l held is c.in-Open.is room in
    (made.0, made.1, c.load_open.ensures.owner)

pub returns-in-Open-clause-one_current : goal.returns-in-Open-clause-one_current
returns-in-Open-clause-one_current c l w xs is =
    absurd (current_not_open c.args.catalogue.now l (c.args.octets + 1) c.args.first.now w xs
    (Some c.in-Open.id) is c.in-Open.is)

pub returns-in-Over-clause-ready : goal.returns-in-Over-clause-ready
returns-in-Over-clause-ready c e = c.load_over.ensures.room.ready _ _ c.requires.ready

pub returns-in-Over-clause-one_open : goal.returns-in-Over-clause-one_open
returns-in-Over-clause-one_open c l held is room =
    let made = c.load_over.ensures.again c.args.catalogue.now l (c.args.octets + 1) held is
    c.in-Over.is room in
    (made.0, made.1, c.load_over.ensures.owner)

pub returns-in-Over-clause-one_current : goal.returns-in-Over-clause-one_current
returns-in-Over-clause-one_current c l w xs is =
    absurd (current_not_over c.args.catalogue.now l (c.args.octets + 1) c.args.first.now w xs
    (Some c.in-Over.id) is c.in-Over.is)

pub returns-then-joins_1_1-clause-one_open : goal.returns-then-joins_1_1-clause-one_open
returns-then-joins_1_1-clause-one_open c l held is room =
    let made = c.load_open-then-joins_1_1.ensures.again l held is c.in-OpenWithoutId.is room in
    (made.0, made.1, c.load_open-then-joins_1_1.ensures.owner)

pub returns-then-joins_1_1-2-clause-ready : goal.returns-then-joins_1_1-2-clause-ready
returns-then-joins_1_1-2-clause-ready c e =
    c.load_over-then-joins_1_1-2.ensures.room.ready _ _ c.requires.ready

pub returns-then-joins_1_1-2-clause-one_open : goal.returns-then-joins_1_1-2-clause-one_open
returns-then-joins_1_1-2-clause-one_open c l held is room =
    let made = c.load_over-then-joins_1_1-2.ensures.again c.args.catalogue.now l
    (c.args.octets + 1) held
    is c.in-OverWithoutId.is room in
    (made.0, made.1, c.load_over-then-joins_1_1-2.ensures.owner)
