use Rattle.std.proofs.Common.{◌+◌, ap, arith}
use Rattle.giop_stream.specs.Reloading.{lacks_key}
use Rattle.giop_stream.proofs.Restored.Loaded.{open_again, added_one}
use Rattle.giop_stream.proofs.loading.load_open.Goals as goal

pub returns-then-is_some-clause-ready : goal.returns-then-is_some-clause-ready
returns-then-is_some-clause-ready c e =
    let C = c.args.catalogue.now in
    c.push_open.ensures.ready C (c.args.octets + 1) c.requires.ready
    c.restored_message-message.ensures.ready

pub returns-then-is_some-clause-again : goal.returns-then-is_some-clause-again
returns-then-is_some-clause-again c l held is opened room =
    let made = open_again c.args.catalogue.now l c.args.octets c.args.first.now held c.args.id
    c.restored_message-message.result
    is opened c.restored_message-message.ensures.again in
    let put = c.push_open.ensures.added (omega (arith, room.room))
    (omega (arith, room.one, ap lacks_key made.1.key)) in
    (put.0, added_one c.args.catalogue.now l _ _ _ held put.1 made.1)

pub returns-else-is_some-clause-again : goal.returns-else-is_some-clause-again
returns-else-is_some-clause-again c l held is opened room =
    let made = open_again c.args.catalogue.now l c.args.octets c.args.first.now held c.args.id
    c.restored_message-message.result
    is opened c.restored_message-message.ensures.again in
    absurd (cc (made.0, c.is_some.ensures, c.if-is_some.false))
