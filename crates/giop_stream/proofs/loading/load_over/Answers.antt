use Rattle.std.proofs.Common.{ap, arith}
use Rattle.giop_stream.specs.Reloading.{lacks_key}
use Rattle.giop_stream.proofs.Restored.Loaded.{over_again, added_one}
use Rattle.giop_stream.proofs.loading.load_over.Goals as goal

pub returns-then-stores_nothing-clause-room : goal.returns-then-stores_nothing-clause-room
returns-then-stores_nothing-clause-room c = record {
  most = c.push_open.ensures.most;
  ready = λ C n ready. c.push_open.ensures.ready C n ready tt;
}

pub returns-then-stores_nothing-clause-again : goal.returns-then-stores_nothing-clause-again
returns-then-stores_nothing-clause-again c C l n held is over room =
    let made = over_again C l n c.args.first.now held c.args.id is over in
    let put = c.push_open.ensures.added (omega (arith, room.room))
    (omega (arith, room.one, ap lacks_key made.2.key)) in
    (put.0, added_one C l _ _ _ held put.1 made.2)
