use Rattle.giop_message.proofs.Seams.{lacks_nothing}
use Rattle.giop_message.proofs.message.Message.is_unbroken.Goals as goal

pub returns : goal.returns
returns c C answers phase number header s f =
    let m = c.args.self.now in
    rw (← f.at) (lacks_nothing phase m.lacks m.at m.few f.counted)
