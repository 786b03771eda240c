use Rattle.std.proofs.Common.{refl}
use Rattle.giop_message.proofs.Seams.{seam_follows}
use Rattle.giop_message.proofs.message.Message.seam.Goals as goal

pub returns-clause-follows : goal.returns-clause-follows
returns-clause-follows c C answers phase number header s f =
    seam_follows C answers phase number header s f refl refl refl refl refl refl
    (c.seam.ensures.reads C)
