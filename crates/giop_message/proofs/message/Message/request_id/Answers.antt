use Rattle.std.proofs.Common.{refl, ◌∙◌}
use Rattle.giop_message.proofs.Followings.{id_read}
use Rattle.giop_message.proofs.message.Message.request_id.Goals as goal

pub returns-in-Typed : goal.returns-in-Typed
returns-in-Typed c C answers phase number header s f =
    let e = id_read f c.in-Typed.is in
    c.request_id_after_section.ensures C e.0 e.1 ∙ e.2

pub returns-in-Padding : goal.returns-in-Padding
returns-in-Padding c C answers phase number header s f = f.id ∙ rw c.in-Padding.is refl

pub returns-in-Rest : goal.returns-in-Rest
returns-in-Rest c C answers phase number header s f = f.id ∙ rw c.in-Rest.is refl
