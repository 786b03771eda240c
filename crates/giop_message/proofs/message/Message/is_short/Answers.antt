use Rattle.std.proofs.Common.{ap, refl}
use Rattle.std.specs.Prelude.{not}
use Rattle.giop_message.specs.MessageState.{is_short_close}
use Rattle.giop_message.proofs.Closing.{section_short, padding_stage, rest_stage, padding_short, rest_short}
use Rattle.giop_message.proofs.message.Message.is_short.Goals as goal

pub returns-in-Typed : goal.returns-in-Typed
unfolding is_short_close
returns-in-Typed c answers phase number header s f = rw
    (section_short f c.requires c.in-Typed.is) refl

pub returns-in-Padding : goal.returns-in-Padding
returns-in-Padding c answers phase number header s f =
    rw (padding_stage f c.requires c.in-Padding.is, padding_short)
    (ap not (rw (
      ← f.same_header,
      ← c.minor_of.ensures,
      ← c.in_version.ensures,
    ) c.body_may_be_missing.ensures))

pub returns-in-Rest : goal.returns-in-Rest
returns-in-Rest c answers phase number header s f =
    rw (rest_stage f c.requires c.in-Rest.is, rest_short) refl
