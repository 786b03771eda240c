use Rattle.std.proofs.Common.{refl, ◌∙◌}
use Rattle.giop_stream.proofs.Restored.Loaded.{current_again}
use Rattle.giop_stream.proofs.loading.load_current.Goals as goal

pub returns-clause-again : goal.returns-clause-again
returns-clause-again c l w xs is =
    let made = current_again c.args.catalogue.now l c.args.octets c.args.first.now w xs
    c.restored_message-message.result is
    c.restored_message-message.ensures.again in
    (c.is_some-in_range.ensures ∙ made.0, (refl, made.1))
