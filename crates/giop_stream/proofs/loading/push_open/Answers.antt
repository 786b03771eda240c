use Rattle.std.proofs.Common.{is_some, sym, ap, ◌∙◌, arith}
use Rattle.std.proofs.lemmas.Bool.{false≢true}
use Rattle.giop_stream.specs.Reloading.{lacks_key}
use Rattle.giop_stream.proofs.Restored.Loaded.{no_position}
use Rattle.giop_stream.proofs.loading.push_open.Goals as goal

pub returns-then-is_some-clause-added : goal.returns-then-is_some-clause-added
returns-then-is_some-clause-added c few one =
    let none = no_position c.args.slots.now.slots.entries 0
    (omega (arith, one, ap lacks_key c.in-None.is)) in
    absurd (false≢true (sym (ap is_some (c.without_id.ensures.value ∙ none))
    ∙ sym c.is_some.ensures ∙ c.if-is_some.true))
