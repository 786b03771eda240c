use Rattle.std.proofs.Common.{ap, ◌∙◌}
use Rattle.std.specs.Option.{is_some}
use Rattle.giop_sig.proofs.ScopeLaws.{name_declared, some_copied}
use Rattle.giop_sig.proofs.draft.Draft.is_declared.Goals as goal

pub returns : goal.returns
returns c =
    let key = rw c.unwrap-key.ensures at c.try_from.ensures in
    c.is_some.ensures ∙ some_copied c.get.result ∙ ap is_some c.get.ensures.value
    ∙ name_declared c.args.self.now c.self.inside.version
    _
    c.self.inside.names.entries c.self.inside.announced.entries c.unwrap-key.result
    c.args.name.now c.self.view_is key.0
