use Rattle.std.proofs.Common.{ap, ◌∙◌}
use Rattle.std.specs.Option.{option_map}
use Rattle.giop_sig.specs.ScopeViews.{announcement_view}
use Rattle.giop_sig.proofs.ScopeLaws.{name_announced}
use Rattle.giop_sig.proofs.draft.Draft.announced_as.Goals as goal

pub returns : goal.returns
returns c =
    let key = rw c.unwrap-key.ensures at c.try_from.ensures in
    ap (option_map announcement_view) (c.copied.ensures ∙ c.get.ensures.value)
    ∙ name_announced c.args.self.now c.self.inside.version
    _
    c.self.inside.names.entries c.self.inside.announced.entries c.unwrap-key.result
    c.args.name.now c.self.view_is key.0
