use Rattle.std.proofs.Common.{ap, ◌∙◌}
use Rattle.giop_sig.specs.RequestList.{option_flatten}
use Rattle.giop_sig.specs.ScopeViews.{number_of_id}
use Rattle.giop_sig.proofs.ScopeLaws.{name_typed}
use Rattle.giop_sig.proofs.draft.Draft.type_declared_as.Goals as goal

pub returns-in_err-get : goal.returns-in_err-get
returns-in_err-get c =
    let key = rw c.unwrap-key.ensures at c.try_from.ensures in
    ap number_of_id c.from_residual.ensures
    ∙ ap (λ o. number_of_id (option_flatten o)) c.in_err-get.ensures.value
    ∙ name_typed c.args.self.now c.self.inside.version
    _
    c.self.inside.names.entries c.self.inside.announced.entries c.unwrap-key.result
    c.args.name.now c.self.view_is key.0

pub returns : goal.returns
returns c =
    let key = rw c.unwrap-key.ensures at c.try_from.ensures in
    ap (λ o. number_of_id (option_flatten o)) c.in_ok-get.ensures.value
    ∙ name_typed c.args.self.now c.self.inside.version
    _
    c.self.inside.names.entries c.self.inside.announced.entries c.unwrap-key.result
    c.args.name.now c.self.view_is key.0
