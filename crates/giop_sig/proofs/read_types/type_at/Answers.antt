use Rattle.std.proofs.Common.{◌≡◌, sym, ap, subst, ◌∙◌, Ok}
use Rattle.std.proofs.lemmas.Result.{err_from_is_err_and}
use Rattle.giop_sig.specs.Outcomes.{StopsAsRead}
use Rattle.giop_sig.specs.ScopeViews.{CanBeInner}
use Rattle.giop_sig.specs.TypeReading.{element_after, leaf_at}
use Rattle.giop_sig.proofs.RepeatLaws.{stops_on}
use Rattle.giop_sig.proofs.TypeTaken.{leaf_takes}
use Rattle.giop_sig.proofs.TypeSteps.{leaf_and_close, type_as, type_on, type_stops}
use Rattle.giop_sig.proofs.read_types.type_at.Goals as goal

pub returns-in_err-openers : goal.returns-in_err-openers
returns-in_err-openers c =
    let p = err_from_is_err_and c.from_residual.result c.from_residual.ensures.1 in
    let s = c.args.draft.now in
    let e = c.in_err-openers.field-0.0 in
    rw (p.1, p.2) (subst (StopsAsRead e) (sym (type_as s c.args.text.now))
    (stops_on e _ (leaf_and_close s) c.in_err-openers.ensures))

pub returns-in_err-innermost : goal.returns-in_err-innermost
returns-in_err-innermost c =
    let p = err_from_is_err_and c.from_residual-in_err-innermost.result
    c.from_residual-in_err-innermost.ensures.1 in
    let last = c.element_after.ensures ∙ ap element_after c.as_slice.ensures.value in
    rw (p.1, p.2) (type_stops c.args.draft.now c.args.text.now _ c.in_ok-openers.ensures
    c.in_err-innermost.field-0.0
    (subst (λ b. StopsAsRead c.in_err-innermost.field-0.0
    (leaf_at b c.args.draft.now c.in_ok-openers.rest.now)) last c.in_err-innermost.ensures))

pub all_openers_closed-requires : goal.all_openers_closed-requires
all_openers_closed-requires c =
    let last = c.element_after.ensures ∙ ap element_after c.as_slice.ensures.value in
    let s = c.leaf_at.new.draft in
    subst (λ b. CanBeInner b s.table.version s.table.types c.in_ok-innermost.innermost.0) last
    (((leaf_takes _ c.args.draft.now _ _ c.in_ok-innermost.ensures).sound
    c.laws.ensures.scope).stands)

pub returns : goal.returns
returns c =
    let last = c.element_after.ensures ∙ ap element_after c.as_slice.ensures.value in
    rw (type_on c.args.draft.now c.args.text.now _ c.in_ok-openers.ensures _
    (subst (λ b. leaf_at b c.args.draft.now c.in_ok-openers.rest.now
    ≡ Ok (c.leaf_at.new.draft, c.in_ok-innermost.innermost.0, c.in_ok-innermost.rest.now)) last
    c.in_ok-innermost.ensures)) c.all_openers_closed.ensures
