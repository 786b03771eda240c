use Rattle.std.proofs.Common.{sym, ap, subst, ◌∙◌}
use Rattle.std.proofs.lemmas.Result.{err_from_is_err_and}
use Rattle.giop_sig.specs.ScopeViews.{CanBeInner}
use Rattle.giop_sig.specs.TypeReading.{TypeRead, element_after}
use Rattle.giop_sig.proofs.TypeTaken.{closed_sound, known_stands}
use Rattle.giop_sig.proofs.TypeSteps.{closes_on, closes_fails, element_last, none_closed}
use Rattle.giop_sig.proofs.read_types.all_openers_closed.Goals as goal

pub opener_closed-requires : goal.opener_closed-requires
opener_closed-requires c =
    let s = c.loop-opener.draft in
    subst (λ b. CanBeInner b s.table.version s.table.types c.loop-opener.t.0)
    (ap element_after c.in-Some.ensures.items
    ∙ element_last c.pop.new.self.items c.in-Some.opener)
    c.loop-opener.invariant.stands

pub returns-in_err-t : goal.returns-in_err-t
returns-in_err-t c =
    let p = err_from_is_err_and c.from_residual.result c.from_residual.ensures.1 in
    rw (p.1, p.2) (closes_fails c.loop-opener.openers.items c.pop.new.self.items c.in-Some.opener
    (c.loop-opener.draft, c.loop-opener.t.0, c.loop-opener.rest.now) _ c.in-Some.ensures.items
    c.loop-opener.invariant.closed c.in_err-t.field-0.0 c.in_err-t.ensures)

pub loop-opener-preserved : goal.loop-opener-preserved
loop-opener-preserved c =
    let t : TypeRead = (c.loop-opener.draft, c.loop-opener.t.0, c.loop-opener.rest.now) in
    let sound = closed_sound c.in-Some.opener t _ c.in_ok-t.ensures c.laws.ensures.scope in
    record {
      closed = closes_on c.loop-opener.openers.items c.pop.new.self.items c.in-Some.opener t _
          c.in-Some.ensures.items c.loop-opener.invariant.closed _ c.in_ok-t.ensures;
      stands = known_stands (element_after c.pop.new.self.items) _ _ _ sound.known;
    }

pub returns : goal.returns
returns c =
    sym c.loop-opener.invariant.closed
    ∙ none_closed c.loop-opener.openers.items
    (c.loop-opener.draft, c.loop-opener.t.0, c.loop-opener.rest.now)
    (sym c.loop-opener.openers.ok.0 ∙ c.in_default.ensures.cases.0)
