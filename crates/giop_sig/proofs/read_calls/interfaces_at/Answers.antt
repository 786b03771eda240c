use Rattle.std.proofs.Common.{Err, length, sym, ap, ◌∙◌}
use Rattle.std.proofs.lemmas.Result.{err_from_is_err_and}
use Rattle.giop_sig.specs.CallReading.{interface_step, too_many_interfaces}
use Rattle.giop_sig.specs.Scopes.{Scope}
use Rattle.giop_sig.specs.ParameterViews.{operation_structs_view, KeepsTypes}
use Rattle.giop_sig.proofs.RepeatLaws.{goes_on, ends, fails, limited}
use Rattle.giop_sig.proofs.read_calls.interfaces_at.Goals as goal

keeps_on : (a b c : Scope) → KeepsTypes a b → KeepsTypes b c → KeepsTypes a c
keeps_on a b c k l = record { types = l.types ∙ k.types; called = l.called ∙ k.called }

pub returns-in_err-over : goal.returns-in_err-over
returns-in_err-over c =
    let p = err_from_is_err_and c.from_residual.result c.from_residual.ensures.1 in
    rw (p.1, p.2) (record {
      gives = fails (interface_step (operation_structs_view c.args.called)) too_many_interfaces
          (length c.args.text.now) c.loop.counter (c.loop.draft, c.loop.rest.now) _
          c.loop.invariant.0 c.loop-test.true c.in_err-over.field-0.0
          c.in_err-over.ensures.gives;
      keeps = tt;
    })

pub returns-then-over : goal.returns-then-over
returns-then-over c = record {
  gives = ends (interface_step (operation_structs_view c.args.called)) too_many_interfaces
      (length c.args.text.now) c.loop.counter (c.loop.draft, c.loop.rest.now) _
      c.loop.invariant.0 c.loop-test.true _ c.in_ok-over.ensures.gives c.if-over.true;
  keeps = keeps_on _ _ _ c.loop.invariant.1 c.in_ok-over.ensures.keeps;
}

pub loop-preserved : goal.loop-preserved
loop-preserved c = (
  goes_on (interface_step (operation_structs_view c.args.called)) too_many_interfaces
      (length c.args.text.now) c.loop.counter (c.loop.draft, c.loop.rest.now) _
      c.loop.invariant.0 c.loop-test.true _ c.in_ok-over.ensures.gives c.if-over.false,
  keeps_on _ _ _ c.loop.invariant.1 c.in_ok-over.ensures.keeps,
)

pub returns : goal.returns
returns c = record {
  gives = limited (interface_step (operation_structs_view c.args.called)) too_many_interfaces
      (length c.args.text.now) c.loop.counter (c.loop.draft, c.loop.rest.now) _
      c.loop.invariant.0 c.loop-test.false
      ∙ ap Err (sym c.misplaced.ensures);
  keeps = tt;
}
