use Rattle.std.proofs.Common.{refl, inl}
use Rattle.giop_print.specs.Output.{saturating_next}
use Rattle.giop_conversation.proofs.FailingBelow.{some_failed}
use Rattle.giop_conversation.proofs.TaggedPuts.{took, failed}
use Rattle.giop_conversation.proofs.tagged.TaggedOut.put.Goals as goal

pub returns-in-Ok-clause-does : goal.returns-in-Ok-clause-does
returns-in-Ok-clause-does g c =
    let put = rw c.as_slice.ensures at c.in-Ok.ensures.does in
    rw (← c.self.view_is)
    (took _ _ c.self.inside.tag c.args.octets.now 0 0 c.self.inside.since c.put_tagged-put.new.since
    c.self.inside.due c.put_tagged-put.new.due c.in-Ok.taken c.self.inside.puts
    c.saturating_add_one-self-inside.result
    c.self.inside.failures put c.saturating_add_one-self-inside.ensures)

pub returns-then-not-counts_fit_u64-clause-does : goal.returns-then-not-counts_fit_u64-clause-does
returns-then-not-counts_fit_u64-clause-does g c =
    let t = c.self.inside in
    rw (c.refuse.ensures, ← c.self.view_is)
    (failed _ _ t.tag 0 0 t.since t.since t.due t.due t.puts c.saturating_add_one-self-inside.result
    t.failures
    (saturating_next t.failures) (record {
      within = c.self.invariant.0;
      stands = λ before text stands.
          stands;
    })
    c.saturating_add_one-self-inside.ensures refl)

pub returns-in-Err-clause-does : goal.returns-in-Err-clause-does
returns-in-Err-clause-does g c =
    let put = rw c.as_slice.ensures at c.in-Err.ensures.does in
    rw (← c.self.view_is)
    (failed _ _ c.self.inside.tag 0 0 c.self.inside.since c.put_tagged-put.new.since
    c.self.inside.due c.put_tagged-put.new.due c.self.inside.puts
    c.saturating_add_one-self-inside.result
    c.self.inside.failures c.saturating_add_one-self-inside-in-Err.result put
    c.saturating_add_one-self-inside.ensures
    c.saturating_add_one-self-inside-in-Err.ensures)

pub invariant_of-self-in-Err : goal.invariant_of-self-in-Err
invariant_of-self-in-Err g c = (
  rw c.as_slice.ensures at c.in-Err.ensures.does.within,
  c.is_short_tag_due-self-inside.ensures,
  λ some. inl (some_failed _ _ c.in-Err.ensures.cause),
)
