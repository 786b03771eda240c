use Rattle.std.proofs.Common.{sym, ap, ◌∙◌}
use Rattle.giop_print.proofs.Writing.{wrote-nil}
use Rattle.giop_stream.specs.Kinds.{is_any_fragment}
use Rattle.giop_stream.proofs.StreamLines.FinishByFields.{current_left, current_text}
use Rattle.giop_stream.proofs.framing.Framing.write_current_unfinished.Goals as goal

pub returns-in_default : goal.returns-in_default
unfolding current_text
returns-in_default g c = λ C l s h.
    rw (
      current_left C l c.args.self.now.slots.owner s.tracked s.owner h.slots.owner,
      ← c.in_default.ensures.value,
    ) (wrote-nil _)

pub returns-then-is_any_fragment : goal.returns-then-is_any_fragment
unfolding current_text
returns-then-is_any_fragment g c = λ C l s h.
    rw (
      current_left C l c.args.self.now.slots.owner s.tracked s.owner h.slots.owner,
      ← c.in-Some.ensures.value,
      sym (c.is_any_fragment.ensures ∙ ap is_any_fragment c.header.ensures)
          ∙ c.if-is_any_fragment.true,
    ) (wrote-nil _)

pub returns : goal.returns
unfolding current_text
returns g c = λ C l s h.
    rw (
      current_left C l c.args.self.now.slots.owner s.tracked s.owner h.slots.owner,
      ← c.in-Some.ensures.value,
      sym (c.is_any_fragment.ensures ∙ ap is_any_fragment c.header.ensures)
          ∙ c.if-is_any_fragment.false,
      sym c.number.ensures,
    ) c.unfinished_line.ensures
