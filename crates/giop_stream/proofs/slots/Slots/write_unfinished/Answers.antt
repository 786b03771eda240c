use Rattle.std.proofs.Common.{None, take_all, sym, ◌∙◌}
use Rattle.giop_print.proofs.Writing.{wrote-nil, wrote-append, front-parts, flat_map-take}
use Rattle.giop_print.proofs.Writing.{writes_failed}
use Rattle.giop_stream.specs.SlotsRepresent.{OpenEntry}
use Rattle.giop_stream.proofs.StreamLines.FinishByFields.{slot_text, slot_says, slot_silent, slots_left}
use Rattle.giop_stream.proofs.slots.Slots.write_unfinished.Goals as goal
use Rattle.giop_stream.proofs.slots.Slots.write_unfinished.Goals.{then-is_some+in_ok-unfinished_line, else-is_some}

pub returns-in_err-unfinished_line : goal.returns-in_err-unfinished_line
returns-in_err-unfinished_line g c = λ C l slots h.
    let items = c.args.self.now.slots.entries in
    let i = c.loop-k.k in
    let below = rw c.len-k-end.ensures.value at c.loop-k-test.true in
    let none : OpenEntry = record { key = None; value = c.open_at-slot.result.now } in
    let text = slot_says items i c.open_at-slot.result.now none c.open_at-slot.ensures
    (sym c.is_some.ensures ∙ c.if-is_some.true) in
    rw (slots_left C l items slots h) (writes_failed _ _ _ _ c.from_residual.ensures.0
    (front-parts slot_text _ _ _ items i none below c.loop-k.invariant
    (rw text c.in_err-unfinished_line.ensures)))

pub loop-k-preserved : goal.loop-k-preserved
loop-k-preserved g c =
    let items = c.args.self.now.slots.entries in
    let i = c.loop-k.k in
    let below = rw c.len-k-end.ensures.value at c.loop-k-test.true in
    let none : OpenEntry = record { key = None; value = c.open_at-slot.result.now } in
    elim c.if-is_some.branch [
      | then-is_some+in_ok-unfinished_line w ↦
          rw (
            w.out-is,
            flat_map-take slot_text items i none below,
            slot_says items i c.open_at-slot.result.now none c.open_at-slot.ensures
                (sym c.is_some.ensures ∙ w.if-is_some.true),
          )
          (wrote-append _ _ _ _ _ c.loop-k.invariant w.in_ok-unfinished_line.ensures)
      | else-is_some w ↦
          rw (
            w.out-is,
            flat_map-take slot_text items i none below,
            slot_silent items i c.open_at-slot.result.now none c.open_at-slot.ensures
                (sym c.is_some.ensures ∙ w.if-is_some.false),
          ) (wrote-append _ _ _ _ _ c.loop-k.invariant (wrote-nil _))
    ]

pub returns : goal.returns
returns g c = λ C l slots h.
    let items = c.args.self.now.slots.entries in
    let end = rw c.len-k-end.ensures.value at c.loop-k-test.false in
    rw (slots_left C l items slots h) (rw (take_all c.loop-k.k items end) at c.loop-k.invariant)
