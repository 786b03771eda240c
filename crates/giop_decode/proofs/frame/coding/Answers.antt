use Rattle.std.proofs.Common.{◌≡◌, ◌-◌, ◌+◌, ◌<◌, None, length, arith, sym, ◌∙◌}
use Rattle.giop_decode.proofs.Surrounding.{coding_next, free_coding_by}
use Rattle.giop_decode.specs.declared.frame.Frame.{Frame}
use Rattle.giop_decode.proofs.frame.coding.Goals as goal

-- the frame that stands for an index beyond the frames
abbrev nowhere : Frame
nowhere = record { of = record { 0 = 0 }; index = 0; count = 0; inside = None; told = None }

pub returns-in-Nothing : goal.returns-in-Nothing
returns-in-Nothing c = sym (free_coding_by c.args.order c.args.at c.args.outer.now
    (sym c.requires ∙ c.in-Nothing.is))

pub returns-in-Some : goal.returns-in-Some
returns-in-Some c =
    let left = c.loop-left.left in
    let here : left - 1 + 1 ≡ left = omega (arith, c.loop-left-test.true) in
    let below : left - 1 < length c.args.outer.now =
    omega (arith, c.loop-left-test.true, c.loop-left.invariant.within) in
    rw (c.in-Some.is, here) at (coding_next c.args.order c.args.at c.args.outer.now (left - 1)
    nowhere below) ∙ sym c.loop-left.invariant.last

pub loop-left-preserved : goal.loop-left-preserved
loop-left-preserved c =
    let left = c.loop-left.left in
    let here : left - 1 + 1 ≡ left = omega (arith, c.loop-left-test.true) in
    let below : left - 1 < length c.args.outer.now =
    omega (arith, c.loop-left-test.true, c.loop-left.invariant.within) in
    record {
      within = omega (arith, c.loop-left.invariant.within);
      last = c.loop-left.invariant.last ∙ sym (rw (c.in_default-inside.is, here) at (coding_next
          c.args.order c.args.at c.args.outer.now (left - 1) nowhere below));
    }
