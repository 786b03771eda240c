use Rattle.std.proofs.Common.{◌+◌, ◌-◌, arith, sym, ◌∙◌}
use Rattle.tcp_segment.proofs.Tags.{behind_a_tag, behind_a_cut_tag, behind_no_tag, behind_the_last_tag}
use Rattle.tcp_segment.proofs.frame.behind_tags.Goals as goal

pub loop-preserved : goal.loop-preserved
loop-preserved c =
    let is = sym c.is_tag.ensures ∙ c.if-not-is_tag.false in
    let less = 4 - (c.loop.counter + 1) in
    c.loop.invariant ∙ behind_a_tag less _ _ _ _ (omega arith) is (sym c.in_ok-next.ensures)

pub returns-in_err-next : goal.returns-in_err-next
returns-in_err-next c =
    let is = sym c.is_tag.ensures ∙ c.if-not-is_tag.false in
    let less = 4 - (c.loop.counter + 1) in
    let cut = behind_a_cut_tag less _ _ _ (omega arith) is (sym c.in_err-next.ensures) in
    rw c.from_residual.ensures (sym (c.loop.invariant ∙ cut))

pub returns-then-not-is_tag : goal.returns-then-not-is_tag
returns-then-not-is_tag c =
    let is = sym c.is_tag.ensures ∙ c.if-not-is_tag.true in
    sym (c.loop.invariant ∙ behind_no_tag _ _ _ is)

pub returns : goal.returns
returns c = sym (c.loop.invariant ∙ behind_the_last_tag _ _ _ (omega arith))
