use Rattle.std.proofs.Common.{◌+◌, ◌-◌, arith, sym, ◌∙◌}
use Rattle.tcp_segment.proofs.Extensions.{behind_one, behind_a_cut_one, behind_no_extension, behind_the_last}
use Rattle.tcp_segment.proofs.datagram.behind_extensions.Goals as goal

pub loop-preserved : goal.loop-preserved
loop-preserved c =
    let is = sym c.is_extension.ensures ∙ c.if-not-is_extension.false in
    let less = 8 - (c.loop.counter + 1) in
    c.loop.invariant ∙ behind_one less _ _ _ _ (omega arith) is (sym c.in_ok-next.ensures)

pub returns-in_err-next : goal.returns-in_err-next
returns-in_err-next c =
    let is = sym c.is_extension.ensures ∙ c.if-not-is_extension.false in
    let less = 8 - (c.loop.counter + 1) in
    let cut = behind_a_cut_one less _ _ _ (omega arith) is (sym c.in_err-next.ensures) in
    rw c.from_residual.ensures (sym (c.loop.invariant ∙ cut))

pub returns-then-not-is_extension : goal.returns-then-not-is_extension
returns-then-not-is_extension c =
    let is = sym c.is_extension.ensures ∙ c.if-not-is_extension.true in
    sym (c.loop.invariant ∙ behind_no_extension _ _ _ is)

pub returns : goal.returns
returns c = sym (c.loop.invariant ∙ behind_the_last _ _ _ (omega arith))
