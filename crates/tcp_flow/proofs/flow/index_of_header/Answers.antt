use Rattle.std.proofs.Common.{◌≡◌, ◌+◌, Some, refl, sym, ◌∙◌, ap, arith}
use Rattle.tcp_flow.specs.Flow.{index_of_header}
use Rattle.tcp_flow.proofs.Lefts.{header_here, header_later, header_none, from_zero, whole_tail}
use Rattle.tcp_flow.proofs.flow.index_of_header.Goals as goal

pub loop-index-init : goal.loop-index-init
loop-index-init c = (omega arith, from_zero (index_of_header c.args.octets.now))

pub returns-then-is_header-clause-at : goal.returns-then-is_header-clause-at
returns-then-is_header-clause-at c =
    let e : c.loop-index.index ≡ c.loop-index.index + 0 = omega arith in
    sym (c.loop-index.invariant.1 ∙ rw (header_here c.args.octets.now c.loop-index.index
    c.loop-index-test.true (rw (whole_tail c.args.octets.now c.loop-index.index) at
    (sym c.is_header.ensures ∙ c.if-is_header.true))) (ap Some (sym e)))

pub loop-index-preserved : goal.loop-index-preserved
loop-index-preserved c = (
  omega arith,
  c.loop-index.invariant.1
      ∙ header_later c.args.octets.now c.loop-index.index c.loop-index-test.true
      (rw (whole_tail c.args.octets.now c.loop-index.index) at
      (sym c.is_header.ensures ∙ c.if-is_header.false)),
)

pub returns-clause-at : goal.returns-clause-at
returns-clause-at c = sym (c.loop-index.invariant.1
    ∙ rw (header_none c.args.octets.now c.loop-index.index c.loop-index-test.false) refl)
