use Rattle.std.proofs.Common.{◌≡◌, ◌+◌, ◌-◌, drop, ap, ◌∙◌, arith, drop-drop}
use Rattle.giop_print.specs.Line.{line_text}
use Rattle.giop_print.proofs.Spelling.{escaped_parted}
use Rattle.giop_print.proofs.Writing.{rest_from}
use Rattle.giop_print.proofs.line.Line.put_escaped.Goals as goal

pub loop-left-preserved : goal.loop-left-preserved
loop-left-preserved c =
    let octets = c.args.octets.now in
    let left = c.loop-left.left in
    let before = c.loop-left.invariant in
    let some = c.loop-left-test.true in
    let back : left - 16 + 16 ≡ left = omega (arith, some) in
    let behind : drop 16 (drop (left - 16) octets) ≡ drop left octets =
    drop-drop 16 (left - 16) octets ∙ ap (λ n. drop n octets) back in
    record {
      text = rw (
        c.put_escaped_block.ensures.text,
        rest_from (left - 16) octets,
        before.text,
        ← behind,
      )
          (escaped_parted 16 (drop (left - 16) octets) (line_text c.args.self.now));
      room = omega (arith, c.put_escaped_block.ensures.room, before.room, before.within, some);
      within = omega (arith, before.within);
    }

pub returns-clause-text : goal.returns-clause-text
returns-clause-text c =
    rw (c.put_escaped_octets.ensures.text, c.loop-left.invariant.text)
    (escaped_parted c.loop-left.left c.args.octets.now (line_text c.args.self.now))
