use Rattle.std.proofs.Common.{◌<◌, rules, arith, sym, ◌∙◌}
use Rattle.giop_print.specs.Text.{escaped_octet}
use Rattle.giop_lines.proofs.Gone.{spelled_more, text_spelled, is_none}
use Rattle.giop_lines.proofs.Passed.{plain_text}
use Rattle.giop_lines.proofs.texts.is_escaped_text.Goals as goal

pub returns-then-are_plain : goal.returns-then-are_plain
returns-then-are_plain c = λ e.
    plain_text c.args.most c.args.text.now (search rules) (search (rules, arith, e))

pub loop-octet-preserved : goal.loop-octet-preserved
loop-octet-preserved c =
    let f = c.in-Some.ensures in
    spelled_more (λ x. x < 256) escaped_octet c.args.text.now c.loop-octet.rest.now
    c.in-Some.next.now c.loop-octet._octet c.in-Some.field-0-0 c.loop-octet.invariant f.0 f.1

pub returns-in-None : goal.returns-in-None
returns-in-None c = λ e.
    text_spelled c.args.most c.loop-octet._octet c.args.text.now c.loop-octet.rest.now
    c.loop-octet.invariant (omega arith) (is_none _ (sym c.is_empty.ensures ∙ e))

pub returns : goal.returns
returns c = λ e.
    text_spelled c.args.most c.loop-octet._octet c.args.text.now c.loop-octet.rest.now
    c.loop-octet.invariant (omega arith) (is_none _ (sym c.is_empty-2.ensures ∙ e))
