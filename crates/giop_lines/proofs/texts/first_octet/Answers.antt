use Rattle.giop_lines.proofs.Digits.{escaped_first}
use Rattle.giop_lines.proofs.texts.first_octet.Goals as goal

pub returns : goal.returns
returns c =
    escaped_first c.args.text.now c.in_ok-after.field-0.now c.octet_of_escape.result
    c.in_ok-after.ensures c.octet_of_escape.ensures
