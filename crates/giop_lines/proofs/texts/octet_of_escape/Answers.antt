use Rattle.giop_lines.proofs.Digits.{escape_plain}
use Rattle.giop_lines.proofs.texts.octet_of_escape.Goals as goal

pub returns-then-is_plain : goal.returns-then-is_plain
returns-then-is_plain c =
    let p = c.in_ok-octet.ensures in
    escape_plain c.args.digits.now c.in_ok-octet.octet c.in_ok-octet.rest.now p.1 p.0
    c.if-is_plain.ensures
