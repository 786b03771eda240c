use Rattle.giop_print.specs.Lines.{unfinished_line}
use Rattle.giop_print.proofs.lines.unfinished_line.Goals as goal

pub returns : goal.returns
unfolding unfinished_line
returns g c = rw (c.as_bytes.ensures.value, c.format.ensures.text) at c.put_parts.ensures
