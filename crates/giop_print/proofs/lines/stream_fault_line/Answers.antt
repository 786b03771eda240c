use Rattle.giop_print.specs.Lines.{stream_fault_line}
use Rattle.giop_print.proofs.lines.stream_fault_line.Goals as goal

pub returns : goal.returns
unfolding stream_fault_line
returns g c = rw (c.as_bytes.ensures.value, c.as_bytes-2.ensures.value, c.format.ensures.text) at
    c.put_parts.ensures
