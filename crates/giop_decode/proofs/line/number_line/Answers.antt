use Rattle.std.proofs.Common.{◌≡◌, ap, sym, ◌∙◌}
use Rattle.giop_decode.proofs.MarkedNumbers.{marked_value}
use Rattle.giop_decode.specs.Segments.{PathView, current_path_text}
use Rattle.giop_decode.proofs.line.number_line.Goals as goal

pub returns-in-Unsigned-number : goal.returns-in-Unsigned-number
returns-in-Unsigned-number g c n is =
    let path = c.args.path.now in
    let table : c.path.inside.catalogue.now ≡ path.table =
    ap (λ (v : PathView). v.table) c.path.view_is in
    rw (← marked_value path.head.message (current_path_text path) is.scalar is.n
    c.in-Unsigned-number.n c.in-Marked.mark
    (sym is.is ∙ (rw table at (c.in-Marked.ensures.shapes n)))
    (rw c.in-Unsigned-number.is at is.taken)) c.marked_line.ensures
