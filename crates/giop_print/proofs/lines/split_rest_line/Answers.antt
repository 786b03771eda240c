use Rattle.std.proofs.Common.{[], ◌∷◌, append_assoc}
use Rattle.giop_print.specs.Lines.{rest_line}
use Rattle.giop_print.specs.Text.{hex}
use Rattle.giop_print.proofs.Spelling.{hex_append}
use Rattle.giop_print.proofs.lines.split_rest_line.Goals as goal

pub returns : goal.returns
unfolding rest_line
returns g c =
    rw (
      c.put_octets.ensures.text,
      c.put_number.ensures.text,
      c.put-2.ensures.text,
      c.put_hex-2.ensures.text,
      c.put_hex.ensures.text,
      c.put.ensures.text,
      c.new-line.ensures.text,
      ← append_assoc (hex c.args.held.now) (hex c.args.octets.now)
          (10 ∷ []),
      ← hex_append,
    ) at c.numbered_line.ensures
