use Rattle.std.proofs.Common.{arith, ◌∷◌, [], ap, sym, append_assoc}
use Rattle.giop_print.specs.Text.{escaped_octet}
use Rattle.giop_print.specs.Line.{line_text}
use Rattle.giop_print.proofs.Spelling.{escaped_one}
use Rattle.giop_print.proofs.line.Line.put_quoted.Goals as goal

pub returns : goal.returns
returns c =
    record {
      text = rw (
        c.put-2.ensures.text,
        c.put_escaped_octet.ensures.text,
        c.put.ensures.text,
        escaped_one,
      )
          (ap (λ z. 34 ∷ z) (sym (append_assoc (escaped_octet c.args.octet) (34 ∷ [])
          (line_text c.args.self.now))));
      room = omega (
        arith,
        c.put-2.ensures.room,
        c.put_escaped_octet.ensures.room,
        c.put.ensures.room,
      );
    }
