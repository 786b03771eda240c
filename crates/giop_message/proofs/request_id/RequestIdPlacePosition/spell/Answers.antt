use Rattle.std.proofs.Common.{◌∷◌, ◌++◌, [], List, ℕ, refl, sym, ap, ◌∙◌, decimal, append_assoc, length-append, arith}
use Rattle.giop_decode.specs.Spelling.{path_text}
use Rattle.giop_print.specs.Line.{headed, line_text}
use Rattle.giop_message.specs.RequestId.{request_id_path}
use Rattle.giop_message.proofs.request_id.RequestIdPlacePosition.spell.Goals as goal

pub returns : goal.returns
unfolding path_text request_id_path
returns c =
    let number = decimal c.args.self.now.message in
    let place : List ℕ = 32 ∷ (request_id_path ++ []) in
    record {
      front = headed c.args.self.now.message request_id_path [];
      spelled = c.put.ensures.text ∙ ap (λ t. 109 ∷ t) (c.put_number.ensures.text
          ∙ (ap (λ t. number ++ t) c.put_octets.ensures.text
          ∙ sym (append_assoc number place (line_text c.args.line.now))));
      room = omega (
        arith,
        c.put.ensures.room,
        c.put_number.ensures.room,
        c.put_octets.ensures.room,
        length-append number place,
      );
      all = λ whole. refl;
    }
