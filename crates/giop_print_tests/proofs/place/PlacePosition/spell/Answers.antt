use Rattle.std.proofs.Common.{◌∷◌, ◌++◌, [], List, ℕ, length, sym, ap, refl, ◌∙◌, decimal, append_assoc, append-nil, length-append, arith}
use Rattle.giop_print.specs.Line.{headed, line_text}
use Rattle.giop_print_tests.proofs.place.PlacePosition.spell.Goals as goal

pub returns : goal.returns
returns c =
    let number = decimal c.args.self.now.message in
    let path = c.args.self.now.path.now.text in
    let behind : List ℕ = 32 ∷ (path ++ []) in
    let before = line_text c.args.line.now in
    record {
      front = headed c.args.self.now.message path [];
      spelled = c.put-2.ensures.text ∙ ap (λ t. 109 ∷ t) (c.put_number.ensures.text
          ∙ (ap (λ t. number ++ t) (c.put.ensures.text ∙ ap (λ t. 32 ∷ t)
          (c.put_octets.ensures.text ∙ ap (λ t. t ++ before)
          (c.text-text.ensures ∙ sym (append-nil path))))
          ∙ sym (append_assoc number behind before)));
      room = omega (
        arith,
        c.put-2.ensures.room,
        c.put_number.ensures.room,
        c.put.ensures.room,
        c.put_octets.ensures.room,
        length-append number behind,
        length-append path [],
        ap length c.text-text.ensures,
      );
      all = λ whole. refl;
    }
