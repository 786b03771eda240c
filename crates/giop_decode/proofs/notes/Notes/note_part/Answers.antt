use Rattle.std.proofs.Common.{sym, ◌∙◌}
use Rattle.std.proofs.lemmas.Bool.{false≢true}
use Rattle.giop_decode.proofs.notes.Notes.note_part.Goals as goal

pub returns-then-is_header_member-clause-of_root : goal.returns-then-is_header_member-clause-of_root
returns-then-is_header_member-clause-of_root c was =
    record {
      id = λ other. absurd (false≢true (rw other at (sym (c.is_header_member.ensures 0)
          ∙ c.if-is_header_member.true)));
      no_interface = was.no_interface;
      no_key = was.no_key;
      keyless = was.keyless;
      interface = was.interface;
    }
