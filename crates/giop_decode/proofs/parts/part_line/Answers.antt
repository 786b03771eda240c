use Rattle.std.proofs.Common.{arith}
use Rattle.giop_decode.proofs.NextParts.{line_is}
use Rattle.giop_decode.proofs.parts.part_line.Goals as goal

pub line_behind-requires : goal.line_behind-requires
line_behind-requires g c = record {
  within = omega (
    arith,
    c.requires.short,
    c.put_number_end.ensures.room,
    c.spell_segment.ensures.most,
  );
  room = omega (arith, c.put_number_end.ensures.room, c.spell_segment.ensures.most);
}

pub returns : goal.returns
returns g c message place front =
    rw (c.spell_segment.ensures.text, c.put_number_end.ensures.text, front, line_is message place)
    at c.line_behind.ensures
