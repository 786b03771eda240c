use Rattle.std.proofs.Common.{◌≡◌, ◌-◌, ◌≤◌, false, length}
use Rattle.giop_print.specs.Line.{line_text}
use Rattle.giop_decode.specs.declared.frame.Within.TheVariants as withins
use Rattle.giop_decode.specs.NextParts.{front_text}
use Rattle.giop_decode.specs.Noted.{is_header_root}
use Rattle.giop_decode.proofs.FirstTaken.{HasTakenFirst}
use Rattle.giop_decode.proofs.decoder.Decoder.write_parts.Given as goal

abbrev pub invariant-loop-part : goal.invariant-loop-part
invariant-loop-part g l =
    record {
      so_far : HasTakenFirst l.catalogue l.initial.self l.self l.octets l.taken
          (g.O.Out.log l.initial.out) (g.O.Out.log l.out);
      within : l.taken ≤ length l.octets;
      body : is_header_root l.self.head.root ≡ false;
      outside : l.self.inside ≡ withins.Nothing;
      front : line_text l.front ≡ front_text l.catalogue l.self;
      short : length (line_text l.front) ≤ 128;
    }

abbrev pub decreases-loop-part : goal.decreases-loop-part
decreases-loop-part g l = length l.octets - l.taken
