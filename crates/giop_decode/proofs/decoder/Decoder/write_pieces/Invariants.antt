use Rattle.std.proofs.Common.{◌≡◌, ◌-◌, ◌≤◌, length}
use Rattle.giop_print.specs.Line.{line_text}
use Rattle.giop_decode.specs.declared.frame.Within.TheVariants as withins
use Rattle.giop_decode.specs.NextPieces.{NotesNoOctets, path_front}
use Rattle.giop_decode.proofs.FirstTaken.{HasTakenFirst}
use Rattle.giop_decode.proofs.decoder.Decoder.write_pieces.Given as goal

abbrev pub invariant-loop-piece : goal.invariant-loop-piece
invariant-loop-piece g l =
    record {
      so_far : HasTakenFirst l.catalogue l.initial.self l.self l.octets l.taken
          (g.O.Out.log l.initial.out) (g.O.Out.log l.out);
      within : l.taken ≤ length l.octets;
      quiet : NotesNoOctets l.catalogue l.self.head.root;
      outside : l.self.inside ≡ withins.Nothing;
      front : line_text l.front ≡ path_front l.catalogue l.self;
      short : length (line_text l.front) ≤ 89;
    }

abbrev pub decreases-loop-piece : goal.decreases-loop-piece
decreases-loop-piece g l = length l.octets - l.taken
