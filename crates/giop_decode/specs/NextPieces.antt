-- Full pieces of an octet sequence, with more after each (steps).
use Rattle.std.specs.Prelude.{◌≡◌, ℕ, ◌+◌, ◌-◌, ◌<◌, ◌≤◌, ◌⊎◌, false, List, [], ◌++◌, length, Option, Some, None}
use Rattle.giop_decode.specs.declared.decoder.Decoder.{Decoder}
use Rattle.giop_decode.specs.declared.leaf.Leaf.TheVariants as innermost
use Rattle.giop_decode.specs.declared.pieces.PieceAhead.{PieceAhead}
use Rattle.giop_decode.specs.Segments.{frames_text}
use Rattle.giop_print.specs.Line.{headed}
use Rattle.giop_print.specs.Paths.{root_word}
use Rattle.giop_decode.specs.Noted.{is_header_root}
use Rattle.giop_print.specs.declared.path.Root.{Root}
use Rattle.giop_sig.specs.Table.{Table, has_keys, interface_in}
use Rattle.giop_sig.specs.Trees.{tree_at}
use Rattle.giop_sig.specs.Types.{Octets, Raw}

-- nothing is noted of octet sequences: this isn't a header, or the table has no KEYs
abbrev pub NotesNoOctets : (C : Table) (root : Root) → Type 0
NotesNoOctets C root = (is_header_root root ≡ false)
    ⊎ ((has_keys C ≡ false) × ((key : List ℕ) → interface_in C key ≡ None))

-- what a line begins with, up to the end of its path, if the frames are the parts around it
abbrev pub path_front : (C : Table) (d : Decoder) → List ℕ
path_front C d = headed d.head.message (root_word d.head.root ++ frames_text C d.outer.items) []

-- All octets of a full piece of an octet sequence come at the front of these octets. None of them
-- is held, and more come after the piece.
pub record IsPieceAhead (C : Table) (d : Decoder) (ahead : PieceAhead) : Type 0 where
  pub leaf : d.leaf ≡ Some (innermost.Content ahead.of ahead.total ahead.offset)
  pub bound : Option ℕ
  pub is : (room : ℕ) → tree_at C room ahead.of.0 ≡ Octets (Raw bound)
  pub more : 32 < ahead.total - ahead.offset
  pub whole : 32 ≤ length ahead.octets.now
  pub none_held : d.piece.items ≡ []

-- the decoder after that piece, 32 octets further on, with the same phase modulo 8
abbrev pub decoder_after_piece : (d : Decoder) (piece : PieceAhead) → Decoder
decoder_after_piece d ahead = record {
  order = d.order;
  head = d.head;
  at = d.at;
  forbids_wide = d.forbids_wide;
  outer = d.outer;
  inside = d.inside;
  leaf = Some (innermost.Content ahead.of ahead.total (ahead.offset + 32));
  carry = d.carry;
  piece = d.piece;
  notes = d.notes;
}
