-- Full pieces of an octet sequence, with another piece after each: what taking one of them does.
use Rattle.std.proofs.Common.{inr, inl, Bool, ◌≡◌, Result, Ok, IsErr, ℕ, ◌+◌, ◌-◌, ◌%◌, ◌<◌, true, false, List, [], ◌∷◌, ◌++◌, length, take, Some, refl, sym, ◌∙◌, ap, subst, arith, append-nil, codes, decimal}
use Rattle.std.proofs.Math.Bool.{and-false}
use Rattle.giop_decode.specs.declared.frame.Within.TheVariants as withins
use Rattle.giop_decode.specs.declared.decoder.Decoder.{Decoder}
use Rattle.giop_decode.specs.declared.leaf.Leaf.{Leaf as Innermost}
use Rattle.giop_decode.specs.declared.leaf.Leaf.TheVariants as innermost
use Rattle.giop_decode.specs.declared.leaf.Step.{Step}
use Rattle.giop_decode.specs.declared.leaf.Transition.TheVariants as transitions
use Rattle.giop_decode.specs.declared.leaf.Output.TheVariants as outputs
use Rattle.giop_decode.specs.declared.pieces.PieceAhead.{PieceAhead}
use Rattle.giop_decode.specs.declared.progress.Progress.{Progress}
use Rattle.giop_decode.specs.declared.progress.Progress.TheVariants as progress
use Rattle.giop_decode.specs.SeenState.{Fits, HoldsNoted}
use Rattle.giop_decode.specs.DecoderSteps.{root_after_transition, transition_result}
use Rattle.giop_decode.specs.NameBuffer.{string_offset}
use Rattle.giop_decode.specs.NextPieces.{IsPieceAhead, NotesNoOctets, decoder_after_piece}
use Rattle.giop_decode.specs.Noted.{Noted, ends_in_string, is_header_root, names_operation, note_lines}
use Rattle.giop_decode.specs.NotingSteps.{transition_in_string, transition_offset}
use Rattle.giop_decode.specs.Passes.{AreStepLines, NotesAndAdvances}
use Rattle.giop_decode.specs.ReadResult.{Coding, ValueAt, PathSegment, Piece, line}
use Rattle.giop_decode.specs.ReadingSteps.{path_in}
use Rattle.giop_decode.specs.Runs.{TakenTogether, TakesSome}
use Rattle.giop_decode.specs.Segments.{frames_text}
use Rattle.giop_decode.specs.Spelling.{value_text}
use Rattle.giop_decode.specs.Transitions.{HoldsOnlyItsOwn, Link, within_of, leaf_type, open_parts, tree_in}
use Rattle.giop_decode.proofs.Advancing.{comes_by, one_further, same_some, rooted_gone}
use Rattle.giop_decode.proofs.Counting.{ahead_free, free_after_octets}
use Rattle.giop_decode.proofs.FieldsRead.{path_spelled}
use Rattle.giop_decode.proofs.FieldsRead.{headed_is}
use Rattle.giop_decode.proofs.NextParts.{places_free, stand_free}
use Rattle.giop_decode.proofs.Noting.{keyless_piece, stopped_silent}
use Rattle.giop_decode.proofs.Passing.{last_says, passed_broken, passed_some}
use Rattle.giop_decode.proofs.Segments.{said_one}
use Rattle.giop_decode.proofs.FirstTaken.{NextLinesSatisfy}
use Rattle.giop_decode.proofs.Surrounding.{around_free, free_ended}
use Rattle.giop_decode.proofs.Whole.{IsAtLast, at_last, comes_full, is_at_last, no_carry}
use Rattle.giop_print.specs.Line.{headed}
use Rattle.giop_print.specs.Lines.{content_line, more_word, spaced_hex}
use Rattle.giop_print.specs.Output.{OutLog, Wrote, WroteFront}
use Rattle.giop_print.specs.Paths.{root_word}
use Rattle.giop_sig.specs.Table.{Table}
use Rattle.giop_sig.specs.Types.{Octets, Raw}

-- the text of a full piece's line after what the line begins with
pub line_is : (message offset : ℕ) (place octets rest : List ℕ) →
    rest ≡ codes " octets @" ++ (decimal offset ++ (spaced_hex (octets ++ []) ++ (more_word true
    ++ codes "\n"))) →
    headed message place [] ++ rest
    ≡ content_line message place (codes " octets @") offset (spaced_hex octets) (more_word true)
unfolding content_line
line_is message offset place octets rest e = search (arith, append-nil, headed_is, codes, decimal)

-- the same line, as that of a value
piece_text_is : (message offset : ℕ) (place octets : List ℕ) (bound : _) →
    content_line message place (codes " octets @") offset (spaced_hex octets) (more_word true)
    ≡ value_text message place (Piece (Octets (Raw bound)) offset octets true)
unfolding content_line
piece_text_is message offset place octets bound = refl

module _ (C : Table) (d : Decoder) (ahead : PieceAhead) (f : Fits C d)
    (h : IsPieceAhead C d ahead) (quiet : NotesNoOctets C d.head.root)
    (outside : d.inside ≡ withins.Nothing) where
  abbrev octets : List ℕ
  octets = ahead.octets.now

  abbrev rest : List ℕ
  rest = take 32 octets

  abbrev next : Innermost
  next = innermost.Content ahead.of ahead.total (ahead.offset + 32)

  abbrev step : Step
  step = record {
    transition = transitions.More next;
    output = outputs.Piece ahead.offset true;
  }

  free : within_of d.outer.items ≡ withins.Nothing
  free = sym f.inside ∙ outside

  taken_together : TakenTogether C d octets ahead.of 32 step rest d.carry d.piece.items
  taken_together =
      comes_full C d ahead.of ahead.total ahead.offset octets 32 f h.leaf
      (ahead_free (length octets - 1) d.outer.items free f.ahead) h.more
      (ap (λ xs. 32 - length xs) (sym h.none_held)) h.whole

  -- the decoder at the last octet of the piece; no octet was counted, as there is no encapsulation
  abbrev there : Decoder
  there = at_last d ((d.at + 31) % 8) d.outer

  on : IsAtLast d there 32
  on = search (arith, is_at_last, free_after_octets, free)

  -- the path of the piece, and its line
  abbrev place : List ℕ
  place = root_word d.head.root ++ frames_text C d.outer.items

  abbrev text : List ℕ
  text = content_line d.head.message place (codes " octets @") ahead.offset (spaced_hex rest)
      (more_word true)

  is_here : tree_in C d.outer.items ahead.of.0 ≡ Octets (Raw h.bound)
  is_here = h.is (24 - length d.outer.items)

  given : (here at : ℕ) (lines : List ValueAt) →
      AreStepLines C there ahead.of.0 step rest here at lines →
      lines ≡ line at (path_in [] (open_parts C here d.outer.items))
      (Piece (Octets (Raw h.bound)) ahead.offset rest true) ∷ []
  given here at lines says = rw (is_here, h.none_held) at says

  piece_says : (Says : List ℕ → Type 0) → Says text → NextLinesSatisfy C d octets 31 Says
  piece_says Says w =
      last_says C d octets ahead.of 32 step rest f there taken_together on Says
      (λ here at lines says.
      subst Says (piece_text_is d.head.message ahead.offset place rest h.bound
      ∙ said_one d.head.message d.head.root at (path_in [] (open_parts C here d.outer.items)) place
      (Piece (Octets (Raw h.bound)) ahead.offset rest true) lines
      (path_spelled C here d.head.root d.outer.items) (given here at lines says)) w)

  abbrev new : Decoder
  new = decoder_after_piece d ahead

  come : (coding : Coding) (here : ℕ) (lines : List ValueAt) →
      root_after_transition coding C there ahead.of.0 step.transition step.output lines here
      ≡ transition_result C (tree_in C d.outer.items ahead.of.0) new step.transition lines (here +
      1)
  come coding here lines = search (arith, rooted_gone, places_free, free, around_free)

  -- a piece that isn't the last names no operation
  unnamed : (here at : ℕ) (lines : List ValueAt) → AreStepLines C there ahead.of.0 step rest here at
      lines →
      false ≡ names_operation (is_header_root d.head.root) lines
  unnamed here at lines says = search (arith, given, and-false, codes)

  -- nothing is noted of the piece
  kept_by : NotesNoOctets C d.head.root → (asked : Bool) (o : Noted) (at : ℕ)
      (path : List PathSegment) → HoldsNoted C asked d.notes o → HoldsNoted C asked d.notes
      (note_lines (is_header_root d.head.root) o
      (line at path (Piece (Octets (Raw h.bound)) ahead.offset rest true) ∷ []))
  kept_by (inl body) asked o at path held = rw body held
  kept_by (inr keys) asked o at path held =
      keyless_piece C asked (is_header_root d.head.root) (Octets (Raw h.bound)) path at
      ahead.offset rest true o d.notes h.bound refl keys.0 keys.1 held

  kept : (asked : Bool) (o : Noted) (here at : ℕ) (lines : List ValueAt) →
      HoldsNoted C asked d.notes o → AreStepLines C there ahead.of.0 step rest here at lines →
      HoldsNoted C asked d.notes (note_lines (is_header_root d.head.root) o lines)
  kept asked o here at lines held says =
      rw (given here at lines says) (kept_by quiet asked o at
      (path_in [] (open_parts C here d.outer.items)) held)

  silent : (coding : Coding) (here : ℕ) (lines : List ValueAt) →
      ends_in_string (root_after_transition coding C there ahead.of.0 step.transition step.output
      lines here) ≡ transition_in_string (tree_in C d.outer.items ahead.of.0) step.transition
  silent coding here lines = search (arith, come, stopped_silent, is_here)

  piece_passes : NotesAndAdvances C there new ahead.of.0 step rest progress.More
  piece_passes =
      record {
        order = refl;
        head = refl;
        forbids_wide = refl;
        here = λ coding here k. one_further coding there new here refl
            (let small = f.at in omega (arith, small))
            (stand_free (here + 1) d.outer.items free) k;
        next = λ goes_on. record {
          known_outer = f.known_outer;
          inside = f.inside;
          ahead = f.ahead;
          known = λ leaf is. subst (λ l. leaf_type l < length C.types) (at_next leaf is) known;
          clean = λ leaf is. subst (λ l. HoldsOnlyItsOwn l d.carry d.piece.items) (at_next leaf is)
              (no_carry C d ahead.of ahead.total ahead.offset octets 32 f h.leaf
              (ahead_free (length octets - 1) d.outer.items free f.ahead));
          link = λ root leaf link is. subst (λ l. Link C root d.outer.items (leaf_type l))
              (at_next leaf is) link;
          going = tt;
          offset = λ leaf is.
              subst (λ l. string_offset (tree_in C d.outer.items (leaf_type l)) l
              ≡ transition_offset (tree_in C d.outer.items ahead.of.0) step.transition)
              (at_next leaf is) refl;
        };
        steps = λ coding here lines says.
            comes_by C (tree_in C d.outer.items ahead.of.0) new false false step.transition lines
            (here + 1) progress.More _
            (unnamed here (here + 1) lines says) (sym (free_ended d.outer.items free))
            (come coding here lines) refl;
        inside = λ coding here lines says. silent coding here lines;
        of_root = λ was. was;
        notes = λ asked o here at lines held says. kept asked o here at lines held says;
      }
    where
      at_next : (leaf : Innermost) → Some next ≡ Some leaf → next ≡ leaf
      at_next leaf is = same_some next leaf is

      known : ahead.of.0 < length C.types
      known = search (arith, same_some)

  pub piece_some : {E : Type 0} (a c : OutLog) → Wrote a c text →
      TakesSome {E = E} C d new octets a c (Ok (32, progress.More))
  piece_some a c said =
      passed_some C d octets ahead.of 32 step rest f there taken_together on new progress.More
      piece_passes a c (piece_says (Wrote a c) said)

  pub piece_broken : {E : Type 0} (r : Result (ℕ × Progress) E) (after : Decoder)
      (a c : OutLog) → IsErr r → WroteFront a c text → TakesSome C d after octets a c r
  piece_broken r after a c is said =
      passed_broken C d octets ahead.of 32 step rest f there taken_together on r after a c is
      (piece_says (WroteFront a c) said)
