use Rattle.std.proofs.Common.{sym, ◌≡◌, suc, ◌-◌, ◌∙◌, [], length, arith, subst}
use Rattle.giop_decode.specs.Noted.{is_header_root}
use Rattle.giop_decode.specs.SeenState.{HoldsNoted}
use Rattle.giop_decode.specs.ReadingSteps.{path_in}
use Rattle.giop_decode.specs.Transitions.{open_parts, tree_in}
use Rattle.giop_decode.proofs.Noting.{keyless_piece, silent_piece, switch_noted, unnamed_piece}
use Rattle.giop_decode.proofs.Rooms.{union_in_room}
use Rattle.giop_sig.specs.Types.{HasShape, shape_in}
use Rattle.giop_sig.specs.declared.types.Shape.TheVariants as shapes
use Rattle.giop_decode.proofs.notes.Notes.note.Goals.{else-has_keys-via-then-has_keys+else-is_object_key, else-has_keys-via-else-has_keys}
use Rattle.giop_decode.proofs.notes.Notes.note.Goals as goal

pub switch_type-requires-clause-union : goal.switch_type-requires-clause-union
switch_type-requires-clause-union c =
    let has = rw c.in-Switch.is at c.requires.has_output in
    union_in_room c.args.catalogue.now (24 - length c.args.outer.now) 24 c.args.finished.of.0 has.0

pub note_switch-requires-clause-number : goal.note_switch-requires-clause-number
note_switch-requires-clause-number c =
    let has = rw c.in-Switch.is at c.requires.has_output in
    let outer = c.args.outer.now in
    let one : suc (23 - length outer) ≡ 24 - length outer = omega (arith, c.requires.room) in
    (24, rw (c.switch_type.ensures.rooms 24 (23 - length outer), one) has.1)

pub returns-in_default : goal.returns-in_default
returns-in_default c =
    let room = 24 - length c.args.outer.now in
    let T = tree_in c.args.catalogue.now c.args.outer.now c.args.finished.of.0 in
    let other : (bound : _) → shape_in T ≡ shapes.Text bound → ⊥ =
    λ bound is. c.in_default.not-Text bound (c.shape.ensures.rooms room ∙ is) in
    let no_octets : (bound : _) → shape_in T ≡ shapes.Octets bound → ⊥ =
    λ bound is. c.in_default.not-Octets bound (c.shape.ensures.rooms room ∙ is) in
    record {
      of_root = λ was. was;
      notes = λ asked h here at lines held says.
          let k = rw c.in-Piece.is at says in
          rw (c.in-Piece.is, k) (silent_piece c.args.catalogue.now asked
          (is_header_root c.args.root) T
          (path_in [] (open_parts c.args.catalogue.now here c.args.outer.now)) at c.in-Piece.offset
          _
          c.in-Piece.more h c.args.self.now other (λ bound is. absurd (no_octets bound is)) held);
      named = λ here at lines says.
          let k = rw c.in-Piece.is at says in
          rw k (unnamed_piece (is_header_root c.args.root) T
          (path_in [] (open_parts c.args.catalogue.now here c.args.outer.now)) at c.in-Piece.offset
          _
          c.in-Piece.more other);
    }

pub returns-in-Switch-clause-notes : goal.returns-in-Switch-clause-notes
returns-in-Switch-clause-notes c asked h here at lines recalls says =
    let path = path_in [] (open_parts c.args.catalogue.now here c.args.outer.now) in
    let k = rw c.in-Switch.is at says in
    let outer = c.args.outer.now in
    let one : suc (23 - length outer) ≡ 24 - length outer = omega (arith, c.requires.room) in
    let noted = rw (c.switch_type.ensures.rooms 24 (23 - length outer), one) at
    (c.note_switch.ensures.notes asked h 24) in
    rw (c.in-Switch.is, k.1) (subst (HoldsNoted c.args.catalogue.now asked c.note_switch.new.self)
    (switch_noted (is_header_root c.args.root) path _ h k.0.scalar k.0.n at)
    (noted k.0 recalls))

pub returns-in-Number-clause-notes : goal.returns-in-Number-clause-notes
returns-in-Number-clause-notes c asked h here at lines recalls says =
    let k = rw c.in-Number.is at says in
    rw (c.in-Number.is, k.1) (c.note_part.ensures.notes asked h here _ k.0 recalls)

pub returns-else-has_keys-clause-notes : goal.returns-else-has_keys-clause-notes
returns-else-has_keys-clause-notes c asked h here at lines held says =
    let C = c.args.catalogue.now in
    let header = is_header_root c.args.root in
    let room = 24 - length c.args.outer.now in
    let T = tree_in C c.args.outer.now c.args.finished.of.0 in
    let path = path_in [] (open_parts C here c.args.outer.now) in
    let bound = c.in-Octets.field-0 in
    let shape : shapes.Octets bound ≡ shape_in T =
    sym c.in-Octets.is ∙ c.shape.ensures.rooms room in
    let has : HasShape T (shapes.Octets bound) =
    rw c.in-Octets.is at (c.shape.ensures.shapes room) in
    let k = rw c.in-Piece.is at says in
    rw (c.in-Piece.is, k) (elim c.else-has_keys.branch [
      | else-has_keys-via-then-has_keys+else-is_object_key w ↦ silent_piece C asked header T path at
          c.in-Piece.offset _ c.in-Piece.more h c.args.self.now
          (λ b is. let no : shapes.Octets bound ≡ shapes.Text b = shape ∙ is in absurd cc)
          (λ b is. sym (w.is_object_key.ensures.is here) ∙ w.if-is_object_key.false) held
      | else-has_keys-via-else-has_keys w ↦ keyless_piece C asked header T path at
          c.in-Piece.offset _ c.in-Piece.more h c.args.self.now bound has
          (sym c.has_keys.ensures.is ∙ w.if-has_keys.false)
          (c.has_keys.ensures.none w.if-has_keys.false) held
    ])
