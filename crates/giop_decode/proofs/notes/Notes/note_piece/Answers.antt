use Rattle.std.proofs.Common.{◌≡◌, ℕ, Bool, List, [], ◌∷◌, ◌++◌, length, ◌∙◌, subst, sym, refl, true}
use Rattle.std.proofs.lemmas.Bool.{false≢true}
use Rattle.std.proofs.Math.Dec.{eqb-suc-zero}
use Rattle.std.specs.Bool.{◌==◌}
use Rattle.giop_decode.specs.declared.notes.Notes.{Notes}
use Rattle.giop_decode.specs.Noted.{Noted, without_name_if, with_string_piece}
use Rattle.giop_decode.specs.SeenState.{HoldsNoted}
use Rattle.giop_sig.specs.Table.{Table}
use Rattle.giop_decode.proofs.Noting.{piece_both, piece_last, piece_more}
use Rattle.giop_decode.proofs.notes.Notes.note_piece.Goals.{then-not-is_empty, else-not-is_empty}
use Rattle.giop_decode.proofs.notes.Notes.note_piece.Goals as goal

-- if nothing is held, the rest is all
all_rest : (h : Noted) (held rest : List ℕ) → true ≡ (length held == 0) →
    with_string_piece (without_name_if true h) rest ≡ with_string_piece h (held ++ rest)
all_rest h [] rest none = refl
all_rest h (x ∷ held) rest none = absurd (false≢true (sym (none ∙ eqb-suc-zero (length held))))

module _ (C : Table) (asked : Bool) (h : Noted) (held rest : List ℕ) (m new : Notes)
    (adds : (x : Noted) → HoldsNoted C asked m x →
    HoldsNoted C asked new (with_string_piece x rest)) where
  with_held : (before : Notes) → m ≡ before →
      HoldsNoted C asked before (with_string_piece (without_name_if true h) held) →
      HoldsNoted C asked new (with_string_piece h (held ++ rest))
  with_held before same recalls = subst (HoldsNoted C asked new)
      (piece_both (without_name_if true h) held rest)
      (adds (with_string_piece (without_name_if true h) held)
      (subst (λ n. HoldsNoted C asked n (with_string_piece (without_name_if true h) held))
      (sym same) recalls))

  without : (before : Notes) → m ≡ before → HoldsNoted C asked before (without_name_if true h) →
      true ≡ (length held == 0) → HoldsNoted C asked new (with_string_piece h (held ++ rest))
  without before same recalls none = subst (HoldsNoted C asked new) (all_rest h held rest none)
      (adds (without_name_if true h)
      (subst (λ n. HoldsNoted C asked n (without_name_if true h)) (sym same) recalls))

pub returns-then-not-more-clause-notes : goal.returns-then-not-more-clause-notes
returns-then-not-more-clause-notes c C asked h recalls =
    let held = c.args.held.now in
    let rest = c.args.rest.now in
    let quiet = c.forget_name.ensures.notes C asked h recalls in
    let both : HoldsNoted C asked c.extend_string-2.new.self (with_string_piece h (held ++ rest)) =
    elim c.if-not-is_empty.branch [
      | then-not-is_empty w ↦ with_held C asked h held rest c.if-not-is_empty.self
          c.extend_string-2.new.self (c.extend_string-2.ensures.notes C asked)
          w.extend_string.new.self w.self-is
          (w.extend_string.ensures.notes C asked (without_name_if true h) quiet)
      | else-not-is_empty w ↦ without C asked h held rest c.if-not-is_empty.self
          c.extend_string-2.new.self
          (c.extend_string-2.ensures.notes C asked) c.forget_name.new.self w.self-is quiet
          w.if-not-is_empty.ensures
    ] in
    subst (HoldsNoted C asked c.end_string.new.self)
    (piece_last h (held ++ rest) c.args.more c.if-not-more.true)
    (c.end_string.ensures.notes C asked (with_string_piece h (held ++ rest)) both)

pub returns-else-not-more-clause-notes : goal.returns-else-not-more-clause-notes
returns-else-not-more-clause-notes c C asked h recalls =
    let held = c.args.held.now in
    let rest = c.args.rest.now in
    let quiet = c.forget_name.ensures.notes C asked h recalls in
    let both : HoldsNoted C asked c.extend_string-2.new.self (with_string_piece h (held ++ rest)) =
    elim c.if-not-is_empty.branch [
      | then-not-is_empty w ↦ with_held C asked h held rest c.if-not-is_empty.self
          c.extend_string-2.new.self (c.extend_string-2.ensures.notes C asked)
          w.extend_string.new.self w.self-is
          (w.extend_string.ensures.notes C asked (without_name_if true h) quiet)
      | else-not-is_empty w ↦ without C asked h held rest c.if-not-is_empty.self
          c.extend_string-2.new.self
          (c.extend_string-2.ensures.notes C asked) c.forget_name.new.self w.self-is quiet
          w.if-not-is_empty.ensures
    ] in
    subst (HoldsNoted C asked c.extend_string-2.new.self)
    (piece_more h (held ++ rest) c.args.more c.if-not-more.false) both
