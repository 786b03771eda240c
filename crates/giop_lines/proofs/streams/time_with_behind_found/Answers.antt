use Rattle.std.proofs.Common.{ℕ, List, ◌++◌, append_assoc, ap, ◌∙◌}
use Rattle.std.specs.Prelude.{codes}
use Rattle.giop_lines.specs.Lines.{word_with_number, spaced_name, found_word}
use Rattle.giop_lines.proofs.Spelled.{joined_three, first_spaced}
use Rattle.giop_lines.proofs.streams.time_with_behind_found.Goals as goal

pub returns-then-is_time-clause-spelled : goal.returns-then-is_time-clause-spelled
returns-then-is_time-clause-spelled c =
    let rest = c.without_found-found.result.0.now in
    let found = found_word c.without_found-found.result.1 in
    let time = c.split_at_space_if_any.result.0.now in
    let tail = c.split_at_space_if_any.result.1 in
    let with = word_with_number (codes " with s") c.in_ok-places.places.0 in
    let behind = word_with_number (codes " behind ") c.in_ok-places.places.1 in
    joined_three c.args.text.now rest found time (spaced_name tail) c.without_found-found.ensures
    (first_spaced rest time tail c.split_at_space_if_any.ensures)
    ∙ ap (λ (xs : List ℕ). time ++ (xs ++ found)) c.in_ok-places.ensures.spelled
    ∙ ap (λ (xs : List ℕ). time ++ xs) (append_assoc with behind found)
