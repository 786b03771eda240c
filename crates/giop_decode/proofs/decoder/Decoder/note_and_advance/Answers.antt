use Rattle.std.proofs.Common.{ℕ, ◌+◌, ◌-◌, List, [], ◌++◌, ap, sym, ◌∙◌, arith, ◌≡◌}
use Rattle.giop_decode.specs.Reading.{none_left, done_if_untyped}
use Rattle.giop_decode.proofs.Advancing.{comes_by, front_result, moved, one_further, rooted_front, transition_front, unended}
use Rattle.giop_decode.proofs.Around.{around-front}
use Rattle.giop_decode.specs.Passes.{AreStepLines}
use Rattle.giop_decode.proofs.Surrounding.{ahead_by, inside_after_octet, length_after_octet, places_after_octet, stand_after_octet, tree_after_octet}
use Rattle.giop_decode.proofs.Linking.{link_after_octet}
use Rattle.giop_decode.proofs.Settled.{settled_fits, settled_going, settled_lets_go, settled_now, settled_offset, settled_reading, settled_result, settled_string}
use Rattle.giop_sig.specs.Types.{elements_fit}
use Rattle.giop_decode.proofs.Whole.{behind_gives}
use Rattle.giop_decode.specs.Noted.{ends_in_string}
use Rattle.giop_decode.specs.DecoderSteps.{IsNotRefused, root_after_transition, transition_result}
use Rattle.giop_decode.specs.ReadResult.{Coding, ValueAt, with_front}
use Rattle.giop_decode.specs.ReadingSteps.{resume_outer, parts_after_lines, path_in}
use Rattle.giop_decode.specs.Transitions.{IsOutput, open_parts, tree_in, Link, any_encapsulation_ended, held_after_output, after_transition, frames_after_octet}
use Rattle.giop_sig.specs.Trees.{tree_at}
use Rattle.giop_decode.specs.NotingSteps.{transition_in_string, transition_offset}
use Rattle.giop_decode.proofs.decoder.Decoder.note_and_advance.Goals as goal

pub note-named-requires-clause-known : goal.note-named-requires-clause-known
note-named-requires-clause-known c = c.requires.counted.1.around.known

pub advance_frames-requires-clause-known : goal.advance_frames-requires-clause-known
advance_frames-requires-clause-known c = c.requires.counted.1.around.known

pub advance_frames-requires-clause-known_outer : goal.advance_frames-requires-clause-known_outer
advance_frames-requires-clause-known_outer c = c.requires.counted.1.outer.known

pub note-named-requires-clause-known_outer : goal.note-named-requires-clause-known_outer
note-named-requires-clause-known_outer c =
    rw c.as_slice.ensures.value c.requires.counted.1.outer.known

pub advance_frames-requires-clause-encloses : goal.advance_frames-requires-clause-encloses
advance_frames-requires-clause-encloses c =
    let b = c.requires.counted.1 in
    b.inside ∙ (b.around.inside
    ∙ sym (b.outer.inside ∙ inside_after_octet c.requires.counted.0.outer.items))

pub advance_frames-requires-clause-open : goal.advance_frames-requires-clause-open
advance_frames-requires-clause-open c =
    let C = c.args.catalogue.now in
    let b = c.requires.counted.1 in
    let s = b.around.are_open in (
      s.0 + 1,
      b.outer.are_open (s.0 + 1) (rw (places_after_octet C 24 s.0 c.requires.counted.0.outer.items
          b.around.ahead b.around.known_outer) s.1),
    )

pub advance_frames-requires-clause-fit : goal.advance_frames-requires-clause-fit
advance_frames-requires-clause-fit c =
    let b = c.requires.counted.1 in
    rw (b.outer.same, length_after_octet c.requires.counted.0.outer.items) b.around.fit

pub note-named-requires-clause-room : goal.note-named-requires-clause-room
note-named-requires-clause-room c =
    let b = c.requires.counted.1 in
    rw (c.as_slice.ensures.value, b.outer.same, length_after_octet c.requires.counted.0.outer.items)
    b.around.room

pub note-named-requires-clause-has_output : goal.note-named-requires-clause-has_output
note-named-requires-clause-has_output c = rw c.as_slice.ensures.value c.requires.has_output

pub resolve_recursion-transition-requires-clause-known :
    goal.resolve_recursion-transition-requires-clause-known
resolve_recursion-transition-requires-clause-known c = c.requires.counted.1.around.known

pub resolve_recursion-transition-requires-clause-room :
    goal.resolve_recursion-transition-requires-clause-room
resolve_recursion-transition-requires-clause-room c =
    let b = c.requires.counted.1 in
    rw (b.outer.same, length_after_octet c.requires.counted.0.outer.items) b.around.room

pub advance_frames-requires-clause-transition_fits :
    goal.advance_frames-requires-clause-transition_fits
advance_frames-requires-clause-transition_fits c =
    let now = c.args.self.now in
    let of = c.args.ahead.of.0 in
    let step = c.args.ahead.step in
    rw (c.resolve_recursion-transition.ensures, c.drop_written_piece.ensures)
    (settled_fits (tree_in c.args.catalogue.now now.outer.items of) of step.transition now.carry
    (held_after_output step.output now.piece.items) c.requires.transition_fits)

pub advance_frames-requires-clause-lets_go : goal.advance_frames-requires-clause-lets_go
advance_frames-requires-clause-lets_go c =
    let step = c.args.ahead.step in
    rw (c.resolve_recursion-transition.ensures, c.drop_written_piece.ensures)
    (settled_lets_go _ step.transition
    c.args.self.now.carry (held_after_output step.output c.args.self.now.piece.items)
    c.requires.lets_go)

pub advance_frames-requires-clause-settled : goal.advance_frames-requires-clause-settled
advance_frames-requires-clause-settled c =
    rw c.resolve_recursion-transition.ensures (settled_now _ c.args.ahead.step.transition)

pub returns : goal.returns
returns c d b =
    let C = c.args.catalogue.now in
    let now = c.args.self.now in
    let new = c.advance_frames.new.self in
    let of = c.args.ahead.of.0 in
    let T = tree_in C now.outer.items of in
    let same : tree_in C d.outer.items of ≡ T =
    ap (λ n. tree_at C (24 - n) of) (sym (b.outer.same ∙ length_after_octet d.outer.items)) in
    let step = c.args.ahead.step in
    let transition = step.transition in
    let rest = c.args.ahead.rest.now in
    let held = held_after_output step.output d.piece.items in
    let p = c.progress_of.result in
    let e = c.advance_frames.ensures in
    let fits = elements_fit T in
    let went = c.resolve_recursion-transition.ensures in
    let ended : c.any_encapsulation_ended-ended.result ≡ any_encapsulation_ended new.outer.items =
    rw (← c.as_slice-2.ensures.value) c.any_encapsulation_ended-ended.ensures in
    let come : (coding : Coding) (here : ℕ) (lines : List ValueAt) →
    AreStepLines C d of step rest here (here + 1) lines →
    root_after_transition coding C d of transition step.output lines here
    ≡ transition_result C T new transition lines (here + 1) =
    λ coding here lines says.
    let P = open_parts C here d.outer.items in
    let Q = open_parts C (here + 1) now.outer.items in
    let R = after_transition T transition d.carry held [] (here + 1) in
    let said : IsOutput (tree_in C (frames_after_octet d.outer.items) of) (path_in [] P) (here + 1)
    step.output
    (d.piece.items ++ rest) lines = rw (tree_after_octet C d.outer.items of) says in
    let heard : Q ≡ parts_after_lines lines P =
    b.outer.parts (here + 1) (here + 1) (path_in [] P) lines said
    ∙ ap (parts_after_lines lines) (places_after_octet C 24 here d.outer.items b.around.ahead
    b.around.known_outer) in
    ap (done_if_untyped none_left) (ap (λ U. resume_outer coding [] P
    (after_transition U transition d.carry held lines (here + 1))) same
    ∙ (ap (resume_outer coding [] P) (transition_front T transition d.carry held lines (here + 1))
    ∙ (around-front coding [] P lines R
    ∙ ap (λ qs. with_front lines (resume_outer coding [] qs R)) (sym heard))))
    ∙ (rooted_front lines (resume_outer coding [] Q R)
    ∙ (ap (with_front lines) (
    ap (λ r. done_if_untyped none_left (resume_outer coding [] Q r))
    (sym (settled_reading T transition d.carry held [] (here + 1)))
    ∙ ((rw (c.drop_written_piece.ensures, b.carry, b.piece, went)
    at (e.advances coding [] (here + 1))) ∙ settled_result T fits C new transition [] (here + 1)))
    ∙ front_result C T new transition lines (here + 1))) in
    record {
      order = e.order ∙ b.order;
      head = e.head ∙ b.head;
      forbids_wide = e.forbids_wide ∙ b.forbids_wide;
      here = λ coding here h. one_further coding d new here (e.order ∙ b.order) (e.at ∙ b.at)
          (e.stand (here + 1) (omega arith)
          (b.outer.stand (here + 1) (stand_after_octet here d.outer.items h.outer))) h;
      next = λ goes_on.
          let m = moved c.note-named.result c.any_encapsulation_ended-ended.result transition
          new.leaf p
          c.progress_of.ensures goes_on in
          let moves : IsNotRefused c.resolve_recursion-transition.result =
          rw went (settled_going fits transition m) in
          let none = unended c.note-named.result c.any_encapsulation_ended-ended.result transition
          new.leaf p
          c.progress_of.ensures goes_on in
          record {
            known_outer = e.known_outer;
            inside = e.encloses;
            ahead = ahead_by C new.outer.items e.known_outer (sym ended ∙ none);
            known = λ leaf is. e.known leaf moves is;
            clean = λ leaf is. e.clean leaf moves is;
            link = λ root leaf before is.
                let old : Link C root now.outer.items of =
                b.outer.link root of (link_after_octet C root d.outer.items of before) in
                e.link root leaf moves old is;
            going = m;
            offset = λ leaf is. (rw went at (e.offset leaf moves is))
                ∙ (settled_offset T fits transition
                ∙ ap (λ U. transition_offset U transition) (sym same));
          };
      steps = λ coding here lines says.
          let n = rw (c.as_slice.ensures.value, c.deref.ensures.0, c.root.ensures) at
          (c.note-named.ensures.named (here + 1) (here + 1) lines) in
          comes_by C T new c.note-named.result c.any_encapsulation_ended-ended.result transition
          lines (here + 1) p _
          (rw e.head (n (behind_gives C d now of step rest here (here + 1) lines b says)))
          ended (come coding here lines says) c.progress_of.ensures;
      inside = λ coding here lines says. ap ends_in_string (come coding here lines says)
          ∙ (ap ends_in_string (sym (settled_result T fits C new transition lines (here + 1)))
          ∙ ((rw went at (e.inside (here + 1) lines)) ∙ (settled_string T fits transition
          ∙ ap (λ U. transition_in_string U transition) (sym same))));
      of_root = λ was.
          let keeps = rw (c.root.ensures, b.head) at c.note-named.ensures.of_root in
          rw e.notes (keeps (rw b.notes was));
      notes = λ asked h here at lines before says.
          let told = rw (c.as_slice.ensures.value, c.deref.ensures.0, c.root.ensures, b.head) at
          (c.note-named.ensures.notes asked h (here + 1) at lines (rw b.notes before)) in
          rw e.notes (told (behind_gives C d now of step rest here at lines b says));
    }
