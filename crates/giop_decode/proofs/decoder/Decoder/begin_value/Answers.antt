use Rattle.std.proofs.Common.{true, ℕ, ◌≡◌, ◌+◌, [], length, refl, sym, ap, ◌∙◌, arith}
use Rattle.giop_decode.specs.Reading.{reading}
use Rattle.giop_decode.specs.ReadResult.{Done}
use Rattle.giop_decode.specs.Transitions.{within_after_frame}
use Rattle.giop_decode.proofs.Starting.{begins_at, first_reads, first_fits, fit_some}
use Rattle.giop_decode.proofs.Surrounding.{ahead_by}
use Rattle.giop_decode.proofs.decoder.Decoder.begin_value.Goals as goal
use Rattle.giop_sig.specs.Trees.{tree}

pub returns-clause-reads : goal.returns-clause-reads
returns-clause-reads c coding at order even phase =
    let C = c.args.catalogue.now in
    let T = tree C c.args.of.0 in
    first_reads C T coding at c.args.self.now.head.message
    c.args.self.now.head.root _ c.descend_to_number-first.result
    (fit_some T c.if-is_empty_struct.ensures.root
    (λ empty. let t = (c.if-is_empty_struct.ensures.value 24).1 empty in cc)) refl
    c.new-self.ensures (λ here. c.descend_to_number-first.ensures.begun here
    ∙ rw c.clear.ensures refl) (c.descend_to_number-first.ensures.stand at (rw c.clear.ensures tt))
    (rw c.clear.ensures at c.descend_to_number-first.ensures.leaf)
    (c.clear-3.ensures.nothing C true) c.requires.version (sym order) refl refl phase even

pub returns-clause-fits : goal.returns-clause-fits
returns-clause-fits c some =
    let C = c.args.catalogue.now in
    let T = tree C c.args.of.0 in
    first_fits C c.args.of.0 _ c.descend_to_number-first.result c.requires.known
    (fit_some T c.if-is_empty_struct.ensures.root some) refl
    c.new-self.ensures c.clear-2.ensures (λ here. c.descend_to_number-first.ensures.begun here
    ∙ rw c.clear.ensures refl) (c.descend_to_number-first.ensures.stand _ (rw c.clear.ensures tt))
    (ahead_by C _ c.descend_to_number-first.ensures.known_outer
    (c.descend_to_number-first.ensures.ended ∙ rw c.clear.ensures refl))
    (let a = c.descend_to_number-first.ensures.inside in
    a.1 ∙ sym (a.2 ∙ ap (within_after_frame a.0) (rw c.clear.ensures refl)))
    (rw c.clear.ensures at c.descend_to_number-first.ensures.leaf)
    (c.descend_to_number-first.ensures.linked c.args.of.0 (rw c.clear.ensures refl))
    c.descend_to_number-first.ensures.known_outer c.descend_to_number-first.ensures.known
    (omega arith) (c.clear-3.ensures.nothing C true) c.clear-3.ensures.no_key c.requires.version

pub returns-then-is_empty_struct-clause-reads : goal.returns-then-is_empty_struct-clause-reads
returns-then-is_empty_struct-clause-reads c coding at order even phase =
    let noted = c.clear-3.ensures.nothing c.args.catalogue.now true in
    let C = c.args.catalogue.now in
    let T = tree C c.args.of.0 in
    let is : reading coding [] T at [] ≡ Done [] (at + length {A = ℕ} []) [] = search (arith) in
    record {
      lines = [];
      is = is;
      keeps_noted = search (arith, is);
      forbids_wide = c.requires.version;
      same_message = refl;
      same_root = refl;
      offset = begins_at coding _ at (sym order) phase even (rw c.clear.ensures tt);
    }
