use Rattle.std.proofs.Common.{arith, sym, ◌∙◌, ap, subst}
use Rattle.giop_decode.specs.NextPieces.{NotesNoOctets, path_front}
use Rattle.giop_decode.proofs.FirstTaken.{none_taken, so_far, taken_some, then_broken, then_some}
use Rattle.giop_decode.proofs.decoder.Decoder.write_pieces.Goals as goal
use Rattle.giop_print.proofs.Writing.{rest_from}

pub loop-piece-init : goal.loop-piece-init
loop-piece-init g c =
    record {
      so_far = none_taken c.args.catalogue.now c.args.self.now c.args.octets.now _ c.requires.fits;
      within = omega arith;
      quiet = c.requires.quiet;
      outside = c.requires.outside;
      front = c.requires.front;
      short = c.requires.short;
    }

pub returns-in_err-count : goal.returns-in_err-count
returns-in_err-count g c =
    let t = c.loop-piece.taken in
    let octets = c.args.octets.now in
    then_broken c.args.catalogue.now c.args.self.now c.loop-piece.self octets t _ _
    c.loop-piece.invariant.so_far c.write_piece.new.self _
    c.from_residual.result _ c.from_residual.ensures.0
    (rw (c.in-Some.ensures.octets, rest_from t octets) at c.in_err-count.ensures.takes)

pub loop-piece-preserved : goal.loop-piece-preserved
loop-piece-preserved g c =
    let t = c.loop-piece.taken in
    let octets = c.args.octets.now in
    let before = c.loop-piece.invariant in
    let next = c.in_ok-count.ensures.next in
    let then = so_far c.args.catalogue.now c.args.self.now c.write_piece.new.self octets _ _ _ _
    c.in_ok-count.ensures.more
    (then_some c.args.catalogue.now c.args.self.now c.loop-piece.self octets t _ _ before.so_far
    c.write_piece.new.self _ c.in_ok-count.count _
    (rw (c.in-Some.ensures.octets, rest_from t octets) at c.in_ok-count.ensures.takes)) in
    record {
      so_far = then;
      within = then.within;
      quiet = subst (λ d. NotesNoOctets c.args.catalogue.now d.head.root) (sym next) before.quiet;
      outside = ap (λ d. d.inside) next ∙ before.outside;
      front = before.front ∙ ap (path_front c.args.catalogue.now) (sym next);
      short = before.short;
    }

pub returns-in_err-rest : goal.returns-in_err-rest
returns-in_err-rest g c =
    let t = c.loop-piece.taken in
    let octets = c.args.octets.now in
    then_broken c.args.catalogue.now c.args.self.now c.loop-piece.self octets t _ _
    c.loop-piece.invariant.so_far c.take_one_unit.new.self _
    c.from_residual-in_err-rest.result _ c.from_residual-in_err-rest.ensures.0
    (rw (rest_from t octets) at c.in_err-rest.ensures)

pub returns : goal.returns
returns g c =
    let t = c.loop-piece.taken in
    let octets = c.args.octets.now in
    then_some c.args.catalogue.now c.args.self.now c.loop-piece.self octets t _ _
    c.loop-piece.invariant.so_far c.take_one_unit.new.self _
    c.in_ok-rest.rest c.in_ok-rest.progress (rw (rest_from t octets) at c.in_ok-rest.ensures)

pub returns-then-taken-octets : goal.returns-then-taken-octets
returns-then-taken-octets g c =
    taken_some c.args.catalogue.now c.args.self.now c.loop-piece.self c.args.octets.now
    c.loop-piece.taken _ _ c.loop-piece.invariant.so_far
    (omega (arith, c.if-taken-octets.true, c.requires.octets))
