use Rattle.std.proofs.Common.{arith, sym, ◌∙◌, ap}
use Rattle.giop_decode.specs.Noted.{is_header_root}
use Rattle.giop_decode.proofs.NextParts.{front_kept}
use Rattle.giop_decode.proofs.FirstTaken.{none_taken, so_far, taken_some, then_broken, then_some}
use Rattle.giop_decode.proofs.decoder.Decoder.write_parts.Goals as goal
use Rattle.giop_print.proofs.Writing.{rest_from}

pub loop-part-init : goal.loop-part-init
loop-part-init g c =
    record {
      so_far = none_taken c.args.catalogue.now c.args.self.now c.args.octets.now _ c.requires.fits;
      within = omega arith;
      body = c.requires.body;
      outside = c.requires.outside;
      front = c.requires.front;
      short = c.requires.short;
    }

pub returns-in_err-count : goal.returns-in_err-count
returns-in_err-count g c =
    let t = c.loop-part.taken in
    let octets = c.args.octets.now in
    then_broken c.args.catalogue.now c.args.self.now c.loop-part.self octets t _ _
    c.loop-part.invariant.so_far c.write_part.new.self _
    c.from_residual-in_err-count.result _ c.from_residual-in_err-count.ensures.0
    (rw (c.in-Some.ensures.octets, rest_from t octets) at c.in_err-count.ensures.takes)

pub loop-part-preserved : goal.loop-part-preserved
loop-part-preserved g c =
    let t = c.loop-part.taken in
    let octets = c.args.octets.now in
    let before = c.loop-part.invariant in
    let next = c.in_ok-count.ensures.next in
    let then = so_far c.args.catalogue.now c.args.self.now c.write_part.new.self octets _ _ _ _
    c.in_ok-count.ensures.more
    (then_some c.args.catalogue.now c.args.self.now c.loop-part.self octets t _ _ before.so_far
    c.write_part.new.self _ c.in_ok-count.count _
    (rw (c.in-Some.ensures.octets, rest_from t octets) at c.in_ok-count.ensures.takes)) in
    record {
      so_far = then;
      within = then.within;
      body = ap (λ h. is_header_root h.root) next.head ∙ before.body;
      outside = next.inside ∙ before.outside;
      front = before.front ∙ sym (front_kept c.args.catalogue.now c.loop-part.self
          c.write_part.new.self c.in-Some.part c.in-Some-next_primitive.next next);
      short = before.short;
    }

pub returns-in_err-last : goal.returns-in_err-last
returns-in_err-last g c =
    let t = c.loop-part.taken in
    let octets = c.args.octets.now in
    then_broken c.args.catalogue.now c.args.self.now c.loop-part.self octets t _ _
    c.loop-part.invariant.so_far c.write_last_part.new.self _
    c.from_residual.result _ c.from_residual.ensures.0
    (rw (c.in-Some.ensures.octets, rest_from t octets) at c.in_err-last.ensures)

pub returns-in_default-next_primitive : goal.returns-in_default-next_primitive
returns-in_default-next_primitive g c =
    let t = c.loop-part.taken in
    let octets = c.args.octets.now in
    then_some c.args.catalogue.now c.args.self.now c.loop-part.self octets t _ _
    c.loop-part.invariant.so_far c.write_last_part.new.self _
    c.in_ok-last.last c.in_ok-last.progress (rw (c.in-Some.ensures.octets, rest_from t octets) at
    c.in_ok-last.ensures)

pub returns-in_err-rest : goal.returns-in_err-rest
returns-in_err-rest g c =
    let t = c.loop-part.taken in
    let octets = c.args.octets.now in
    then_broken c.args.catalogue.now c.args.self.now c.loop-part.self octets t _ _
    c.loop-part.invariant.so_far c.take_one_unit.new.self _
    c.from_residual-in_err-rest.result _ c.from_residual-in_err-rest.ensures.0
    (rw (rest_from t octets) at c.in_err-rest.ensures)

pub returns : goal.returns
returns g c =
    let t = c.loop-part.taken in
    let octets = c.args.octets.now in
    then_some c.args.catalogue.now c.args.self.now c.loop-part.self octets t _ _
    c.loop-part.invariant.so_far c.take_one_unit.new.self _
    c.in_ok-rest.rest c.in_ok-rest.progress (rw (rest_from t octets) at c.in_ok-rest.ensures)

pub returns-then-taken-octets : goal.returns-then-taken-octets
returns-then-taken-octets g c =
    taken_some c.args.catalogue.now c.args.self.now c.loop-part.self c.args.octets.now
    c.loop-part.taken _ _ c.loop-part.invariant.so_far
    (omega (arith, c.if-taken-octets.true, c.requires.octets))
