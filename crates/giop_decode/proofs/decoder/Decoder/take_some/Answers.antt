use Rattle.std.proofs.Common.{◌≡◌, ℕ, ◌-◌, Bool, true, false, not, length, refl, sym, ◌∙◌}
use denote.Enum.Bare.{sameb}
use Rattle.giop_decode.specs.contracts.frame.Within.{the_type}
use Rattle.giop_decode.specs.declared.frame.Within.{Within}
use Rattle.giop_decode.specs.declared.frame.Within.TheVariants.{Nothing, Encapsulation, Telling}
use Rattle.giop_decode.specs.declared.decoder.Decoder.{Decoder as Before}
use Rattle.giop_decode.specs.SeenState.{Fits}
use Rattle.giop_decode.specs.Transitions.{HaveOctetsLeft, within_of, frames_after_octets}
use Rattle.giop_sig.specs.Table.{Table}
use Rattle.giop_decode.proofs.Counting.{ahead_free}
use Rattle.giop_decode.proofs.Surrounding.{free_coding_by}
use Rattle.giop_decode.proofs.decoder.Decoder.take_some.Goals as goal

not_other : (w : Within) (b : Bool) → b ≡ not (sameb the_type w Nothing) → b ≡ false →
    w ≡ Nothing
not_other Nothing b e f = refl
not_other Encapsulation b e f = absurd (let t : b ≡ true = e in cc)
not_other Telling b e f = absurd (let t : b ≡ true = e in cc)

outside : (C : Table) (d : Before) (b : Bool) → Fits C d →
    b ≡ not (sameb the_type d.inside Nothing) → b ≡ false → within_of d.outer.items ≡ Nothing
outside C d b f is same = sym f.inside ∙ not_other d.inside b is same

left_outside : (C : Table) (d : Before) (n : ℕ) (b : Bool) → Fits C d →
    b ≡ not (sameb the_type d.inside Nothing) → b ≡ false →
    HaveOctetsLeft (frames_after_octets n d.outer.items)
left_outside C d n b f is same = ahead_free n d.outer.items (outside C d b f is same) f.ahead

pub take_number-requires-clause-coded : goal.take_number-requires-clause-coded
take_number-requires-clause-coded g c =
    let d = c.args.self.now in
    free_coding_by d.order d.at d.outer.items
    (outside c.args.catalogue.now d c.ne.result c.requires.fits c.ne.ensures c.if-ne.false)

pub take_number-requires-clause-ahead : goal.take_number-requires-clause-ahead
take_number-requires-clause-ahead g c =
    left_outside c.args.catalogue.now c.args.self.now (length c.args.octets.now - 1) c.ne.result
    c.requires.fits c.ne.ensures c.if-ne.false

pub read_order-requires-clause-ahead : goal.read_order-requires-clause-ahead
read_order-requires-clause-ahead g c =
    left_outside c.args.catalogue.now c.args.self.now (length c.args.octets.now - 1) c.ne.result
    c.requires.fits c.ne.ensures c.if-ne.false

pub take_content-requires-clause-ahead : goal.take_content-requires-clause-ahead
take_content-requires-clause-ahead g c =
    left_outside c.args.catalogue.now c.args.self.now (length c.args.octets.now - 1) c.ne.result
    c.requires.fits c.ne.ensures c.if-ne.false
