use Rattle.std.proofs.Common.{inr, refl, ap, sym, ◌∙◌, take, drop, length, arith}
use Rattle.std.proofs.lemmas.List.{drop-drop, length-drop}
use Rattle.giop_checkpoint.specs.declared.fixed.Fixed.{Fixed}
use Rattle.giop_checkpoint.proofs.Fronts.{front_of, ours_not, records_in, untrue, stated_by, range_by}
use Rattle.giop_checkpoint.proofs.States.{value_of}
use Rattle.giop_checkpoint.proofs.checks.fixed_part.Goals as goal

pub returns-in-Err-clause-again : goal.returns-in-Err-clause-again
returns-in-Err-clause-again c layout f records own read h lengths e =
    ours_not c.args.counts _ _ (front_of layout c.args.counts f _ records own read h e).ours
    c.in-Err.ensures.refused

pub split_at-requires : goal.split_at-requires
split_at-requires c =
    omega (
      arith,
      ap length c.in-Ok.ensures.rest,
      length-drop 28 c.args.octets.now,
      c.in-Ok.ensures.ours.0,
    )

pub returns-in_default-clause-refused : goal.returns-in_default-clause-refused
returns-in_default-clause-refused c =
    let s = c.args.octets.now in
    let front = c.split_at.ensures.front ∙ ap (take 68) c.in-Ok.ensures.rest in
    inr (
      c.in-Ok.ensures.ours,
      λ f h. c.in_default.not-Some f
          (c.state_at.ensures.again f h.counts
          (range_by s _ h.layout f c.in-Ok.ensures.layout h.laid_out h.range)
          (stated_by s _ _ h.layout f front c.in-Ok.ensures.layout h.laid_out h.octets)),
    )

pub returns-in_default-clause-again : goal.returns-in_default-clause-again
returns-in_default-clause-again c layout f records own read h lengths e =
    let s = c.args.octets.now in
    let p = front_of layout c.args.counts f s records own read h e in
    let front = c.split_at.ensures.front ∙ ap (take 68) c.in-Ok.ensures.rest in
    c.in_default.not-Some f
    (c.state_at.ensures.again f own (range_by s _ layout f c.in-Ok.ensures.layout p.laid_out h)
    (stated_by s _ _ layout f front c.in-Ok.ensures.layout p.laid_out p.octets))

pub returns-then-not-are_records-clause-refused : goal.returns-then-not-are_records-clause-refused
returns-then-not-are_records-clause-refused c =
    let rest = c.split_at.ensures.back ∙ (ap (drop 68) c.in-Ok.ensures.rest
    ∙ drop-drop 68 28 c.args.octets.now) in
    inr (
      c.in-Ok.ensures.ours,
      (
        c.in-Some.fixed,
        record {
          layout = _;
          read = c.in-Ok.ensures.read;
          laid_out = c.in-Ok.ensures.layout;
          counts = c.in-Some.ensures.counts;
          octets = ap (take 68) (sym c.in-Ok.ensures.rest)
              ∙ (sym c.split_at.ensures.front ∙ c.in-Some.ensures.octets);
          range = c.in-Some.ensures.range;
        },
        λ l. untrue (c.if-not-are_records.ensures.1 (records_in _ _ _ _ refl rest l)),
      ),
    )

pub returns-then-not-are_records-clause-again : goal.returns-then-not-are_records-clause-again
returns-then-not-are_records-clause-again c layout f records own read h lengths e =
    let s = c.args.octets.now in
    let p = front_of layout c.args.counts f s records own read h e in
    let front = c.split_at.ensures.front ∙ ap (take 68) c.in-Ok.ensures.rest in
    let rest = c.split_at.ensures.back ∙ (ap (drop 68) c.in-Ok.ensures.rest
    ∙ (drop-drop 68 28 s ∙ p.rest)) in
    let again = c.state_at.ensures.again f own
    (range_by s _ layout f c.in-Ok.ensures.layout p.laid_out h)
    (stated_by s _ _ layout f front c.in-Ok.ensures.layout p.laid_out p.octets) in
    let same = value_of _ _ _ again c.in-Some.is in
    untrue (c.if-not-are_records.ensures.1
    (records_in _ _ _ _ (ap (λ (x : Fixed). x.records) same) rest lengths))

pub returns-clause-passes : goal.returns-clause-passes
returns-clause-passes c = record {
  ours = c.in-Ok.ensures.ours;
  state = record {
    layout = _;
    read = c.in-Ok.ensures.read;
    laid_out = c.in-Ok.ensures.layout;
    counts = c.in-Some.ensures.counts;
    octets = ap (take 68) (sym c.in-Ok.ensures.rest)
        ∙ (sym c.split_at.ensures.front ∙ c.in-Some.ensures.octets);
    range = c.in-Some.ensures.range;
  };
  rest = c.split_at.ensures.back ∙ (ap (drop 68) c.in-Ok.ensures.rest
      ∙ drop-drop 68 28 c.args.octets.now);
  lengths = c.if-not-are_records.ensures.0 refl;
}

pub returns-clause-again : goal.returns-clause-again
returns-clause-again c layout f records own read h lengths e =
    let s = c.args.octets.now in
    let p = front_of layout c.args.counts f s records own read h e in
    let front = c.split_at.ensures.front ∙ ap (take 68) c.in-Ok.ensures.rest in
    let again = c.state_at.ensures.again f own
    (range_by s _ layout f c.in-Ok.ensures.layout p.laid_out h)
    (stated_by s _ _ layout f front c.in-Ok.ensures.layout p.laid_out p.octets) in (
      value_of _ _ _ again c.in-Some.is,
      c.split_at.ensures.back ∙ (ap (drop 68) c.in-Ok.ensures.rest ∙ (drop-drop 68 28 s ∙ p.rest)),
    )
