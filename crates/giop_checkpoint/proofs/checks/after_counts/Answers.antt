use Rattle.std.proofs.Common.{refl, ap, sym, ◌∙◌, take, drop, arith}
use Rattle.std.proofs.lemmas.List.{drop-drop}
use Rattle.giop_checkpoint.proofs.Fronts.{untrue}
use Rattle.giop_checkpoint.proofs.checks.after_counts.Goals as goal

pub returns-in_default-clause-refused : goal.returns-in_default-clause-refused
returns-in_default-clause-refused c = (
  omega arith,
  sym c.split_at.ensures.front ∙ (c.if-not-same.ensures.0 refl ∙ c.magic.ensures),
  λ h. c.in_default.not-Some h.0 ((c.of_if_read.ensures h.0).1
      (c.split_at-2.ensures.front ∙ (ap (take 4) c.split_at.ensures.back ∙ h.2), h.1)),
)

pub returns-then-not-are_written_in-clause-refused
    : goal.returns-then-not-are_written_in-clause-refused
returns-then-not-are_written_in-clause-refused c =
    let behind = c.split_at-2.ensures.back ∙ ap (drop 4) c.split_at.ensures.back
    ∙ drop-drop 4 8 c.args.octets.now in (
      omega arith,
      sym c.split_at.ensures.front ∙ (c.if-not-same.ensures.0 refl ∙ c.magic.ensures),
      (
        c.in-Some.layout,
        ((c.of_if_read.ensures c.in-Some.layout).0 c.in-Some.is).1,
        ap (take 4) (sym c.split_at.ensures.back)
            ∙ (sym c.split_at-2.ensures.front
            ∙ ((c.of_if_read.ensures c.in-Some.layout).0 c.in-Some.is).0),
      ),
      λ h. untrue (c.if-not-are_written_in.ensures.1
          (c.split_at-3.ensures.front ∙ (ap (take 16) behind ∙ h))),
    )

pub returns-clause-ours : goal.returns-clause-ours
returns-clause-ours c =
    let behind = c.split_at-2.ensures.back ∙ ap (drop 4) c.split_at.ensures.back
    ∙ drop-drop 4 8 c.args.octets.now in (
      omega arith,
      sym c.split_at.ensures.front ∙ (c.if-not-same.ensures.0 refl ∙ c.magic.ensures),
      (
        c.in-Some.layout,
        ((c.of_if_read.ensures c.in-Some.layout).0 c.in-Some.is).1,
        ap (take 4) (sym c.split_at.ensures.back)
            ∙ (sym c.split_at-2.ensures.front
            ∙ ((c.of_if_read.ensures c.in-Some.layout).0 c.in-Some.is).0),
      ),
      sym (ap (take 16) behind) ∙ (sym c.split_at-3.ensures.front
          ∙ c.if-not-are_written_in.ensures.0 refl),
    )

pub returns-clause-layout : goal.returns-clause-layout
returns-clause-layout c =
    ap (take 4) (sym c.split_at.ensures.back)
    ∙ (sym c.split_at-2.ensures.front ∙ ((c.of_if_read.ensures c.in-Some.layout).0 c.in-Some.is).0)

pub returns-clause-read : goal.returns-clause-read
returns-clause-read c = ((c.of_if_read.ensures c.in-Some.layout).0 c.in-Some.is).1

pub returns-clause-rest : goal.returns-clause-rest
returns-clause-rest c =
    let behind = c.split_at-2.ensures.back ∙ ap (drop 4) c.split_at.ensures.back
    ∙ drop-drop 4 8 c.args.octets.now in
    c.split_at-3.ensures.back ∙ (ap (drop 16) behind ∙ drop-drop 16 12 c.args.octets.now)
