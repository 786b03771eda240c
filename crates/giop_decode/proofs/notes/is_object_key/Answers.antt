use Rattle.std.proofs.Common.{◌≡◌, arith, length, refl, sym, ◌∙◌}
use Rattle.std.proofs.Math.Bool.{and-false}
use Rattle.giop_decode.proofs.Noting.{no_key, no_target}
use Rattle.giop_decode.proofs.notes.is_object_key.Goals as goal

pub returns-else-is_named-clause-is : goal.returns-else-is_named-clause-is
returns-else-is_named-clause-is c here =
    let two : length c.args.outer.now ≡ 2 =
    omega (arith, c.in-len2.len_at_least, c.in-len2.len_below) in
    c.if-is_named.false
    ∙ rw (
      no_target c.args.catalogue.now here c.args.outer.now _ two
          (sym (c.is_named-in-len2.ensures 24 here) ∙ c.if-is_named.false),
      and-false,
    ) refl

pub returns-in_default-2-clause-is : goal.returns-in_default-2-clause-is
returns-in_default-2-clause-is c here =
    rw (← no_key c.args.catalogue.now here c.args.outer.now c.in_default.len_at_least, and-false)
    refl
