use Rattle.std.proofs.Common.{sym, ◌∙◌}
use Rattle.giop_decode.proofs.StoredChain.{can_follows, follows_can}
use Rattle.giop_decode.proofs.chain.can_follow.Goals as goal

pub returns-then-index-gt0 : goal.returns-then-index-gt0
returns-then-index-gt0 c =
    let C = c.args.catalogue.now in
    let left = c.args.parts_room in
    let of = c.args.of.0 in
    let place = c.args.index in (
      λ yes. follows_can C left of place c.requires c.if-index-gt0.true
          (sym c.can_be_value.ensures ∙ yes),
      λ can. c.can_be_value.ensures ∙ can_follows C left of place c.requires can,
    )
