use Rattle.std.proofs.Common.{arith}
use Rattle.giop_decode.proofs.StoredFrames.{number_again, opening_again, content_again}
use Rattle.giop_decode.proofs.restored.leaf_at.Goals as goal

pub returns-then-tag-eq0 : goal.returns-then-tag-eq0
returns-then-tag-eq0 c leaf rest range is =
    number_again c.args.at _ _ c.args.octets.now rest c.octet_at-tag.ensures c.four_at.ensures leaf
    range is (omega arith)

pub returns-then-tag-eq2 : goal.returns-then-tag-eq2
returns-then-tag-eq2 c leaf rest range is =
    opening_again c.args.at _ _ c.args.octets.now rest c.octet_at-tag.ensures c.four_at.ensures leaf
    _ range is (omega arith)
    c.four_at-count.ensures

pub returns : goal.returns
returns c leaf rest range is =
    content_again c.args.at _ _ c.args.octets.now rest c.octet_at-tag.ensures c.four_at.ensures leaf
    _ _ range is
    (λ zero. absurd (omega (arith, zero))) (λ two. absurd (omega (arith, two)))
    c.four_at-count.ensures c.four_at-2.ensures
