use Rattle.std.proofs.Common.{arith}
use Rattle.giop_decode.proofs.StoredFrames.{nothing_again, status_again, interface_again}
use Rattle.giop_decode.proofs.restored.last_at.Goals as goal

pub returns-then-tag-eq0 : goal.returns-then-tag-eq0
returns-then-tag-eq0 c last rest range is =
    nothing_again c.args.at _ c.args.octets.now rest c.octet_at-tag.ensures last is (omega arith)

pub returns-then-tag-eq1 : goal.returns-then-tag-eq1
returns-then-tag-eq1 c last rest range is =
    status_again c.args.at _ c.args.octets.now rest c.octet_at-tag.ensures last _
    c.four_at-number.ensures range is (omega arith)

pub returns : goal.returns
returns c last rest range is =
    interface_again c.args.at _ c.args.octets.now rest c.octet_at-tag.ensures last _
    c.four_at-number.ensures range is (λ zero. absurd (omega (arith, zero)))
    (λ one. absurd (omega (arith, one)))
