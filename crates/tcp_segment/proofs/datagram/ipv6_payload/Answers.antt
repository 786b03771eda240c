use Rattle.std.proofs.Common.{◌≡◌, ◌-◌, length, take, drop, ℕ, List, arith, ap, ◌∙◌}
use Rattle.std.proofs.lemmas.Grind.{common_steps}
use Rattle.tcp_segment.specs.Datagrams.{cut_to_length, ipv6_payload}
use Rattle.tcp_segment.proofs.datagram.ipv6_payload.Goals as goal

from_there_on : (n : ℕ) (xs : List ℕ) → take (length xs - n) (drop n xs) ≡ drop n xs
from_there_on n xs = grind (arith, common_steps)

pub returns : goal.returns
unfolding ipv6_payload
returns c =
    let o = c.args.octets.now in
    c.cut_to_length.ensures ∙ ap (cut_to_length _) (from_there_on 40 o)
    ∙ ap (λ n. cut_to_length n (drop 40 o)) c.two_at.ensures
