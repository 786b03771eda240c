use Rattle.std.proofs.Common.{◌≡◌, ℕ, List, arith}
use Rattle.std.proofs.lemmas.Grind.{common_steps}
use Rattle.std.specs.Net.Text.{longest_zero_run}
use Rattle.tcp_segment.specs.EndpointText.{IsLongestRun}
use Rattle.tcp_segment.proofs.ZeroRuns.{is_longest}
use Rattle.tcp_segment.proofs.text.longest_zero_run.Goals as goal

pub loop-i-init : goal.loop-i-init
loop-i-init c = grind (arith, common_steps)

pub loop-i-preserved-then-run-len : goal.loop-i-preserved-then-run-len
loop-i-preserved-then-run-len c = grind (arith, common_steps)

pub loop-i-preserved : goal.loop-i-preserved
loop-i-preserved c = grind (arith, common_steps)

-- the run, given by its index and its length
longest_of : (groups : List ℕ) (start len : ℕ) → start ≡ (longest_zero_run groups).0
    → len ≡ (longest_zero_run groups).1 → IsLongestRun groups start len
longest_of groups start len first second = rw (first, second) (is_longest groups)

pub returns-clause-is : goal.returns-clause-is
returns-clause-is c =
    longest_of c.args.groups.now _ _ (grind (arith, common_steps)) (grind (arith, common_steps))
