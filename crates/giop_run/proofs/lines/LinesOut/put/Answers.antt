use Rattle.std.proofs.Common.{length, arith, refl}
use Rattle.std.proofs.KnownBytes.{append_known-grown, Keeps-refl}
use Rattle.std.proofs.lemmas.List.{take_all}
use Rattle.giop_run.specs.Buffered.{lines_log, lines_kept_back}
use Rattle.giop_run.proofs.PutLemmas.{one_more_recent}
use Rattle.giop_run.proofs.lines.LinesOut.put.Goals as goal

pub returns : goal.returns
returns g c =
    let old = c.args.self.now in
    let octets = c.args.octets.now in
    record {
      some = λ h. h;
      within = omega arith;
      written = rw (take_all (length octets) octets (omega arith)) (append_known-grown
          (lines_log g.W.Write.contents old).written (g.W.Write.contents old.writer)
          (lines_kept_back old) _ octets
          (Keeps-refl (lines_log g.W.Write.contents old).written) c.add_put.ensures.octets);
      puts = rw c.add_put.ensures.recent (one_more_recent old.puts old.buffer.recent);
      failures = refl;
    }
