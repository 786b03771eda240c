use Rattle.std.proofs.Common.{◌≡◌, ◌-◌, ◌<◌}
use Rattle.std.specs.List.{All}
use Rattle.giop_tokens.specs.Reading.{◌>>=◌}
use Rattle.giop_sig.specs.ItemReading.{lengths_at}
use Rattle.giop_sig.proofs.LengthLaws.{lengths_after_these}
use Rattle.giop_sig.proofs.read_items.lengths_at.Given as goal

abbrev pub invariant-loop : goal.invariant-loop
invariant-loop l =
    record {
      so_far : (lengths_at (l.most - l.counter) l.rest >>= lengths_after_these l.lengths.items)
          ≡ lengths_at l.most l.text;
      some : All (λ n. 0 < n) l.lengths.items;
    }
