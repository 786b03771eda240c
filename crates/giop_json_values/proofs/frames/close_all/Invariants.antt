use Rattle.std.proofs.Common.{◌≡◌, ◌-◌, ◌++◌, length, map, drop}
use Rattle.giop_json_values.specs.Nesting.{closing_tokens}
use Rattle.giop_json_values.proofs.frames.close_all.Given as goal

abbrev pub invariant-loop-closed : goal.invariant-loop-closed
invariant-loop-closed l =
    l.text.tokens ≡ l.fn.text.tokens
    ++ closing_tokens (map (λ f. f.shape) (drop (length l.frames - l.closed) l.frames))
