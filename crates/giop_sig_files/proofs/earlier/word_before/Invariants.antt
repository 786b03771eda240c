use Rattle.std.proofs.Common.{◌≡◌, ◌≤◌, ◌-◌, [], take, drop}
use Rattle.giop_sig_files.specs.Names.{word_before}
use Rattle.giop_sig_files.proofs.earlier.word_before.Given as goal

abbrev pub invariant-loop-end : goal.invariant-loop-end
invariant-loop-end l = record {
  order : l.start ≤ l.end;
  word : word_before l.stop (take (l.end - l.start) (drop l.start l.text)) (drop l.end l.text)
      ≡ word_before l.stop [] l.text;
}
