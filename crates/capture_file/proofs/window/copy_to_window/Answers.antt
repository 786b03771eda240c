use Rattle.std.proofs.Common.{◌≡◌, ◌+◌, length, max, min, arith}
use Rattle.capture_file.proofs.WindowLemmas.{kept_copied}
use Rattle.capture_file.proofs.window.copy_to_window.Goals as goal

pub returns-then-from-to : goal.returns-then-from-to
returns-then-from-to c had long held =
    let from_is : c.max-from.result ≡ max (length had) c.args.begin = rw long (omega arith) in
    let to_is : c.min-to.result
    ≡ min (length had + length c.args.piece.now) (c.args.begin + c.args.size) =
    rw long (omega arith) in
    rw (c.copy_from_slice.ensures.after, ← long)
    (kept_copied c.args.begin c.args.size c.max-from.result c.min-to.result had c.args.piece.now
    c.args.window.now held
    c.requires.room from_is to_is c.if-from-to.true)
