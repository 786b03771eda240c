use Rattle.std.proofs.Common.{sym}
use Rattle.giop_decode.proofs.MarkedNumbers.{bare_value, named_value, word_value}
use Rattle.giop_decode.specs.Segments.{current_path_text}
use Rattle.giop_decode.proofs.line.marked_line.Goals as goal

pub returns-in-Some : goal.returns-in-Some
returns-in-Some g c =
    rw (← word_value c.args.path.now.head.message (current_path_text c.args.path.now)
    c.in-Some.word.now c.args.mark c.args.n (sym c.in-Some.ensures.word))
    c.value_line.ensures

pub returns-in-Some-number_name : goal.returns-in-Some-number_name
returns-in-Some-number_name g c =
    let name = c.in-Some-number_name.name in
    rw (← named_value c.args.path.now.head.message (current_path_text c.args.path.now) name.word.now
    name.code c.args.mark c.args.n (sym c.in-None.ensures.word)
    (sym c.in-Some-number_name.ensures.name)) c.value_line-in-Some-number_name.ensures

pub returns-in-None-number_name : goal.returns-in-None-number_name
returns-in-None-number_name g c =
    rw (← bare_value c.args.path.now.head.message (current_path_text c.args.path.now) c.args.mark
    c.args.n (sym c.in-None.ensures.word) (sym c.in-None-number_name.ensures.name))
    (rw c.from.ensures at c.value_line-in-None-number_name.ensures)
