use Rattle.std.proofs.Common.{◌≡◌, false, ◌∙◌, sym}
use Rattle.std.specs.Result.{is_ok}
use Rattle.std.proofs.lemmas.Result.{err_from_is_err_and}
use Rattle.giop_print.proofs.sink.gather_part.Goals as goal
use Rattle.giop_print.proofs.Writing.{front-append}
use Rattle.giop_print.proofs.Gathering.{writes_part, had_no_room}

pub returns-in_err-put_all : goal.returns-in_err-put_all
returns-in_err-put_all g c =
    let p = err_from_is_err_and c.from_residual.result c.from_residual.ensures.1 in
    let none : is_ok c.try_extend_from_slice.result ≡ false =
    sym c.is_ok.ensures.value ∙ c.if-is_ok.false in
    let same = had_no_room c.try_extend_from_slice.result _ none c.try_extend_from_slice.ensures.err
    in
    rw (p.1) (front-append _ _ _ c.args.part.now
    (rw (c.as_slice.ensures.value, same) at c.in_err-put_all.ensures))

pub returns : goal.returns
returns g c =
    let none : is_ok c.try_extend_from_slice.result ≡ false =
    sym c.is_ok.ensures.value ∙ c.if-is_ok.false in
    let same = had_no_room c.try_extend_from_slice.result _ none c.try_extend_from_slice.ensures.err
    in
    let none_still : is_ok c.try_extend_from_slice-2.result ≡ false =
    sym c.is_ok-2.ensures.value ∙ c.if-is_ok-2.false in
    let full = had_no_room c.try_extend_from_slice-2.result _ none_still
    c.try_extend_from_slice-2.ensures.err in
    rw (full, c.clear.ensures) (writes_part c.put_all-2.result _ _ _ _ c.args.part.now
    (rw (c.as_slice.ensures.value, same) at c.in_ok-put_all.ensures) c.put_all-2.ensures)
