-- The step that failed comes after the signatures, and these were read.
use Rattle.std.proofs.Common.{Result, Ok, Err, IfErr, inr}
use Rattle.giop_capture.proofs.steps.perform_capture.Goals as goal

err_by : {T E : Type 0} {P Q : E → Type 0} (r : Result T E) → ((e : E) → P e → Q e) → IfErr r P →
    IfErr r Q
err_by (Ok x) f h = tt
err_by (Err e) f h = f e h

pub returns-clause-refused : goal.returns-clause-refused
returns-clause-refused g c =
    let read = rw c.as_slice.ensures.value at c.in_ok-catalogue.ensures.ok in
    err_by c.open_and_dump.result (λ failure h. inr (c.in_ok-catalogue.catalogue, read, h))
    c.open_and_dump.ensures.refused
