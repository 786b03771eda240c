use Rattle.giop_stream.proofs.dispatch.open_current.Goals as goal

pub returns-in-Some-clause-kept : goal.returns-in-Some-clause-kept
returns-in-Some-clause-kept c =
    λ C l c' w place h apart n f. rw c.in-Some.is (c.open.ensures.kept C l c' w place h apart n f)

pub returns-in-None-clause-kept : goal.returns-in-None-clause-kept
returns-in-None-clause-kept c =
    λ C l c' w place h apart n f.
    rw c.in-None.is (c.open_without_id.ensures.kept C l c' w place h apart n f)
