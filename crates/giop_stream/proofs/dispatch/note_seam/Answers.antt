use Rattle.giop_stream.proofs.dispatch.note_seam.Goals as goal

pub returns-then-is_fragmented_1_1-clause-kept : goal.returns-then-is_fragmented_1_1-clause-kept
returns-then-is_fragmented_1_1-clause-kept c =
    λ C l c' k o h here rising.
    rw (← c.if-is_fragmented_1_1.ensures) (c.note_seam.ensures.kept C l c' k o c.args.now.place h
    here rising)
