use Rattle.giop_stream.proofs.going_on.has_checkpoint.Goals as goal

pub returns : goal.returns
returns c = λ p h.
    let saved = c.save.ensures.saves p h in
    (saved.octets, saved.spells, saved.within)
