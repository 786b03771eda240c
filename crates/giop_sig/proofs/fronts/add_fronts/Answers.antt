use Rattle.giop_sig.proofs.fronts.add_fronts.Goals as goal

pub returns-in_err-add_front_of_length-2-clause-known
    : goal.returns-in_err-add_front_of_length-2-clause-known
returns-in_err-add_front_of_length-2-clause-known c version types laws =
    c.in_err-add_front_of_length-2.ensures.known version types
    (c.in_ok-add_front_of_length.ensures.known version types laws)

pub returns-clause-known : goal.returns-clause-known
returns-clause-known c version types laws =
    c.add_front_of_length-3.ensures.known version types
    (c.in_ok-add_front_of_length-2.ensures.known version types
    (c.in_ok-add_front_of_length.ensures.known version types laws))
