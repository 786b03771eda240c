use Rattle.giop_message.proofs.part.Part.restore.Goals as goal

pub returns-in-0-clause-fits : goal.returns-in-0-clause-fits
returns-in-0-clause-fits c = c.restore_typed.ensures.fits c.args.at

pub returns-in-1-clause-fits : goal.returns-in-1-clause-fits
returns-in-1-clause-fits c = c.restore_typed-in-1.ensures.fits c.args.at

pub returns-in-2-clause-fits : goal.returns-in-2-clause-fits
returns-in-2-clause-fits c = c.restore_typed-in-2.ensures.fits c.args.at

pub returns-in-3-clause-fits : goal.returns-in-3-clause-fits
returns-in-3-clause-fits c = c.restore_padding.ensures.fits c.args.minor c.args.at

pub returns-in-4-clause-fits : goal.returns-in-4-clause-fits
returns-in-4-clause-fits c = c.restore_rest.ensures.fits c.args.catalogue.now c.args.minor

pub returns-in-5-clause-fits : goal.returns-in-5-clause-fits
returns-in-5-clause-fits c = c.restore_typed-in-5.ensures.fits c.args.at
