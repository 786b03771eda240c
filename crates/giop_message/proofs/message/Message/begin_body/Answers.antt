use Rattle.giop_message.specs.Messages.{read_body}
use Rattle.giop_message.specs.Signatures.{signatures_of}
use Rattle.giop_message.proofs.message.Message.begin_body.Goals as goal

pub returns-in-Nothing-clause-fits : goal.returns-in-Nothing-clause-fits
returns-in-Nothing-clause-fits c = c.begin_rest.ensures.fits c.args.catalogue.now

pub returns-in-Nothing-clause-arrives : goal.returns-in-Nothing-clause-arrives
unfolding read_body
returns-in-Nothing-clause-arrives c answers =
    rw c.in-Nothing.is (c.begin_rest.ensures.arrives c.args.catalogue.now answers)

pub returns-in-Type-clause-arrives : goal.returns-in-Type-clause-arrives
unfolding read_body
returns-in-Type-clause-arrives c answers = rw c.in-Type.is
    (c.begin_typed_body.ensures.arrives answers)

pub returns-in-Exception-clause-arrives : goal.returns-in-Exception-clause-arrives
unfolding read_body signatures_of
returns-in-Exception-clause-arrives c answers phase number header s at before e =
    c.begin_fixed.ensures.enters answers phase number header s at before tt
    (rw c.in-Exception.is at e)

pub returns-in-SystemException-clause-arrives : goal.returns-in-SystemException-clause-arrives
unfolding read_body signatures_of
returns-in-SystemException-clause-arrives c answers phase number header s at before e =
    c.begin_fixed-in-SystemException.ensures.enters answers phase number header s at before tt
    (rw c.in-SystemException.is at e)
