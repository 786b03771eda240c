-- A decoder of which a value isn't over at its start fits.
use Rattle.std.proofs.Common.{sym, ◌∙◌, true≢false}
use Rattle.giop_decode_tests.proofs.tracing.differs.Goals as goal

pub take_all-differs-requires : goal.take_all-differs-requires
take_all-differs-requires c = c.start-decoder.ensures.fits (λ empty.
    true≢false (sym (c.is_done.ensures.1 (c.start-decoder.ensures.done.1 empty))
    ∙ c.if-is_done.false))
