use Rattle.std.proofs.Common.{ℕ, ◌*◌, take, sym, ap, ◌∙◌}
use Rattle.giop_decode.specs.Stored.{frame_size}
use Rattle.giop_decode.proofs.StoredAgain.{stored_same, stored_by}
use Rattle.giop_decode.proofs.decoder.Decoder.is_stored_as.Goals as goal

pub returns-then-not-same_octets-clause-again : goal.returns-then-not-same_octets-clause-again
returns-then-not-same_octets-clause-again c C d fits stored restored =
    let both = stored_same d c.args.self.now _ _ _ _ restored stored (c.store.ensures.stored C fits)
    in
    let is = c.same_octets.ensures.1 both.0 in
    cc

pub returns-clause-again : goal.returns-clause-again
returns-clause-again c C d fits stored restored =
    let both = stored_same d c.args.self.now _ _ _ _ restored stored (c.store.ensures.stored C fits)
    in
    c.same_octets-2.ensures.1 (ap (λ (n : ℕ). take (frame_size * n) c.store.new.frames)
    c.from-count.ensures ∙ both.1)

pub returns-clause-stored : goal.returns-clause-stored
returns-clause-stored c C fits is =
    let frames = ap (λ (n : ℕ). take (frame_size * n) c.store.new.frames) (sym c.from-count.ensures)
    ∙ c.same_octets-2.ensures.0 is in
    stored_by c.args.self.now c.args.fixed.now c.args.frames.now _ _ (c.store.ensures.stored C fits)
    (c.same_octets.ensures.0 (cc)) frames
