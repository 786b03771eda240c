use Rattle.std.proofs.Common.{ℕ, ◌++◌, ap, ◌∙◌}
use Rattle.giop_checkpoint.specs.Fixed.{place_octets, state_octets}
use Rattle.giop_checkpoint.proofs.Puts.{then}
use Rattle.giop_checkpoint.proofs.fixed.Fixed.write_state.Goals as goal

pub returns-clause-put : goal.returns-clause-put
unfolding state_octets
returns-clause-put g c =
    then _ _ _ _ _
    (then _ _ _ _ _ (then _ _ _ _ _ (then _ _ _ _ _
    (then _ _ _ _ _ c.put_four.ensures.put c.put_eight.ensures.put) c.put_eight-2.ensures.put)
    c.put_eight-3.ensures.put)
    (c.write.ensures.put ∙ ap (λ (n : ℕ). c.put_eight-3.new.out.items
    ++ place_octets c.args.self.now.place n) c.owner_octet.ensures))
    c.write_limits.ensures.put
