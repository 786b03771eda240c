use Rattle.std.proofs.Common.{List, ℕ, ◌++◌, ap, ◌∙◌}
use Rattle.giop_octets.specs.Fields.{four}
use Rattle.giop_checkpoint.specs.declared.layout.Layout.{Layout}
use Rattle.giop_checkpoint.specs.Layouts.{version_of}
use Rattle.giop_checkpoint.specs.Fixed.{state_octets, fixed_octets}
use Rattle.giop_checkpoint.proofs.Puts.{then}
use Rattle.giop_checkpoint.proofs.fixed.Fixed.write.Goals as goal

pub returns-clause-put : goal.returns-clause-put
unfolding fixed_octets
returns-clause-put g c =
    then _ _ _ _ _
    (then _ _ _ _ _
    (then _ _ _ _ _ (c.put_octets.ensures.put
    ∙ ap (λ (xs : List ℕ). c.args.out.now.items ++ xs) c.magic.ensures)
    (c.put_octets-2.ensures.put ∙ ap (λ (xs : List ℕ). c.put_octets.new.out.items ++ xs)
    (c.version.ensures
    ∙ ap (λ (l : Layout). four (version_of l)) c.written-layout.ensures.is)))
    c.write.ensures.put)
    (c.write_state.ensures.put
    ∙ ap (λ (l : Layout). c.write.new.out.items ++ state_octets l c.args.self.now)
    c.written-layout.ensures.is)
