use Rattle.std.proofs.Common.{◌≡◌, ℕ, Bool, true, false, sym, ◌∙◌, refl}
use Rattle.std.specs.Prelude.{◌&&◌}
use Rattle.giop_sig.specs.Table.{Table, in_version}
use Rattle.giop_sig.specs.Trees.{tree, has_wide_text}
use Rattle.giop_message.specs.Headers.{minor}
use Rattle.giop_message.specs.Messages.{Untyped, Typed, typed_if_some}
use Rattle.giop_message.specs.Signatures.{body_tree}
use Rattle.giop_message.proofs.body_type.body_unless_wide.Goals.{else-is_narrow-via-then-is_narrow+else-has_wide_text, else-is_narrow-via-else-is_narrow}
use Rattle.giop_message.proofs.body_type.body_unless_wide.Goals as goal

both : (forbids_wide wide : Bool) → wide ≡ false → (forbids_wide && wide) ≡ false
both true wide e = e
both false wide e = refl

module _ (C : Table) (i : ℕ) where
  -- if the message has a version of narrow text and the type has wide text, the body has no type
  none : C.forbids_wide ≡ true → has_wide_text C.types i ≡ true → Untyped
      ≡ typed_if_some (body_tree C i)
  unfolding typed_if_some
  none forbids_wide wide = rw (forbids_wide, wide) refl

  -- else the type is the type of a body
  some : (C.forbids_wide && has_wide_text C.types i) ≡ false → Typed (tree C i)
      ≡ typed_if_some (body_tree C i)
  unfolding typed_if_some
  some e = rw e refl

pub returns-then-has_wide_text-clause-is : goal.returns-then-has_wide_text-clause-is
returns-then-has_wide_text-clause-is c =
    none (in_version (minor c.args.header.now) c.args.catalogue.now) c.args.of.0
    (rw (← c.minor_of.ensures) (sym c.is_narrow.ensures ∙ c.if-is_narrow.true))
    (sym c.has_wide_text.ensures ∙ c.if-has_wide_text.true)

pub returns-clause-is : goal.returns-clause-is
returns-clause-is c =
    let C = in_version (minor c.args.header.now) c.args.catalogue.now in
    some C c.args.of.0 (elim c.else-is_narrow.branch [
      | else-is_narrow-via-then-is_narrow+else-has_wide_text w ↦
          both C.forbids_wide _ (sym w.has_wide_text.ensures ∙ w.if-has_wide_text.false)
      | else-is_narrow-via-else-is_narrow w ↦
          let forbids_wide : C.forbids_wide ≡ false =
          rw (← c.minor_of.ensures) (sym c.is_narrow.ensures ∙ w.if-is_narrow.false) in
          rw forbids_wide refl
    ])
