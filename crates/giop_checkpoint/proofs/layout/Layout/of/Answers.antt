use Rattle.std.proofs.Common.{Some, ap, refl, ◌∙◌}
use Rattle.giop_octets.specs.Fields.{four}
use Rattle.giop_checkpoint.specs.Layouts.{version_of}
use Rattle.giop_checkpoint.specs.declared.layout.Layout.{Layout}
use Rattle.giop_checkpoint.specs.declared.layout.Layout.TheVariants.{Second, Third, Latest}
use Rattle.giop_checkpoint.proofs.States.{value_of}
use Rattle.giop_checkpoint.proofs.Versions.{one_layout}
use Rattle.giop_checkpoint.proofs.layout.Layout.of.Goals as goal

pub returns-then-same : goal.returns-then-same
returns-then-same c layout =
    let is = c.if-same.ensures.0 refl ∙ c.version.ensures in (
      λ h. is ∙ ap (λ (l : Layout). four (version_of l)) (value_of _ Second layout h refl),
      λ h. ap Some (one_layout c.args.octets.now Second layout is h),
    )

pub returns-then-same-2 : goal.returns-then-same-2
returns-then-same-2 c layout =
    let is = c.if-same-2.ensures.0 refl ∙ c.version-2.ensures in (
      λ h. is ∙ ap (λ (l : Layout). four (version_of l)) (value_of _ Third layout h refl),
      λ h. ap Some (one_layout c.args.octets.now Third layout is h),
    )

pub returns-then-same-3 : goal.returns-then-same-3
returns-then-same-3 c layout =
    let is = c.if-same-3.ensures.0 refl ∙ c.version-3.ensures in (
      λ h. is ∙ ap (λ (l : Layout). four (version_of l)) (value_of _ Latest layout h refl),
      λ h. ap Some (one_layout c.args.octets.now Latest layout is h),
    )
