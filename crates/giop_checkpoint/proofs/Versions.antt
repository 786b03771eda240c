-- The octets of a version are those of one layout only.
use Rattle.std.proofs.Common.{◌≡◌, List, ℕ, refl}
use Rattle.giop_octets.specs.Fields.{four}
use Rattle.giop_checkpoint.specs.Layouts.{version_of}
use Rattle.giop_checkpoint.specs.declared.layout.Layout.{Layout}
use Rattle.giop_checkpoint.specs.declared.layout.Layout.TheVariants.{Second, Third, Latest}

pub one_layout : (octets : List ℕ) (layout other : Layout) → octets ≡ four (version_of layout) →
    octets ≡ four (version_of other) → layout ≡ other
unfolding four
one_layout octets Second Second h k = refl
one_layout octets Second Third h k = cc
one_layout octets Second Latest h k = cc
one_layout octets Third Second h k = cc
one_layout octets Third Third h k = refl
one_layout octets Third Latest h k = cc
one_layout octets Latest Second h k = cc
one_layout octets Latest Third h k = cc
one_layout octets Latest Latest h k = refl
