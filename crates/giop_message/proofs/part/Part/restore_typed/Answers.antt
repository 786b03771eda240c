use Rattle.std.proofs.Common.{◌≡◌, ℕ, ◌+◌, ◌<◌, List, refl, arith}
use Rattle.giop_decode.specs.declared.decoder.Decoder.{Decoder}
use Rattle.giop_decode.specs.Stored as decoders
use Rattle.giop_message.specs.declared.part.Part.{Part}
use Rattle.giop_message.specs.declared.part.Part.TheVariants as parts
use Rattle.giop_message.specs.declared.part.Section.{Section}
use Rattle.giop_message.specs.declared.part.Section.TheVariants as sections
use Rattle.giop_message.specs.MessageState.{FitsVersion, FitsPart}
use Rattle.giop_message.specs.Stored.{section_octet, part_octet, PartStored, PartGoesOn, ReadsOn}
use Rattle.giop_sig.specs.Table.{Table}
use Rattle.giop_message.proofs.part.Part.restore_typed.Goals as goal

same : (own section : Section) → section_octet own ≡ section_octet section → section ≡ own
same sections.Header sections.Header e = refl
same sections.Exception sections.Exception e = refl
same sections.SystemException sections.SystemException e = refl
same sections.Body sections.Body e = refl
same sections.Header sections.Exception e = absurd (omega (arith, e))
same sections.Header sections.SystemException e = absurd (omega (arith, e))
same sections.Header sections.Body e = absurd (omega (arith, e))
same sections.Exception sections.Header e = absurd (omega (arith, e))
same sections.Exception sections.SystemException e = absurd (omega (arith, e))
same sections.Exception sections.Body e = absurd (omega (arith, e))
same sections.SystemException sections.Header e = absurd (omega (arith, e))
same sections.SystemException sections.Exception e = absurd (omega (arith, e))
same sections.SystemException sections.Body e = absurd (omega (arith, e))
same sections.Body sections.Header e = absurd (omega (arith, e))
same sections.Body sections.Exception e = absurd (omega (arith, e))
same sections.Body sections.SystemException e = absurd (omega (arith, e))

small : (n : ℕ) (section : Section) → n < 2 → 3 + n ≡ section_octet section → ⊥
small n sections.Header few e = omega (arith, e)
small n sections.Exception few e = omega (arith, e)
small n sections.SystemException few e = omega (arith, few, e)
small n sections.Body few e = omega (arith, e)

again : (C : Table) (minor : ℕ) (section : Section) (e : Decoder) (octets frames : List ℕ) →
    ((d : Decoder) → FitsVersion C minor d → decoders.Stored d octets frames → ReadsOn C d e) →
    (at : ℕ) (d : Decoder) (p : Part) → FitsPart C minor at d p →
    part_octet p ≡ section_octet section → PartStored d p octets frames →
    PartGoesOn C d p e (parts.Typed section)
again C minor section e octets frames reads at d (parts.Typed own) fits octet stored =
    (same own section octet, reads d fits stored)
again C minor section e octets frames reads at d (parts.Padding body_type_id) fits octet stored =
    absurd (small 0 section (omega arith) octet)
again C minor section e octets frames reads at d (parts.Rest r) fits octet stored =
    absurd (small 1 section (omega arith) octet)

pub returns-clause-again : goal.returns-clause-again
returns-clause-again c at d p fits octet stored =
    again c.args.catalogue.now c.args.minor c.args.section c.in-Some.decoder c.args.octets.now
    c.args.frames.now
    (λ d fits stored. record { reads = c.in-Some.ensures.reads d fits.fits stored }) at d p fits
    octet stored
