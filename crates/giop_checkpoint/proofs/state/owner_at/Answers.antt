use Rattle.std.proofs.Common.{◌≡◌, ℕ, ◌+◌, ◌≤◌, ◌∷◌, ◌++◌, ◌⊎◌, Bool, inl, inr, List, replicate, Option, arith}
use Rattle.giop_octets.specs.Fields.{four}
use Rattle.giop_checkpoint.specs.declared.layout.Layout.{Layout}
use Rattle.giop_checkpoint.specs.declared.layout.Layout.TheVariants.{Third, Latest}
use Rattle.giop_checkpoint.specs.Layouts.{OpenHasRange, IsAmongRecords, record_number_or, owner_octet, mixed_octet, limit_octets}
use Rattle.giop_checkpoint.proofs.States.{among_more, number_is, number_small}
use Rattle.giop_checkpoint.proofs.state.owner_at.Goals as goal

-- the third layout and the latest layout store the record's number in the same octets
by_layout : {layout : Layout} {octet n result : _} {owner : Option ℕ} {octets : List ℕ}
    (is_mixed : Bool) → (layout ≡ Third) ⊎ (layout ≡ Latest)
    → ((mixed : ℕ) → OpenHasRange Third n → IsAmongRecords (n + 1) owner →
    octets ≡ four n ++ four (record_number_or 4294967295 owner) ++ mixed ∷ replicate 7 0 →
    result ≡ owner)
    → OpenHasRange layout n → IsAmongRecords (n + 1) owner → octet ≡ owner_octet layout owner →
    octets ≡ limit_octets layout n owner is_mixed → result ≡ owner
by_layout is_mixed (inl e) go = rw e (λ h among octet is. go 0 h among is)
by_layout is_mixed (inr e) go =
    rw e (λ h among octet is. go (mixed_octet Latest is_mixed) h among is)

pub returns-in-Third : goal.returns-in-Third
returns-in-Third c n owner is_mixed = by_layout is_mixed c.in-Third.is (λ mixed h among is.
    let few : n + 1 ≤ 4097 = omega (arith, h.1) in
    c.record_unless_nobody-in-Third.ensures owner
    (among_more (n + 1) 4294967295 owner (omega (arith, few))
    among) (c.four_at.ensures _ _ (number_small (n + 1) owner few among)
    (number_is n owner mixed _ is)))
