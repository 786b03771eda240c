-- Pairs of endpoints that compare as equal are the same.
use Rattle.std.proofs.Common.{◌≡◌, ℕ, refl, sym, ◌∙◌, ap, Ordering, Less, Equal, Greater}
use Rattle.std.specs.Ordering.{nat_cmp}
use Rattle.std.specs.Cmp.Lexicographic.{slice_cmp}
use Rattle.std.proofs.lemmas.Map.Lookups.{exact_bytes, exact_unsigned}
use Rattle.tcp_segment.specs.declared.endpoint.Address.{Address}
use Rattle.tcp_segment.specs.declared.endpoint.Address.TheVariants.{V4, V6}
use Rattle.tcp_segment.specs.declared.endpoint.Endpoint.{Endpoint}
use Rattle.tcp_segment.specs.contracts.endpoint.AddressOrd.TheImpl as address_order
use Rattle.tcp_streams.specs.declared.pair.EndpointPair.{EndpointPair}
use Rattle.tcp_streams.specs.Pairs.{compare_pairs, compare_endpoints}

abbrev compare_addresses : (address : Address) → Address → Ordering
compare_addresses = (address_order.ghosts).cmp

same_address : (a b : Address) → compare_addresses a b ≡ Equal → a ≡ b
same_address (V4 x) (V4 y) h = by (slice_cmp nat_cmp x y) refl
  where
    by : (r : Ordering) → slice_cmp nat_cmp x y ≡ r → V4 x ≡ V4 y
    by Less e = absurd (let d : Less ≡ Equal = sym e ∙ h in cc)
    by Equal e = ap V4 (exact_bytes x y e)
    by Greater e = absurd (let d : Greater ≡ Equal = sym e ∙ h in cc)
same_address (V6 x) (V6 y) h = by (slice_cmp nat_cmp x y) refl
  where
    by : (r : Ordering) → slice_cmp nat_cmp x y ≡ r → V6 x ≡ V6 y
    by Less e = absurd (let d : Less ≡ Equal = sym e ∙ h in cc)
    by Equal e = ap V6 (exact_bytes x y e)
    by Greater e = absurd (let d : Greater ≡ Equal = sym e ∙ h in cc)
same_address (V4 x) (V6 y) h = cc
same_address (V6 x) (V4 y) h = cc

same_endpoint : (a b : Endpoint) → compare_endpoints a b ≡ Equal → a ≡ b
same_endpoint a b h = by (compare_addresses a.address b.address) refl (nat_cmp a.port b.port) refl
  where
    by : (r : Ordering) → compare_addresses a.address b.address ≡ r → (s : Ordering) →
        nat_cmp a.port b.port ≡ s → a ≡ b
    by Equal e Equal d =
        ap (λ (x : Address). record { address = x; port = a.port })
        (same_address a.address b.address e)
        ∙ ap (λ (n : ℕ). record { address = b.address; port = n })
        (exact_unsigned a.port b.port d)
    by Less e s d = cc
    by Greater e s d = cc
    by Equal e Less d = cc
    by Equal e Greater d = cc

pub same_pair_of : (q p : EndpointPair) → compare_pairs q p ≡ Equal → q ≡ p
same_pair_of q p h =
    by (compare_endpoints q.lesser p.lesser) refl (compare_endpoints q.greater p.greater) refl
  where
    by : (r : Ordering) → compare_endpoints q.lesser p.lesser ≡ r → (s : Ordering) →
        compare_endpoints q.greater p.greater ≡ s → q ≡ p
    by Equal e Equal d =
        ap (λ (x : Endpoint). record { lesser = x; greater = q.greater })
        (same_endpoint q.lesser p.lesser e)
        ∙ ap (λ (y : Endpoint). record { lesser = p.lesser; greater = y })
        (same_endpoint q.greater p.greater d)
    by Less e s d = cc
    by Greater e s d = cc
    by Equal e Less d = cc
    by Equal e Greater d = cc
