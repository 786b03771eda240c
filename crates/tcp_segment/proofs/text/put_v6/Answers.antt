use Rattle.std.proofs.Common.{◌≡◌, ℕ, false, true, List, [], ◌∷◌, ◌++◌, take, drop, codes, bytes_eq, refl, sym, ap, ◌∙◌, arith, append_assoc}
use Rattle.std.proofs.lemmas.Slice.Eq.{bytes_eq-Decides}
use Rattle.std.specs.Net.Addr.{segments_of, octets_of, IsIpv4Mapped}
use Rattle.std.specs.Net.Text.{ipv4_text, ipv6_text, hex_groups_text}
use Rattle.tcp_segment.proofs.text.put_v6.Goals as goal

mapped_text : (groups : List ℕ) → IsIpv4Mapped groups
    → ipv6_text groups ≡ codes "::ffff:" ++ ipv4_text (octets_of (drop 6 groups))
unfolding ipv6_text
mapped_text groups is = rw ((bytes_eq-Decides _ _).1 is) refl

other_text : (groups : List ℕ) → ¬ (IsIpv4Mapped groups) → ipv6_text groups ≡ hex_groups_text groups
unfolding ipv6_text
other_text groups isnt =
    let front = 0 ∷ 0 ∷ 0 ∷ 0 ∷ 0 ∷ 0xffff ∷ [] in
    let other : bytes_eq (take 6 groups) front ≡ false =
    grind (arith, bytes_eq-Decides (take 6 groups) front, isnt) in
    rw other refl

pub returns-in-Some-clause-put : goal.returns-in-Some-clause-put
returns-in-Some-clause-put c =
    let old = c.args.out.now.items in
    let text = ipv4_text c.octets.result in
    let groups = c.from_octets-address.ensures in
    let is = ap (take 6) (sym groups) ∙ c.in-Some.ensures.found.0 refl in
    let low = c.in-Some.ensures.value ∙ ap (λ s. octets_of (drop 6 s)) groups in
    rw (mapped_text (segments_of c.args.octets) is)
    (c.put_v4.ensures.put ∙ ap (λ x. x ++ text) c.put.ensures.put
    ∙ append_assoc old (codes "::ffff:") text
    ∙ ap (λ x. old ++ (codes "::ffff:" ++ ipv4_text x)) (c.octets.ensures ∙ low))

pub returns-in-None-clause-put : goal.returns-in-None-clause-put
returns-in-None-clause-put c =
    let groups = c.from_octets-address.ensures in
    let isnt = λ (is : IsIpv4Mapped (segments_of c.args.octets)).
    let no : false ≡ true = c.in-None.ensures.found.1 (ap (take 6) groups ∙ is) in
    let never : ⊥ = cc in
    never in
    rw (other_text (segments_of c.args.octets) isnt)
    (c.put_compressed.ensures.put
    ∙ ap (λ x. c.args.out.now.items ++ hex_groups_text x) (c.segments.ensures ∙ groups))
