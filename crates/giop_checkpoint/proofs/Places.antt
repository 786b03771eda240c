-- At which offsets the fields of a place are in its octets.
use Rattle.std.proofs.Common.{◌≡◌, ℕ, ◌-◌, ◌^◌, ◌<◌, List, ◌∷◌, ◌++◌, length, drop, replicate, refl, sym, ap, ◌∙◌, append_assoc, arith}
use Rattle.std.proofs.lemmas.List.{length-append, length-replicate}
use Rattle.giop_octets.specs.Fields.{eight}
use Rattle.giop_octets.proofs.FieldLaws.{behind, eight_long}
use Rattle.giop_checkpoint.specs.declared.fixed.NextOctet.{NextOctet}
use Rattle.giop_checkpoint.specs.declared.fixed.NextOctet.TheVariants.{Header, Payload, Stopped}
use Rattle.giop_checkpoint.specs.Fixed.{PlaceHasRange, place_octets, place_octet, place_fault_octet, place_held_count, place_header_octets, place_octets_left}

pub record HasPlaceFields (place : NextOctet) (owner : ℕ) (octets rest : List ℕ) : Type 0 where
  pub kind : octets ≡ place_octet place ∷ drop 1 octets
  pub fault : drop 1 octets ≡ place_fault_octet place ∷ drop 2 octets
  pub held : drop 2 octets ≡ place_held_count place ∷ drop 3 octets
  pub owner_is : drop 3 octets ≡ owner ∷ drop 4 octets
  pub header : drop 4 octets ≡ place_header_octets place
      ++ (eight (place_octets_left place) ++ rest)
  pub header_long : length (place_header_octets place) ≡ 12
  pub left : drop 16 octets ≡ eight (place_octets_left place) ++ rest

long : (place : NextOctet) → PlaceHasRange place → length (place_header_octets place) ≡ 12
long (Header held) r = omega (
  arith,
  length-append held.items
      (replicate (12 - length held.items) 0),
  length-replicate {A = ℕ} (12 - length held.items) 0,
)
long (Payload header left) r = r.0
long (Stopped fault) r = refl

parts_by : (place : NextOctet) (owner : ℕ) (octets rest : List ℕ) → PlaceHasRange place
    → octets ≡ place_octet place ∷ place_fault_octet place ∷ place_held_count place ∷ owner ∷
    (place_header_octets place ++ (eight (place_octets_left place) ++ rest))
    → HasPlaceFields place owner octets rest
parts_by place owner octets rest r e =
    let header : drop 4 octets ≡ place_header_octets place
    ++ (eight (place_octets_left place) ++ rest) =
    ap (drop 4) e in
    record {
      kind = e ∙ ap (λ (xs : List ℕ). place_octet place ∷ xs) (sym (ap (drop 1) e));
      fault = ap (drop 1) e ∙ ap (λ (xs : List ℕ). place_fault_octet place ∷ xs)
          (sym (ap (drop 2) e));
      held = ap (drop 2) e ∙ ap (λ (xs : List ℕ). place_held_count place ∷ xs)
          (sym (ap (drop 3) e));
      owner_is = ap (drop 3) e ∙ ap (λ (xs : List ℕ). owner ∷ xs) (sym (ap (drop 4) e));
      header = header;
      header_long = long place r;
      left = behind 4 12 octets (place_header_octets place)
          (eight (place_octets_left place) ++ rest) header
          (long place r);
    }

pub parts_of : (place : NextOctet) (owner : ℕ) (octets rest : List ℕ) → PlaceHasRange place
    → octets ≡ place_octets place owner ++ rest → HasPlaceFields place owner octets rest
parts_of (Header held) owner octets rest r e = parts_by (Header held) owner octets rest r
    (e ∙ ap (λ (xs : List ℕ). 0 ∷ 0 ∷ length held.items ∷ owner ∷ xs)
    (append_assoc (held.items ++ replicate (12 - length held.items) 0) (eight 0) rest))
parts_of (Payload header left) owner octets rest r e =
    parts_by (Payload header left) owner octets rest r
    (e ∙ ap (λ (xs : List ℕ). 1 ∷ 0 ∷ 0 ∷ owner ∷ xs) (append_assoc header (eight left) rest))
parts_of (Stopped fault) owner octets rest r e = parts_by (Stopped fault) owner octets rest r
    (e ∙ ap (λ (xs : List ℕ). 2 ∷ place_fault_octet (Stopped fault) ∷ 0 ∷ owner ∷ xs)
    (append_assoc (replicate 12 0) (eight 0) rest))

pub left_small : (place : NextOctet) → PlaceHasRange place → place_octets_left place < 2 ^ 64
left_small (Header held) r = omega arith
left_small (Payload header left) r = omega (arith, r.1)
left_small (Stopped fault) r = omega arith

pub place_long : (place : NextOctet) (owner : ℕ) → PlaceHasRange place →
    length (place_octets place owner) ≡ 24
place_long (Header held) owner r =
    omega (
      arith,
      length-append (held.items ++ replicate (12 - length held.items) 0) (eight 0),
      long (Header held) r,
      eight_long 0,
    )
place_long (Payload header left) owner r =
    omega (arith, length-append header (eight left), r.0, eight_long left)
place_long (Stopped fault) owner r = omega (
  arith,
  length-append (replicate 12 0) (eight 0),
  eight_long 0,
  long (Stopped fault) tt,
)
