-- What was stored of a message is read as it was written.
use Rattle.std.proofs.Common.{◌≡◌, ◌≢◌, Bool, true, false, cond, IsTrue, Option, Some, None, ℕ, ◌^◌, ◌<◌, List, [], ◌∷◌, ◌++◌, length, take, drop, get_or, replicate, refl, sym, ap, ◌∙◌, append_assoc, length-append, length-drop, arith}
use Rattle.std.specs.Option.{IsSomeAnd}
use Rattle.std.proofs.lemmas.List.{take-append-drop, length-take-le}
use Rattle.giop_sig.specs.Table.{Table}
use Rattle.giop_octets.specs.Fields.{four, eight, optional, held}
use Rattle.giop_octets.proofs.FieldLaws.{eight_long, optional_long, behind}
use Rattle.giop_decode.specs.declared.decoder.Decoder.{Decoder}
use Rattle.giop_message.specs.Phases.{Phase}
use Rattle.giop_message.specs.declared.message.Message.{Message}
use Rattle.giop_message.specs.declared.part.Part.{Part}
use Rattle.giop_message.specs.declared.part.Part.TheVariants as parts
use Rattle.giop_message.specs.declared.part.Rest.{Rest}
use Rattle.giop_message.specs.declared.body_type.BodyTypeId.{BodyTypeId}
use Rattle.giop_message.specs.declared.body_type.BodyTypeId.TheVariants as body_type_ids
use Rattle.giop_message.specs.Headers.{minor}
use Rattle.giop_message.specs.Signatures.{Answers}
use Rattle.giop_message.specs.MessageState.{FitsPart, Fits, in_header, PartFollows}
use Rattle.giop_message.specs.Stored.{part_octet, stored_id, own_octets, padding_octets, rest_octets, AreOwnOctets, IsPaddingOf, IsRestOf, PartStored, Stored, IsSameRest, PartGoesOn}

pub not_both : {b : Bool} → b ≡ false → IsTrue b → ⊥
not_both f t = cc

pub there : {X : Type 0} (P : X → Type 0) (r : Option X) → IsSomeAnd r P
    → ((x : X) → r ≡ Some x → ⊥) → ⊥
there P (Some x) is not = not x refl
there P None is not = is

-- ---- padding

abbrev wanted_octet : (body_type_id : BodyTypeId) → ℕ
wanted_octet body_type_ids.Nothing = 0
wanted_octet (body_type_ids.Type of) = 1
wanted_octet body_type_ids.Exception = 2
wanted_octet body_type_ids.SystemException = 3

said : (body_type_id : BodyTypeId) (octets : List ℕ) → IsPaddingOf octets body_type_id
    → get_or octets 0 0 ≡ wanted_octet body_type_id
unfolding padding_octets
said body_type_ids.Nothing octets e = search (arith, get_or)
said _ octets e = search (arith, get_or)

pub nothing_again : (body_type_id : BodyTypeId) (octets : List ℕ) → IsPaddingOf octets body_type_id
    → get_or octets 0 0 ≡ 0 → body_type_ids.Nothing ≡ body_type_id
nothing_again body_type_ids.Nothing octets e first = refl
nothing_again (body_type_ids.Type of) octets e first =
    absurd (omega (arith, said (body_type_ids.Type of) octets e))
nothing_again body_type_ids.Exception octets e first =
    absurd (omega (arith, said body_type_ids.Exception octets e))
nothing_again body_type_ids.SystemException octets e first =
    absurd (omega (arith, said body_type_ids.SystemException octets e))

pub type_again : (body_type_id : BodyTypeId) (octets : List ℕ) (n : ℕ) →
    IsPaddingOf octets body_type_id
    → get_or octets 0 0 ≡ 1
    → ((m : ℕ) (rest : List ℕ) → m < 2 ^ 32 → drop 1 octets ≡ four m ++ rest → n ≡ m)
    → body_type_ids.Type (record { 0 = n }) ≡ body_type_id
unfolding padding_octets
type_again body_type_ids.Nothing octets n e first number = search (arith, said)
type_again (body_type_ids.Type of) octets n e first number = search (arith, replicate, drop)
type_again body_type_ids.Exception octets n e first number = search (arith, said)
type_again body_type_ids.SystemException octets n e first number = search (arith, said)

pub exception_again : (body_type_id : BodyTypeId) (octets : List ℕ) →
    IsPaddingOf octets body_type_id
    → get_or octets 0 0 ≡ 2 → body_type_ids.Exception ≡ body_type_id
exception_again body_type_ids.Nothing octets e first =
    absurd (omega (arith, said body_type_ids.Nothing octets e))
exception_again (body_type_ids.Type of) octets e first =
    absurd (omega (arith, said (body_type_ids.Type of) octets e))
exception_again body_type_ids.Exception octets e first = refl
exception_again body_type_ids.SystemException octets e first =
    absurd (omega (arith, said body_type_ids.SystemException octets e))

pub system_again : (body_type_id : BodyTypeId) (octets : List ℕ) → IsPaddingOf octets body_type_id
    → get_or octets 0 0 ≢ 0 → get_or octets 0 0 ≢ 1 → get_or octets 0 0 ≢ 2
    → body_type_ids.SystemException ≡ body_type_id
system_again body_type_ids.Nothing octets e none type exception = search (arith, said)
system_again (body_type_ids.Type of) octets e none type exception = search (arith, said)
system_again body_type_ids.Exception octets e none type exception = search (arith, said)
system_again body_type_ids.SystemException octets e none type exception = refl

-- ---- a rest

pub rest_front : (octets : List ℕ) (r : Rest) → IsRestOf octets r
    → drop 0 octets ≡ eight r.offset ++ (held 32 r.held.items ++ replicate 167 0)
unfolding rest_octets
rest_front octets r e = search (arith, append_assoc, replicate)

pub rest_held : (octets : List ℕ) (r : Rest) → IsRestOf octets r
    → drop 8 octets ≡ held 32 r.held.items ++ replicate 167 0
rest_held octets r e = behind 0 8 octets (eight r.offset) _ (rest_front octets r e)
    (eight_long r.offset)

pub same_octets : (q r : Rest) → IsSameRest q r → rest_octets q ≡ rest_octets r
unfolding rest_octets
same_octets q r same = search (arith)

-- ---- the octets of the message itself, and those after them

pub behind_own : (fixed : List ℕ) → length fixed ≡ 224 → length (drop 16 fixed) ≡ 208
behind_own fixed long = search (arith, length-drop)

pub of_own : (fixed : List ℕ) → length fixed ≡ 224 → length (take 16 fixed) ≡ 16
of_own fixed long = search (arith, length-take-le)

pub both : (fixed : List ℕ) → drop 0 fixed ≡ take 16 fixed ++ drop 16 fixed
both fixed = sym (take-append-drop 16 fixed)

-- the offsets of these fields
pub record OwnFields (message : Message) (fixed : List ℕ) : Type 0 where
  pub rest : List ℕ
  pub part : drop 0 fixed
      ≡ part_octet message.part ∷ (eight message.at ++ (optional
      (stored_id message.part message.id) ++ message.lacks ∷ rest))
  pub at : drop 1 fixed ≡ eight message.at ++ (optional
      (stored_id message.part message.id) ++ message.lacks ∷ rest)
  pub id : drop 9 fixed ≡ optional (stored_id message.part message.id) ++ message.lacks ∷ rest
  pub lacks : drop 14 fixed ≡ message.lacks ∷ rest

four_parts : (a b c d : List ℕ) → a ++ b ++ c ++ d ≡ a ++ (b ++ (c ++ d))
four_parts a b c d = search (arith, append_assoc)

pub own_fields : (m : Message) (fixed : List ℕ) → AreOwnOctets (take 16 fixed) m → OwnFields m fixed
unfolding own_octets
own_fields m fixed own =
    let id : List ℕ = optional (stored_id m.part m.id) in
    let rest : List ℕ = 0 ∷ drop 16 fixed in
    let split : eight m.at ++ id ++ (m.lacks ∷ 0 ∷ []) ++ drop 16 fixed
    ≡ eight m.at ++ (id ++ m.lacks ∷ rest) =
    four_parts (eight m.at) id (m.lacks ∷ 0 ∷ []) (drop 16 fixed) in
    let part : drop 0 fixed ≡ part_octet m.part ∷ (eight m.at ++ (id ++ m.lacks ∷ rest)) =
    both fixed
    ∙ ap (λ (xs : List ℕ). xs ++ drop 16 fixed) own.is
    ∙ ap (λ (xs : List ℕ). part_octet m.part ∷ xs) split in
    let at : drop 1 fixed ≡ eight m.at ++ (id ++ m.lacks ∷ rest) = ap (drop 1) part in
    let read : drop 9 fixed ≡ id ++ m.lacks ∷ rest =
    behind 1 8 fixed (eight m.at) _ at (eight_long m.at) in
    record {
      rest = rest;
      part = part;
      at = at;
      id = read;
      lacks = behind 9 5 fixed id _ read (optional_long (stored_id m.part m.id));
    }

pub own_long : (m : Message) → length (own_octets m) ≡ 16
unfolding own_octets
own_long m = search (arith, length-append, replicate, eight_long, optional_long)

pub same_own : (e m : Message) → e.at ≡ m.at → e.lacks ≡ m.lacks → part_octet e.part ≡ part_octet
    m.part
    → stored_id e.part e.id ≡ stored_id m.part m.id → own_octets e ≡ own_octets m
unfolding own_octets
same_own e m at lacks octet id = rw (octet, at, id, lacks) refl

-- ---- a part that goes on in the place of another

-- the part that is read from the octets goes on in the place of the one that was stored
pub goes_on : (C : Table) (m : Message) (fixed frames octets : List ℕ) (at octet version : ℕ)
    (r : Option (Part × Decoder)) → Fits C m → Stored m fixed frames
    → ((n : ℕ) (rest : List ℕ) → n < 2 ^ 64 → drop 1 fixed ≡ eight n ++ rest → at ≡ n)
    → ((n : ℕ) (rest : List ℕ) → drop 0 fixed ≡ n ∷ rest → octet ≡ n) → octets ≡ drop 16 fixed
    → version ≡ minor m.header
    → ((d : Decoder) (p : Part) → FitsPart C version at d p → part_octet p ≡ octet
    → PartStored d p octets frames → IsSomeAnd r (λ q. PartGoesOn C d p q.1 q.0))
    → IsSomeAnd r (λ q. PartGoesOn C m.decoder m.part q.1 q.0)
goes_on C m fixed frames octets at octet version r fits stored at_read octet_read octets_read same
    again =
    let fields = own_fields m fixed stored.own in
    let at_is : at ≡ m.at = at_read m.at _ stored.own.at fields.at in
    let octet_is = sym (octet_read _ _ fields.part) in
    again m.decoder m.part (rw (at_is, same) fits) octet_is (rw octets_read stored.part)

pub same_place : (C : Table) (d e : Decoder) (p q : Part) → PartGoesOn C d p e q →
    in_header q ≡ in_header p
same_place C d e (parts.Typed section) (parts.Typed other) on = rw on.0 refl
same_place C d e (parts.Padding body_type_id) (parts.Padding other) on = refl
same_place C d e (parts.Rest r) (parts.Rest other) on = refl
same_place C d e p q on = absurd on

cond_again : {A : Type 0} (b : Bool) (x y : A) → cond b x (cond b x y) ≡ cond b x y
cond_again true x y = refl
cond_again false x y = refl

-- If what was stored of the request id is stored again, it is the same.
pub kept_again : (C : Table) (d e : Decoder) (p q : Part) (id : Option ℕ) → PartGoesOn C d p e q
    → stored_id q (stored_id p id) ≡ stored_id p id
kept_again C d e p q id on = search (arith, same_place, cond_again)

pub id_on : (C : Table) (d e : Decoder) (p q : Part) (id given said : Option ℕ) →
    PartGoesOn C d p e q
    → given ≡ stored_id p id → id ≡ stored_id p said → given ≡ stored_id q said
id_on C d e p q id given said on is was = search (arith, cond_again, said, cond, same_place)

pub stands_on : (C : Table) (answers : Answers) (phase : Phase) (number : ℕ) (header s : List ℕ)
    (d e : Decoder) (p q : Part) → PartGoesOn C d p e q →
    PartFollows C answers phase number header s d p →
    PartFollows C answers phase number header s e q
stands_on C answers phase number header s d e (parts.Typed section) (parts.Typed other) on is =
    search (arith)
stands_on C answers phase number header s d e (parts.Padding body_type_id)
    (parts.Padding other) on is = rw on is
stands_on C answers phase number header s d e (parts.Rest r) (parts.Rest other) on is =
    rw (on.offset, on.held) is
stands_on C answers phase number header s d e p q on is = absurd on
