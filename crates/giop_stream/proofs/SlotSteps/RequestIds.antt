-- The first four octets of the GIOP header are the request id, if the message is known by its
-- request id.
use Rattle.std.proofs.Common.{◌≡◌, ℕ, zero, suc, ◌<◌, true, List, [], ◌∷◌, length, take, refl, sym, subst, Option, Some, None, arith}
use Rattle.std.specs.Prelude.{◌==◌, ◌&&◌, ◌||◌, IfSome}
use Rattle.std.proofs.lemmas.Bool.{and_parts, cases_lt, eqb-true, ltb-true, ne_eqb, false≢true}
use Rattle.giop_cdr.specs.Numbers.{num}
use Rattle.giop_sig.specs.Types.{Ty}
use Rattle.giop_sig.specs.Table.{Table}
use Rattle.giop_sig.specs.HeaderTypes.{BeginsWithId, header_type}
use Rattle.giop_message.specs.Phases.{unbroken}
use Rattle.giop_message.specs.Headers.{minor, kind, order, has_more, may_be_fragmented, is_opener_1_2, is_fragment_1_2, is_cancel_request, begins_with_request_id}
use Rattle.giop_message.specs.Signatures.{Answers, signatures_of}
use Rattle.giop_message.specs.Messages.{read_message, message_lines}
use Rattle.giop_message.specs.ReaderOfTable.{first_request_id}
use Rattle.giop_message.proofs.MessageLaws.{begins_with_id, id_is_said}
use Rattle.giop_stream.specs.HeaderOctets.{last_octet_fault, fronts, first_front_fault, first_wrong_octet}
use Rattle.giop_stream.specs.Framing.{CutMessage}
use Rattle.giop_stream.specs.Events.{id}
use Rattle.giop_stream.specs.PayloadOwner.{BeginsWithRequestId}

-- ---- A header with no wrong octet has one of three minor versions.

rest_is_right : (x : List ℕ) (fs : List (List ℕ)) → first_front_fault (x ∷ fs) ≡ None →
    first_front_fault fs ≡ None
unfolding first_front_fault
rest_is_right x fs h = search (arith)

right_here : (x : List ℕ) (fs : List (List ℕ)) → first_front_fault (x ∷ fs) ≡ None →
    last_octet_fault x ≡ None
unfolding first_front_fault
right_here x fs h = search (arith)

version : (a b c d e f : ℕ) → last_octet_fault (a ∷ b ∷ c ∷ d ∷ e ∷ f ∷ []) ≡ None → f < 3
unfolding last_octet_fault
version a b c d e f w = search (arith, ltb-true)

minor_few : (header : List ℕ) → length header ≡ 12 → first_wrong_octet header ≡ None →
    minor header < 3
unfolding first_wrong_octet fronts minor
minor_few (a ∷ b ∷ c ∷ d ∷ e ∷ f ∷ g ∷ more) twelve h =
    let two = rest_is_right (a ∷ []) _ (rest_is_right [] _ h) in
    let four = rest_is_right (a ∷ b ∷ c ∷ []) _ (rest_is_right (a ∷ b ∷ []) _ two) in
    let five = rest_is_right (a ∷ b ∷ c ∷ d ∷ []) _ four in
    let six = rest_is_right (a ∷ b ∷ c ∷ d ∷ e ∷ []) _ five in
    version a b c d e f (right_here (a ∷ b ∷ c ∷ d ∷ e ∷ f ∷ []) _ six)
minor_few _ twelve h = search (arith)

-- ---- The type of the header, by the kind of the message.

abbrev HasType : (version kind : ℕ) → Type 0
HasType version kind = (T : Ty) × (header_type 1 version kind ≡ Some T)

typed : (version kind : ℕ) → version < 3 → kind < 5 → HasType version kind
typed zero zero v k = (_, refl)
typed (suc zero) zero v k = (_, refl)
typed (suc (suc zero)) zero v k = (_, refl)
typed zero (suc zero) v k = (_, refl)
typed (suc zero) (suc zero) v k = (_, refl)
typed (suc (suc zero)) (suc zero) v k = (_, refl)
typed zero (suc (suc zero)) v k = (_, refl)
typed (suc zero) (suc (suc zero)) v k = (_, refl)
typed (suc (suc zero)) (suc (suc zero)) v k = (_, refl)
typed zero (suc (suc (suc zero))) v k = (_, refl)
typed (suc zero) (suc (suc (suc zero))) v k = (_, refl)
typed (suc (suc zero)) (suc (suc (suc zero))) v k = (_, refl)
typed zero (suc (suc (suc (suc zero)))) v k = (_, refl)
typed (suc zero) (suc (suc (suc (suc zero)))) v k = (_, refl)
typed (suc (suc zero)) (suc (suc (suc (suc zero)))) v k = (_, refl)
typed (suc (suc (suc version))) kind v k = absurd (omega (arith, v))
typed version (suc (suc (suc (suc (suc kind))))) v k = absurd (omega (arith, k))

kind_few : (k : ℕ) → ((k == 0) || (k == 1) || (k == 3) || (k == 4)) ≡ true → k < 5
kind_few k h = search (arith, cases_lt, ne_eqb, false≢true)

module _ (header : List ℕ) (few : minor header < 3) where
  opener_type : is_opener_1_2 header ≡ true → HasType (minor header) (kind header)
  unfolding is_opener_1_2 may_be_fragmented
  opener_type h =
      typed (minor header) (kind header) few
      (kind_few (kind header) (and_parts ((minor header == 2) && has_more header)
      (may_be_fragmented header) h).1)

  fragment_type : is_fragment_1_2 header ≡ true → HasType (minor header) (kind header)
  unfolding is_fragment_1_2
  fragment_type h =
      let both = and_parts (minor header == 2) (kind header == 7) h in
      subst (λ v. HasType v (kind header)) (sym (eqb-true (minor header) 2 both.0))
      (subst (HasType 2) (sym (eqb-true (kind header) 7 both.1)) (_, refl))

  cancel_type : is_cancel_request header ≡ true → HasType (minor header) (kind header)
  unfolding is_cancel_request
  cancel_type h = let two = eqb-true (kind header) 2 h in
      typed (minor header) (kind header) few (omega (arith, two))

  has_type : begins_with_request_id header ≡ true → HasType (minor header) (kind header)
  has_type h = search (arith, opener_type, fragment_type, cancel_type)

id_first : (o : Option Ty) (T : Ty) → o ≡ Some T → IfSome o BeginsWithId → BeginsWithId T
id_first o T e h = rw e at h

pub says_id : (header : List ℕ) → length header ≡ 12 → first_wrong_octet header ≡ None →
    begins_with_request_id header ≡ true → BeginsWithRequestId header
says_id header twelve right name =
    let type = has_type header (minor_few header twelve right) name in (
      type.0,
      type.1,
      id_first (header_type 1 (minor header) (kind header)) type.0 type.1
          (begins_with_id 1 header name),
    )

fragment_named : (header : List ℕ) → is_fragment_1_2 header ≡ true →
    begins_with_request_id header ≡ true
fragment_named header f = search (arith)

-- a Fragment's header begins with its request id, whatever else is in it
pub fragment_says : (header : List ℕ) → is_fragment_1_2 header ≡ true → BeginsWithRequestId header
unfolding is_fragment_1_2
fragment_says header f =
    let two = eqb-true (minor header) 2 (and_parts (minor header == 2) (kind header == 7) f).0 in
    let type = fragment_type header (omega (arith, two)) f in (
      type.0,
      type.1,
      id_first (header_type 1 (minor header) (kind header)) type.0 type.1
          (begins_with_id 1 header (fragment_named header f)),
    )

-- ---- The request id that is read from its first four octets.

pub id_is_id : (C : Table) (l : Answers) (m : CutMessage) → length m.payload ≡ 4 →
    BeginsWithRequestId m.header
    → first_request_id (message_lines (read_message (signatures_of C (l m.number) unbroken) m.header
    m.payload))
    ≡ Some (id m)
unfolding id
id_is_id C l m four says = go m.payload four
  where
    go : (xs : List ℕ) → length xs ≡ 4 → first_request_id
        (message_lines (read_message (signatures_of C (l m.number) unbroken) m.header xs))
        ≡ Some (num (order m.header) (take 4 xs))
    go [] e = absurd (omega (arith, e))
    go (a ∷ []) e = absurd (omega (arith, e))
    go (a ∷ b ∷ []) e = absurd (omega (arith, e))
    go (a ∷ b ∷ c ∷ []) e = absurd (omega (arith, e))
    go (a ∷ b ∷ c ∷ d ∷ []) e = search (arith, id_is_said)
    go (a ∷ b ∷ c ∷ d ∷ x ∷ xs) e = absurd (omega (arith, e))
