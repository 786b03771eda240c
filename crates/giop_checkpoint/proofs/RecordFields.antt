-- At which offsets the fields of a record are in its octets.
use Rattle.std.proofs.Common.{◌≡◌, ℕ, ◌*◌, ◌^◌, ◌<◌, List, [], ◌∷◌, ◌++◌, length, take, drop, get_or, replicate, refl, sym, ap, ◌∙◌, append_assoc, arith}
use Rattle.std.proofs.lemmas.List.{drop-drop, length-append, take_at}
use Rattle.giop_octets.specs.Fields.{four, eight}
use Rattle.giop_octets.proofs.FieldLaws.{four_long, eight_long, behind}
use Rattle.giop_checkpoint.specs.declared.record.Record.{Record}
use Rattle.giop_checkpoint.specs.declared.sizes.TheConstants.{FRAME_SIZE}
use Rattle.giop_checkpoint.specs.declared.record.RecordKind.{RecordKind}
use Rattle.giop_checkpoint.specs.declared.record.RecordKind.TheVariants.{Current, Open, Over, OpenWithoutId, OverWithoutId}
use Rattle.giop_checkpoint.specs.Records.{StoredRecord, StoredRecordHasRange, RecordHasRange, RecordKindHasRange, record_kind_octet, request_id_or_0, kind_octets, own_octets, stored_record_octets}

five : (a b c d e : List ℕ) → a ++ b ++ c ++ d ++ e ≡ a ++ (b ++ (c ++ (d ++ e)))
five a b c d e = append_assoc (a ++ b ++ c) d e ∙ append_assoc (a ++ b) c (d ++ e)
    ∙ append_assoc a b (c ++ (d ++ e))

pub record HasRecordFields (r : Record) (octets : List ℕ) : Type 0 where
  pub frames : drop 0 octets ≡ r.frames ∷ drop 1 octets
  pub record_kind : drop 1 octets ≡ record_kind_octet r.record_kind ∷ drop 2 octets
  pub number : drop 2 octets ≡ eight r.number ++ drop 10 octets
  pub header : drop 10 octets ≡ r.header ++ drop 22 octets
  pub id : drop 22 octets ≡ four (request_id_or_0 r.record_kind) ++ replicate 6 0

kind_is : (r : Record) (octets rest : List ℕ) → octets ≡ kind_octets r ++ rest →
    octets ≡ r.frames ∷ record_kind_octet r.record_kind ∷ rest
unfolding kind_octets
kind_is r octets rest e = e

pub fields_of : (r : Record) (octets : List ℕ) → RecordHasRange r → octets ≡ own_octets r →
    HasRecordFields r octets
unfolding own_octets
fields_of r octets h e =
    let zeros : List ℕ = replicate 6 0 in
    let rest : List ℕ = eight r.number ++ (r.header
    ++ (four (request_id_or_0 r.record_kind) ++ zeros)) in
    let whole : octets ≡ r.frames ∷ record_kind_octet r.record_kind ∷ rest =
    kind_is r octets rest (e ∙ five (kind_octets r) (eight r.number) r.header
    (four (request_id_or_0 r.record_kind)) zeros) in
    let at_2 : drop 2 octets ≡ rest = ap (drop 2) whole in
    let at_10 = behind 2 8 octets _ _ at_2 (eight_long r.number) in
    let at_22 = behind 10 12 octets _ _ at_10 h.typed.header in
    record {
      frames = whole ∙ ap (λ (xs : List ℕ). r.frames ∷ xs) (sym (ap (drop 1) whole));
      record_kind = ap (drop 1) whole ∙ ap (λ (xs : List ℕ). record_kind_octet r.record_kind ∷ xs)
          (sym at_2);
      number = at_2 ∙ ap (λ (xs : List ℕ). eight r.number ++ xs) (sym at_10);
      header = at_10 ∙ ap (λ (xs : List ℕ). r.header ++ xs) (sym at_22);
      id = at_22;
    }

pub own_long : (r : Record) → RecordHasRange r → length (own_octets r) ≡ 32
unfolding own_octets kind_octets
own_long r h =
    let zeros : List ℕ = replicate 6 0 in
    let zeros_long : length zeros ≡ 6 = refl in
    omega (
      arith,
      length-append (kind_octets r ++ eight r.number ++ r.header
          ++ four (request_id_or_0 r.record_kind)) zeros,
      length-append (kind_octets r ++ eight r.number ++ r.header)
          (four (request_id_or_0 r.record_kind)),
      length-append (kind_octets r ++ eight r.number) r.header,
      length-append (kind_octets r) (eight r.number),
      eight_long r.number,
      four_long (request_id_or_0 r.record_kind),
      h.typed.header,
      zeros_long,
    )

-- a record's first octet is its number of frames
pub first_is : (r : Record) (s : List ℕ) → RecordHasRange r → take 32 s ≡ own_octets r →
    get_or s 0 0 ≡ r.frames
unfolding own_octets kind_octets
first_is r [] h e = absurd (let none : length (take {A = ℕ} 32 []) ≡ 0 = refl in
    omega (arith, ap length e, own_long r h, none))
first_is r (x ∷ xs) h e = ap (λ (ys : List ℕ). get_or ys 0 0) e

pub id_small : (s : RecordKind) → RecordKindHasRange s → request_id_or_0 s < 2 ^ 32
id_small Current h = omega arith
id_small (Open id) h = h
id_small (Over id) h = h
id_small OpenWithoutId h = omega arith
id_small OverWithoutId h = omega arith

pub record_same : (r : Record) (s : Record) → r.frames ≡ s.frames → r.record_kind ≡ s.record_kind →
    r.number ≡ s.number → r.header ≡ s.header → r ≡ s
record_same r s a b c d = rw (a, b, c, d) refl

-- ---- a record at the beginning of octets, with its message and its frames

pub record BeginsWithRecord (e : StoredRecord) (s rest : List ℕ) : Type 0 where
  pub own : take 32 s ≡ own_octets e.record_is
  pub message : take 224 (drop 32 s) ≡ e.message
  pub frames : take (FRAME_SIZE * e.record_is.frames) (drop 224 (drop 32 s)) ≡ e.frames
  pub rest_is : drop (FRAME_SIZE * e.record_is.frames) (drop 224 (drop 32 s)) ≡ rest

front_is : (at size : ℕ) (s field rest : List ℕ) → drop at s ≡ field ++ rest → length field ≡ size →
    take size (drop at s) ≡ field
front_is at size s field rest e long = ap (take size) e ∙ take_at field rest size long

pub front_of : (e : StoredRecord) (s rest : List ℕ) → StoredRecordHasRange e → s
    ≡ stored_record_octets e ++ rest →
    BeginsWithRecord e s rest
front_of e s rest h is =
    let own = own_octets e.record_is in
    let whole : drop 0 s ≡ own ++ (e.message ++ (e.frames ++ rest)) =
    is ∙ (append_assoc (own ++ e.message) e.frames rest
    ∙ append_assoc own e.message (e.frames ++ rest)) in
    let at_32 = behind 0 32 s own _ whole (own_long e.record_is h.own) in
    let at_frames : drop 256 s ≡ e.frames ++ rest = behind 32 224 s e.message _ at_32 h.message in
    record {
      own = front_is 0 32 s own _ whole (own_long e.record_is h.own);
      message = front_is 32 224 s e.message _ at_32 h.message;
      frames = ap (take (FRAME_SIZE * e.record_is.frames)) (drop-drop 224 32 s)
          ∙ front_is 256 (FRAME_SIZE * e.record_is.frames) s e.frames rest at_frames h.frames;
      rest_is = ap (drop (FRAME_SIZE * e.record_is.frames)) (drop-drop 224 32 s)
          ∙ (drop-drop (FRAME_SIZE * e.record_is.frames) 256 s
          ∙ behind 256 (FRAME_SIZE * e.record_is.frames) s e.frames rest at_frames h.frames);
    }

-- what is read after a record's own octets, if they are those of this record
pub by_frames : (n m : ℕ) (s t u : List ℕ) → n ≡ m → s ≡ t → take (FRAME_SIZE * m) t ≡ u →
    take (FRAME_SIZE * n) s ≡ u
by_frames n m s t u a b h = rw (a, b) h

pub past_frames : (n m : ℕ) (s t u : List ℕ) → n ≡ m → s ≡ t → drop (FRAME_SIZE * m) t ≡ u →
    drop (FRAME_SIZE * n) s ≡ u
past_frames n m s t u a b h = rw (a, b) h
