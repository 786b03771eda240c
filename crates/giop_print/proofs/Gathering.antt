-- Gathering parts for one put: each call in the code does what the specs say of it.
use Rattle.std.proofs.Common.{◌≡◌, Result, Ok, Err, ℕ, suc, get_or, flat_map, ◌+◌, ◌<◌, List, [], ◌∷◌, ◌++◌, length, take, drop, false, sym, ap, subst, ◌∙◌, append-nil, append_assoc}
use Rattle.std.proofs.Math.Seq.{take-suc}
use Rattle.std.proofs.lemmas.List.Concat.{flat_map-append}
use Rattle.std.proofs.lemmas.List.{take-append-drop}
use Rattle.std.proofs.lemmas.Bool.{true≢false}
use Rattle.std.specs.Result.{is_ok, OnErr}
use Rattle.giop_print.specs.Output.{OutLog, Wrote, WroteFront, Writes}
use Rattle.giop_print.specs.Gathering.{WroteAllBut, Gathers}
use Rattle.giop_print.proofs.Writing.{wrote-append, wrote-front, front-append, flat_map-take}

-- the gathered octets are written, and then the part
pub but-none : (a b c : OutLog) (gathered part : List ℕ) → Wrote a b gathered → Wrote b c part →
    WroteAllBut a c [] (gathered ++ part)
but-none a b c gathered part v w =
    record {
      front = gathered ++ part;
      wrote = wrote-append a b c gathered part v w;
      both =
          append-nil (gathered ++ part);
    }

-- one more part is gathered
pub but-more : (a b c : OutLog) (gathered left due part : List ℕ) → WroteAllBut a b gathered due →
    WroteAllBut b c left (gathered ++ part) → WroteAllBut a c left (due ++ part)
but-more a b c gathered left due part v w =
    record {
      front = v.front ++ w.front;
      wrote = wrote-append a b c v.front w.front v.wrote w.wrote;
      both = append_assoc v.front w.front left ∙ (ap (λ z. v.front ++ z) w.both
          ∙ (sym (append_assoc v.front gathered part) ∙ ap (λ z. z ++ part) v.both));
    }

-- a put failed at the next part
pub but-front : (a b c : OutLog) (gathered due part : List ℕ) → WroteAllBut a b gathered due →
    WroteFront b c (gathered ++ part) → WroteFront a c (due ++ part)
but-front a b c gathered due part v w =
    let e : v.front ++ (gathered ++ part) ≡ due ++ part =
    sym (append_assoc v.front gathered part) ∙ ap (λ z. z ++ part) v.both in
    subst (WroteFront a c) e (wrote-front a b c v.front (gathered ++ part) v.wrote w)

-- one more part of a list is gathered
pub but-parts : {X : Type 0} (f : X → List ℕ) (a b c : OutLog) (gathered left : List ℕ)
    (xs : List X) (i : ℕ) (d : X) → i < length xs →
    WroteAllBut a b gathered (flat_map f (take i xs)) →
    WroteAllBut b c left (gathered ++ f (get_or xs i d)) →
    WroteAllBut a c left (flat_map f (take (i + 1) xs))
but-parts f a b c gathered left xs i d h p q =
    rw (flat_map-take f xs i d h) (but-more a b c gathered left (flat_map f (take i xs))
    (f (get_or xs i d)) p q)

-- a put failed at a part of a list
pub gathered-front : {X : Type 0} (f : X → List ℕ) (a b c : OutLog) (gathered : List ℕ)
    (xs : List X) (i : ℕ) (d : X) → i < length xs →
    WroteAllBut a b gathered (flat_map f (take i xs)) →
    WroteFront b c (gathered ++ f (get_or xs i d)) → WroteFront a c (flat_map f xs)
gathered-front f a b c gathered xs i d h p q =
    let e : flat_map f xs ≡ (flat_map f (take i xs) ++ f (get_or xs i d))
    ++ flat_map f (drop (suc i) xs) =
    ap (flat_map f) (sym (take-append-drop (suc i) xs))
    ∙ (flat_map-append f (take (suc i) xs) (drop (suc i) xs)
    ∙ ap (λ z. z ++ flat_map f (drop (suc i) xs))
    (ap (flat_map f) (take-suc xs i d h)
    ∙ (flat_map-append f (take i xs) (get_or xs i d ∷ [])
    ∙ ap (λ z. flat_map f (take i xs) ++ z) (append-nil _)))) in
    rw e (front-append a c (flat_map f (take i xs) ++ f (get_or xs i d))
    (flat_map f (drop (suc i) xs))
    (but-front a b c gathered (flat_map f (take i xs)) (f (get_or xs i d)) p q))

-- all the parts are gathered, and then what is left is written
pub writes_left : {A E : Type 0} (r : Result A E) (a b c : OutLog) (gathered due : List ℕ) →
    WroteAllBut a b gathered due → Writes r b c gathered → Writes r a c due
writes_left (Ok v) a b c gathered due p q =
    subst (Wrote a c) p.both (wrote-append a b c p.front gathered p.wrote q)
writes_left (Err e) a b c gathered due p q =
    subst (WroteFront a c) p.both (wrote-front a b c p.front gathered p.wrote q)

-- there was no room
pub had_no_room : {A E : Type 0} (r : Result A E) (P : Type 0) → is_ok r ≡ false → OnErr r P → P
had_no_room (Ok v) P h p = absurd (true≢false h)
had_no_room (Err e) P h p = p

-- a part that is written at once
pub writes_part : {A E : Type 0} (r : Result A E) (a b c : OutLog) (gathered part : List ℕ) →
    Wrote a b gathered → Writes r b c part → Gathers r a c gathered [] part
writes_part (Ok v) a b c gathered part p q = but-none a b c gathered part p q
writes_part (Err e) a b c gathered part p q = wrote-front a b c gathered part p q
