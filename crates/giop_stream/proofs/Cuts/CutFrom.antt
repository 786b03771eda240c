-- `cut_from`, which cuts the rest of a stream: its result with one more octet, and with more fuel.
use Rattle.std.proofs.Common.{◌≡◌, ℕ, zero, suc, ◌+◌, ◌-◌, ◌<◌, ◌≤◌, Bool, true, false, List, [], ◌∷◌, ◌++◌, length, take, drop, refl, sym, ◌∙◌, Option, Some, None, arith, length-drop}
use Rattle.std.specs.Prelude.{nat_lt, ◌==◌, if◌then◌else◌}
use Rattle.std.proofs.lemmas.Bool.{lt-ltb, le-ltb, cases_lt, eq-eqb, ne_eqb}
use Rattle.std.proofs.lemmas.List.{take-append-le, drop-append-le, take_all, drop_all, length_push}
use Rattle.giop_checkpoint.specs.declared.fault.StreamFault.{StreamFault}
use Rattle.giop_stream.specs.HeaderOctets.{last_octet_fault, first_front_fault, fronts, first_wrong_octet}
use Rattle.giop_message.specs.Headers.{size}
use Rattle.giop_stream.specs.Framing.{CutMessage, with_payload, Cut, with_first, cut_from}
use Rattle.giop_stream.proofs.Lists.{wrong_last, offence_stays, offence_comes}

-- the last message: among the complete ones if it has all its octets, else the current one
unfoldable pub cut_with_last_message : (whole : List CutMessage) (message : CutMessage) → Cut
cut_with_last_message whole m =
    if nat_lt (length m.payload) (size m.header)
    then record { whole = whole; current = Some m; held = []; stop = None }
    else record { whole = whole ++ m ∷ []; current = None; held = []; stop = None }

unfoldable pub header_case : (first n : ℕ) (whole : List CutMessage) (front : List ℕ)
    (word : Option StreamFault) (twelve : Bool) → Cut
header_case first n whole front (Some word) twelve =
    record { whole = whole; current = None; held = []; stop = Some (n, word) }
header_case first n whole front None false =
    record { whole = whole; current = None; held = front; stop = None }
header_case first n whole front None true =
    cut_with_last_message whole (record {
      number = first + length whole;
      before = n - 12;
      header = front;
      payload = [];
    })

unfoldable pub cut_with_header_octet : (first n : ℕ) (whole : List CutMessage) (front : List ℕ) →
    Cut
cut_with_header_octet first n whole front = header_case first n whole front (last_octet_fault front)
    (length front == 12)

abbrev pub cut_with_octet_by : (first n x : ℕ) (cut_stream : Cut) (found : Option (ℕ × StreamFault))
    (current : Option CutMessage) → Cut
cut_with_octet_by first n x c (Some found) current = c
cut_with_octet_by first n x c None (Some m) = cut_with_last_message c.whole (with_payload m
    (m.payload ++ x ∷ []))
cut_with_octet_by first n x c None None = cut_with_header_octet first n c.whole (c.held ++ x ∷ [])

unfoldable pub cut_with_octet : (first n x : ℕ) (cut_stream : Cut) → Cut
cut_with_octet first n x c = cut_with_octet_by first n x c c.stop c.current

nothing : Cut
nothing = record { whole = []; current = None; held = []; stop = None }

-- The cases of the definition of `cut_from`.
pub cut_wrong : (fuel number before : ℕ) (xs : List ℕ) (found : ℕ × StreamFault) →
    first_wrong_octet (take 12 xs) ≡ Some found
    → cut_from (suc fuel) number before xs ≡ record {
      whole = [];
      current = None;
      held = [];
      stop = Some
          (before + found.0, found.1);
    }
unfolding cut_from
cut_wrong fuel number before xs found e = rw (cut_from, e) refl

pub cut_short : (fuel number before : ℕ) (xs : List ℕ) → first_wrong_octet (take 12 xs) ≡ None →
    length xs < 12
    → cut_from (suc fuel) number before xs ≡
    record { whole = []; current = None; held = xs; stop = None }
unfolding cut_from
cut_short fuel number before xs e h = search (arith, lt-ltb)

pub cut_open : (fuel number before : ℕ) (xs : List ℕ) → first_wrong_octet (take 12 xs) ≡ None →
    12 ≤ length xs
    → length (drop 12 xs) < size (take 12 xs) → cut_from (suc fuel) number before xs
    ≡ record {
      whole = [];
      current = Some
          (record { number = number; before = before; header = take 12 xs; payload = drop 12 xs });
      held = [];
      stop = None;
    }
unfolding cut_from
cut_open fuel number before xs e h k = search (arith, le-ltb, lt-ltb, drop, take)

pub cut_more : (fuel number before : ℕ) (xs : List ℕ) → first_wrong_octet (take 12 xs) ≡ None →
    12 ≤ length xs → size (take 12 xs) ≤ length (drop 12 xs)
    → cut_from (suc fuel) number before xs ≡ with_first
    (record {
      number = number;
      before = before;
      header = take 12 xs;
      payload =
          take (size (take 12 xs)) (drop 12 xs);
    })
    (cut_from fuel (suc number) (before + 12 + size (take 12 xs))
    (drop (size (take 12 xs)) (drop 12 xs)))
unfolding cut_from
cut_more fuel number before xs e h k = search (arith, le-ltb, drop, take)

cut_none : (fuel number before : ℕ) → cut_from fuel number before [] ≡ nothing
unfolding cut_from nothing first_wrong_octet fronts first_front_fault last_octet_fault
cut_none zero number before = refl
cut_none (suc fuel) number before = refl

-- The header at the front of the longer stream.
front_same : (xs : List ℕ) (x : ℕ) → 12 ≤ length xs → take 12 (xs ++ x ∷ []) ≡ take 12 xs
front_same xs x h = search (arith, take-append-le)

front_whole : (xs : List ℕ) (x : ℕ) → length xs < 12 → take 12 (xs ++ x ∷ []) ≡ xs ++ x ∷ []
front_whole xs x h = take_all 12 (xs ++ x ∷ []) (omega (arith, length_push xs x))

wrong_kept : (xs : List ℕ) (x : ℕ) (found : ℕ × StreamFault) →
    first_wrong_octet (take 12 xs) ≡ Some found →
    first_wrong_octet (take 12 (xs ++ x ∷ [])) ≡ Some found
wrong_kept xs x found e = search (arith, cases_lt, front_whole, offence_stays, take_all, front_same)

comes : (xs : List ℕ) (x : ℕ) → length xs < 12 → first_wrong_octet (take 12 xs) ≡ None →
    first_wrong_octet (take 12 (xs ++ x ∷ [])) ≡ wrong_last (xs ++ x ∷ [])
comes xs x h e = search (arith, front_whole, offence_comes, take_all)

settle_open : (whole : List CutMessage) (m : CutMessage) → length m.payload < size m.header
    → cut_with_last_message whole m ≡ record {
      whole = whole;
      current = Some m;
      held = [];
      stop =
          None;
    }
unfolding cut_with_last_message
settle_open whole m h = search (arith, lt-ltb)

settle_done : (whole : List CutMessage) (m : CutMessage) → size m.header ≤ length m.payload
    → cut_with_last_message whole m ≡ record {
      whole = whole ++ m ∷ [];
      current = None;
      held = [];
      stop =
          None;
    }
unfolding cut_with_last_message
settle_done whole m h = search (arith, le-ltb)

-- a message that is complete, with no octets after it
done_is : (fuel number before : ℕ) (m : CutMessage) (c : Cut) → c ≡ cut_with_last_message [] m →
    size m.header ≤ length m.payload
    → c ≡ with_first m (cut_from fuel number before [])
unfolding with_first nothing
done_is fuel number before m c e h = search (arith, settle_done, cut_none)

-- one message, with no octets after it
cut_is : (fuel number before : ℕ) (ys header payload : List ℕ) → take 12 ys ≡ header →
    drop 12 ys ≡ payload
    → first_wrong_octet header ≡ None → 12 ≤ length ys → length payload ≤ size header
    → cut_from (suc fuel) number before ys
    ≡ cut_with_last_message [] (record {
      number = number;
      before = before;
      header = header;
      payload =
          payload;
    })
cut_is fuel number before ys header payload t d e h k = search (
  arith,
  cases_lt,
  cut_open,
  settle_open,
  cut_more,
  take_all,
  drop_all,
  done_is,
)

-- The lemma for a stream that is longer by an octet, in each case.
Grows : ℕ → ℕ → ℕ → List ℕ → ℕ → Type 0
Grows fuel number before xs x = cut_from fuel number before (xs ++ x ∷ [])
    ≡ cut_with_octet number (suc (before + length xs)) x (cut_from fuel number before xs)

grows_wrong : (fuel number before : ℕ) (xs : List ℕ) (x : ℕ) (found : ℕ × StreamFault) →
    first_wrong_octet (take 12 xs) ≡ Some found → Grows (suc fuel) number before xs x
unfolding Grows cut_with_octet
grows_wrong fuel number before xs x found e = search (arith, cut_wrong, wrong_kept)

-- the rest of the stream ends inside a header
header_is : (fuel number before : ℕ) (xs : List ℕ) (x : ℕ) → length xs < 12 →
    first_wrong_octet (take 12 xs) ≡ None
    → (w : Option StreamFault) → last_octet_fault (xs ++ x ∷ []) ≡ w
    → cut_from (suc fuel) number before (xs ++ x ∷ [])
    ≡ cut_with_header_octet number (suc (before + length xs)) [] (xs ++ x ∷ [])
unfolding cut_with_header_octet header_case wrong_last
header_is fuel number before xs x h e (Some word) k =
    let found : first_wrong_octet (take 12 (xs ++ x ∷ [])) ≡ Some (length (xs ++ x ∷ []), word) =
    comes xs x h e ∙ rw (wrong_last, k) refl in
    let n : before + length (xs ++ x ∷ []) ≡ suc (before + length xs) =
    omega (arith, length_push xs x) in
    cut_wrong fuel number before (xs ++ x ∷ []) (length (xs ++ x ∷ []), word) found
    ∙ rw (cut_with_header_octet, k, n) refl
header_is fuel number before xs x h e None k = search (
  arith,
  take,
  comes,
  wrong_last,
  length_push,
  cases_lt,
  cut_short,
  ne_eqb,
  cut_is,
  front_whole,
  drop_all,
  eq-eqb,
)

grows_header : (fuel number before : ℕ) (xs : List ℕ) (x : ℕ) → length xs < 12 →
    first_wrong_octet (take 12 xs) ≡ None → Grows (suc fuel) number before xs x
unfolding Grows cut_with_octet
grows_header fuel number before xs x h e = search (arith, cut_short, header_is)

grows_open : (fuel number before : ℕ) (xs : List ℕ) (x : ℕ) →
    first_wrong_octet (take 12 xs) ≡ None → 12 ≤ length xs
    → length (drop 12 xs) < size (take 12 xs) → Grows (suc fuel) number before xs x
unfolding Grows cut_with_octet
grows_open fuel number before xs x e h k = search (
  arith,
  cut_open,
  cut_is,
  take,
  drop,
  front_same,
  drop-append-le,
  length_push,
)

-- the same with one more message before the others
first_settles : (m : CutMessage) (whole : List CutMessage) (last : CutMessage) →
    with_first m (cut_with_last_message whole last) ≡ cut_with_last_message (m ∷ whole) last
unfolding with_first cut_with_last_message
first_settles m whole last = search (arith)

first_case : (number n : ℕ) (m : CutMessage) (whole : List CutMessage) (front : List ℕ)
    (w : Option StreamFault) (twelve : Bool)
    → with_first m (header_case (suc number) n whole front w twelve)
    ≡ header_case number n (m ∷ whole) front w twelve
unfolding with_first header_case
first_case number n m whole front (Some word) twelve = refl
first_case number n m whole front None false = refl
first_case number n m whole front None true = search (arith, first_settles)

first_grows_at : (number n x : ℕ) (m : CutMessage) (whole : List CutMessage) (held : List ℕ)
    (current : Option CutMessage) (stop : Option (ℕ × StreamFault))
    → with_first m (cut_with_octet (suc number) n x (record {
      whole = whole;
      current = current;
      held = held;
      stop = stop;
    }))
    ≡ cut_with_octet number n x (with_first m (record {
      whole = whole;
      current = current;
      held = held;
      stop =
          stop;
    }))
unfolding with_first cut_with_octet cut_with_header_octet
first_grows_at number n x m whole held current (Some found) = refl
first_grows_at number n x m whole held (Some last) None = search (arith, first_settles)
first_grows_at number n x m whole held None None = search (arith, first_case)

first_grows : (number n x : ℕ) (m : CutMessage) (c : Cut) →
    with_first m (cut_with_octet (suc number) n x c) ≡ cut_with_octet number n x (with_first m c)
first_grows number n x m c = search (arith, first_grows_at)

grows_more : (fuel number before : ℕ) (xs : List ℕ) (x : ℕ) →
    first_wrong_octet (take 12 xs) ≡ None → 12 ≤ length xs → size (take 12 xs) ≤ length (drop 12 xs)
    → Grows fuel (suc number) (before + 12 + size (take 12 xs))
    (drop (size (take 12 xs)) (drop 12 xs)) x
    → Grows (suc fuel) number before xs x
unfolding Grows
grows_more fuel number before xs x e h k ih = search (
  arith,
  take,
  drop,
  length-drop,
  front_same,
  drop-append-le,
  cut_more,
  length_push,
  take-append-le,
  first_grows,
)

grows_by : (fuel number before : ℕ) (xs : List ℕ) (x : ℕ) → length xs < suc fuel
    → ((number before : ℕ) (ys : List ℕ) → length ys < fuel → Grows fuel number before ys x) →
    (o : Option (ℕ × StreamFault))
    → first_wrong_octet (take 12 xs) ≡ o → Grows (suc fuel) number before xs x
grows_by fuel number before xs x h ih (Some found) e = search (arith, grows_wrong)
grows_by fuel number before xs x h ih None e = search (
  arith,
  cases_lt,
  grows_header,
  drop,
  take,
  grows_open,
  grows_more,
  length-drop,
)

pub cut_from_grows : (fuel number before : ℕ) (xs : List ℕ) (x : ℕ) → length xs < fuel
    → cut_from fuel number before (xs ++ x ∷ [])
    ≡ cut_with_octet number (suc (before + length xs)) x (cut_from fuel number before xs)
unfolding Grows
cut_from_grows zero number before xs x h = absurd (omega arith)
cut_from_grows (suc fuel) number before xs x h =
    grows_by fuel number before xs x h (λ n b ys k. cut_from_grows fuel n b ys x k)
    (first_wrong_octet (take 12 xs)) refl

-- If there is more fuel than there are octets, still more fuel changes nothing.
more_by : (fuel number before : ℕ) (xs : List ℕ) → length xs < suc fuel
    → ((number before : ℕ) (ys : List ℕ) → length ys < fuel
    → cut_from (suc fuel) number before ys ≡ cut_from fuel number before ys) →
    (o : Option (ℕ × StreamFault))
    → first_wrong_octet (take 12 xs) ≡ o →
    cut_from (suc (suc fuel)) number before xs ≡ cut_from (suc fuel) number before xs
more_by fuel number before xs h ih (Some found) e =
    cut_wrong (suc fuel) number before xs found e ∙ sym (cut_wrong fuel number before xs found e)
more_by fuel number before xs h ih None e = search (
  arith,
  cases_lt,
  cut_short,
  drop,
  take,
  cut_open,
  length-drop,
  cut_more,
)

pub more_fuel : (fuel number before : ℕ) (xs : List ℕ) → length xs < fuel →
    cut_from (suc fuel) number before xs ≡ cut_from fuel number before xs
more_fuel zero number before xs h = absurd (omega arith)
more_fuel (suc fuel) number before xs h =
    more_by fuel number before xs h (λ n b ys k. more_fuel fuel n b ys k)
    (first_wrong_octet (take 12 xs)) refl
