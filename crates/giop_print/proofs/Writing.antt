-- Writing a text in parts, one call after another: all of the text was written, or a front of it
-- before a put failed.
use Rattle.std.proofs.Common.{◌≡◌, Result, Ok, Err, IsErr, ℕ, suc, get_or, flat_map, ◌+◌, ◌-◌, ◌≤◌, List, [], ◌∷◌, ◌++◌, length, take, drop, take-add, ◌<◌, length-take, length-drop, drop-drop, Option, Some, None, refl, sym, ap, ◌∙◌, subst, arith, append-nil, append_assoc, add-one, length-append, min, inl, inr}
use Rattle.std.proofs.Math.Seq.{take-append-add, take-append_seam, take-suc}
use Rattle.std.proofs.lemmas.List.Concat.{flat_map-append}
use Rattle.std.proofs.lemmas.List.{take-append-le, take_all, take-append-drop}
use Rattle.std.proofs.lemmas.Bool.{cases_lt, false≢true}
use Rattle.std.specs.Io.KnownBytes.{Appends, Keeps}
use Rattle.giop_print.specs.Output.{OutLog, saturating_next, Took, Failed, Wrote, WroteFront, Writes}

appends-nil : (a : Option (List ℕ)) → Appends a a []
appends-nil None = tt
appends-nil (Some xs) = sym (append-nil xs)

appends-append : (a b c : Option (List ℕ)) (x y : List ℕ) → Appends a b x → Appends b c y →
    Appends a c (x ++ y)
appends-append None b c x y p q = tt
appends-append (Some xs) None c x y p q = absurd p
appends-append (Some xs) (Some ys) None x y p q = absurd q
appends-append (Some xs) (Some ys) (Some zs) x y p q = rw (q, p) (append_assoc xs x y)

appends-keeps : (a b : Option (List ℕ)) → Keeps a b → Appends a b []
appends-keeps None b k = tt
appends-keeps (Some xs) None k = absurd k
appends-keeps (Some xs) (Some ys) k = rw k (sym (append-nil xs))

pub wrote-nil : (a : OutLog) → Wrote a a []
wrote-nil a = record { written = appends-nil a.written; puts = omega arith; failures = refl }

pub wrote-append : (a b c : OutLog) (x y : List ℕ) → Wrote a b x → Wrote b c y → Wrote a c (x ++ y)
wrote-append a b c x y p q =
    record {
      written = appends-append a.written b.written c.written x y p.written q.written;
      puts = let l = length-append x y in omega (arith, p.puts, q.puts);
      failures = q.failures ∙ p.failures;
    }

pub wrote-front : (a b c : OutLog) (x y : List ℕ) → Wrote a b x → WroteFront b c y →
    WroteFront a c (x ++ y)
wrote-front a b c x y p q =
    record {
      size = length x + q.size;
      written = rw take-append-add (appends-append a.written b.written c.written x (take q.size y)
          p.written q.written);
      puts = let l = length-append x y in omega (arith, p.puts, q.puts);
      failures = q.failures ∙ ap saturating_next p.failures;
    }

take_front : (s : ℕ) (x y : List ℕ) → take (min s (length x)) (x ++ y) ≡ take s x
take_front s x y =
    elim (cases_lt s (length x)) [
      | inl h ↦ let e : min s (length x) ≡ s = omega arith in
          rw e (take-append-le s x y (omega arith))
      | inr h ↦ let e : min s (length x) ≡ length x = omega arith in
          rw (e, take_all s x h) (take-append_seam x y)
    ]

pub front-append : (a b : OutLog) (x y : List ℕ) → WroteFront a b x → WroteFront a b (x ++ y)
front-append a b x y p =
    record {
      size = min p.size (length x);
      written = rw (take_front p.size x y) p.written;
      puts = let l = length-append x y in omega (arith, p.puts);
      failures = p.failures;
    }

-- one put of a run of puts
pub wrote-took : (a b c : OutLog) (bytes : List ℕ) (at n : ℕ) → at < length bytes →
    Wrote a b (take at bytes) → Took b c (drop at bytes) n → Wrote a c (take (at + n) bytes)
unfolding saturating_next
wrote-took a b c bytes at n h p q =
    let l = length-drop at bytes in
    let k : at + n ≤ length bytes = omega (arith, q.within) in
    let t = take-add at n bytes in
    let l1 = length-take at bytes in
    let l2 = length-take (at + n) bytes in
    record {
      written = rw t (appends-append a.written b.written c.written (take at bytes)
          (take n (drop at bytes)) p.written q.written);
      puts = omega (arith, p.puts, q.puts, q.some);
      failures = q.failures ∙ p.failures;
    }

-- all octets except the rest are written
pub record LeavesRest (before after : OutLog) (bytes rest : List ℕ) : Type 0 where
  pub within : length rest ≤ length bytes
  pub behind : rest ≡ drop (length bytes - length rest) bytes
  pub wrote : Wrote before after (take (length bytes - length rest) bytes)

pub rest-took : (a b c : OutLog) (bytes rest : List ℕ) (n : ℕ) → 0 < length rest →
    LeavesRest a b bytes rest → Took b c rest n → LeavesRest a c bytes (drop n rest)
rest-took a b c bytes rest n some left took =
    let at = length bytes - length rest in
    let l = length-drop n rest in
    let e : length bytes - length (drop n rest) ≡ at + n =
    omega (arith, left.within, took.within) in
    record {
      within = omega (arith, left.within);
      behind = rw e (ap (drop n) left.behind ∙ drop-drop n at bytes);
      wrote = rw e (wrote-took a b c bytes at n (omega (arith, left.within)) left.wrote
          (subst (λ r. Took b c r n) left.behind took));
    }

pub front-failed : (a b c : OutLog) (bytes : List ℕ) (at : ℕ) → at < length bytes →
    Wrote a b (take at bytes) → Failed b c → WroteFront a c bytes
unfolding saturating_next
front-failed a b c bytes at h p q =
    let l1 = length-take at bytes in
    record {
      size = at;
      written = rw append-nil at (appends-append a.written b.written c.written (take at bytes) []
          p.written (appends-keeps b.written c.written q.written));
      puts = omega (arith, p.puts, q.puts);
      failures = q.failures ∙ ap saturating_next p.failures;
    }

-- the value of `&bytes[at..]`
pub rest_from : (at : ℕ) (bytes : List ℕ) → take (length bytes - at) (drop at bytes) ≡ drop at bytes
rest_from at bytes = let l = length-drop at bytes in
    take_all (length bytes - at) (drop at bytes) (omega arith)

-- a part of a list wasn't written completely
pub front-parts : {X : Type 0} (f : X → List ℕ) (a b c : OutLog) (xs : List X) (i : ℕ) (d : X) →
    i < length xs → Wrote a b (flat_map f (take i xs)) → WroteFront b c (f (get_or xs i d)) →
    WroteFront a c (flat_map f xs)
front-parts f a b c xs i d h p q =
    let e : flat_map f xs ≡ (flat_map f (take i xs) ++ f (get_or xs i d))
    ++ flat_map f (drop (suc i) xs) =
    ap (flat_map f) (sym (take-append-drop (suc i) xs))
    ∙ (flat_map-append f (take (suc i) xs) (drop (suc i) xs)
    ∙ ap (λ z. z ++ flat_map f (drop (suc i) xs))
    (ap (flat_map f) (take-suc xs i d h)
    ∙ (flat_map-append f (take i xs) (get_or xs i d ∷ [])
    ∙ ap (λ z. flat_map f (take i xs) ++ z) (append-nil _)))) in
    rw e (front-append a c (flat_map f (take i xs) ++ f (get_or xs i d))
    (flat_map f (drop (suc i) xs)) (wrote-front a b c (flat_map f (take i xs))
    (f (get_or xs i d)) p q))

pub flat_map-take : {X : Type 0} (f : X → List ℕ) (xs : List X) (i : ℕ) (d : X) → i < length xs →
    flat_map f (take (i + 1) xs) ≡ flat_map f (take i xs) ++ f (get_or xs i d)
flat_map-take f xs i d h =
    rw (add-one, take-suc xs i d h) (flat_map-append f (take i xs) (get_or xs i d ∷ [])
    ∙ ap (λ z. flat_map f (take i xs) ++ z) (append-nil (f (get_or xs i d))))

-- a part was written, and then a call writes the rest
pub writes_then : {A E : Type 0} (r : Result A E) (a b c : OutLog) (x y : List ℕ) → Wrote a b x →
    Writes r b c y → Writes r a c (x ++ y)
writes_then (Ok v) a b c x y p q = wrote-append a b c x y p q
writes_then (Err e) a b c x y p q = wrote-front a b c x y p q

-- the exit of a `?` at a part that wasn't written completely
pub writes_err : {A E : Type 0} (r : Result A E) (a b : OutLog) (x y : List ℕ) → IsErr r →
    WroteFront a b x → Writes r a b (x ++ y)
writes_err (Ok v) a b x y e p = absurd (false≢true e)
writes_err (Err e) a b x y h p = front-append a b x y p

-- a front was written, and the answer is an error
pub writes_failed : {A E : Type 0} (r : Result A E) (a b : OutLog) (x : List ℕ) → IsErr r →
    WroteFront a b x → Writes r a b x
writes_failed (Ok v) a b x e p = absurd (false≢true e)
writes_failed (Err v) a b x e p = p
