-- What the contract of a read says about the octets that the read gave.
use Rattle.std.proofs.Common.{◌≡◌, ℕ, ◌+◌, ◌<◌, ◌≤◌, List, [], ◌++◌, length, take, length-take, suc, zero, ◌∷◌, get_or, refl, sym, ap, ◌∙◌, append_assoc, Option, Some, None, arith}
use Rattle.std.specs.Io.KnownBytes.{Consumes, Keeps}
use Rattle.std.proofs.lemmas.Bool.{eq-eqb, ne_eqb, lt-ltb}
use Rattle.std.proofs.lemmas.List.Elements.{All-nil, All-take}
use Rattle.giop_print.specs.Output.{saturating_next}
use Rattle.giop_cdr.specs.Numbers.{AreOctets}
use Rattle.giop_run.specs.SourceLog.{SourceLog, ReadGave, ReadFailed}
use Rattle.giop_run.specs.Running.{ReadFoundEnd}
use Rattle.giop_run.specs.RunSteps.{OneRead}

pub consumes-same : (x : Option (List ℕ)) → Consumes x x []
consumes-same None = tt
consumes-same (Some xs) = refl

pub consumes-append : (x y z : Option (List ℕ)) (s t : List ℕ) → Consumes x y s → Consumes y z t →
    Consumes x z (s ++ t)
consumes-append None y z s t p q = tt
consumes-append (Some xs) None z s t p q = absurd p
consumes-append (Some xs) (Some ys) None s t p q = absurd q
consumes-append (Some xs) (Some ys) (Some zs) s t p q =
    p ∙ (ap (λ v. s ++ v) q ∙ sym (append_assoc s t zs))

consumes_kept : (x y : Option (List ℕ)) → Keeps x y → Consumes x y []
consumes_kept None y k = tt
consumes_kept (Some xs) None k = absurd k
consumes_kept (Some xs) (Some ys) k = sym k

-- a read that failed gave nothing
pub read_none : (a b : SourceLog) → ReadFailed a b → OneRead [] a b
read_none a b f =
    record {
      left = consumes_kept a.left b.left f.left;
      octets = All-nil (λ x. x < 256);
      within = omega arith;
      reads = f.reads;
    }

-- if a read returns 0 and there was room, the source is at its end
pub read_end : (a b : SourceLog) (into : List ℕ) (n : ℕ) → ReadGave a b into n → n ≡ 0 →
    0 < length into → OneRead [] a b × ReadFoundEnd a b
read_end a b into n g z some =
    let t1 = eq-eqb n 0 z in
    let t2 = lt-ltb 0 (length into) some in (
      record {
        left = rw z at g.left;
        octets = All-nil (λ x. x < 256);
        within = omega arith;
        reads =
            g.reads;
      },
      record { answered = g.ends ∙ rw (t1, t2) refl; none = g.over z some },
    )

-- if a read gave octets, they are no more than there was room for
pub read_some : (a b : SourceLog) (into : List ℕ) (n : ℕ) → ReadGave a b into n → AreOctets into →
    length into ≡ 4096 → OneRead (take n into) a b
read_some a b into n g o r =
    record {
      left = g.left;
      octets = All-take (λ x. x < 256) n into o;
      within = let l = length-take n into in omega arith;
      reads = g.reads;
    }

-- if a read gave octets, the source isn't at its end
pub not_end : (a b : SourceLog) (into : List ℕ) (n : ℕ) → ReadGave a b into n → (n ≡ 0 → ⊥) →
    b.ends ≡ a.ends
not_end a b into n g some = let t = ne_eqb n 0 some in g.ends ∙ rw t refl

-- one more read, in a count that has room for it
pub one_more_read : (before so_far turns after most : ℕ) → so_far ≤ before + turns →
    after ≡ saturating_next so_far → turns < most → after ≤ before + most
unfolding saturating_next
one_more_read before so_far turns after most below one room = omega arith

-- a list is a list of octets if each of its elements is an octet
pub octets-from : (xs : List ℕ) → ((i : ℕ) → get_or xs i 0 < 256) → AreOctets xs
octets-from xs h = λ k d l. rw (same_read xs k d l) (h k)
  where
    same_read : (xs : List ℕ) (k d : ℕ) → k < length xs → get_or xs k d ≡ get_or xs k 0
    same_read [] k d l = absurd (omega arith)
    same_read (x ∷ xs) zero d l = refl
    same_read (x ∷ xs) (suc k) d l = same_read xs k d (omega arith)
