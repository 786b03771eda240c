-- The lines that calls write, one call after another, and the faults that they count.
use Rattle.std.proofs.Common.{arith, ◌≡◌, ℕ, ◌+◌, List, [], ◌∷◌, ◌++◌, refl, append-nil, Result, Ok, Err, IsErr}
use Rattle.std.specs.Prelude.{OnOk}
use Rattle.std.proofs.lemmas.Bool.{false≢true}
use Rattle.std.proofs.lemmas.Result.{on_ok_weaker}
use Rattle.std.proofs.lemmas.List.Concat.{flat_map-append}
use Rattle.giop_print.specs.Output.{OutLog, Wrote, WroteFront, Writes}
use Rattle.giop_print.proofs.Writing.{wrote-nil, wrote-front, writes_then, front-append}
use Rattle.giop_stream.specs.Lines.{StreamLine}
use Rattle.giop_stream.specs.Text.{line_text, lines_text}
use Rattle.giop_stream.specs.Stream.{fault_count}
use Rattle.giop_stream.specs.DoesEffect.{WritesAndLeaves}
use Rattle.giop_stream.proofs.Events.AfterMoreEvents.{count_append}

pub text_append : (xs ys : List StreamLine) → lines_text (xs ++ ys) ≡ lines_text xs ++ lines_text ys
unfolding lines_text
text_append xs ys = flat_map-append line_text xs ys

pub nothing_text : (log : OutLog) → Wrote log log (lines_text [])
unfolding lines_text
nothing_text log = wrote-nil log

pub no_faults : fault_count [] ≡ 0
unfolding fault_count
no_faults = refl

-- This line is the first of these lines, and it is no fault.
pub record BeginsSo (line : StreamLine) (ls : List StreamLine) : Type 0 where
  pub more : List StreamLine
  pub is : ls ≡ line ∷ more

pub all_ok : {A E : Type 0} {P : Type 0} (r : Result A E) → P → OnOk r P
all_ok (Ok x) p = p
all_ok (Err e) p = tt

module _ {A E : Type 0} {n : A → ℕ} where
  -- nothing is written, and no fault is counted
  pub does_nothing : {P : Type 0} (x : A) (log : OutLog) → 0 ≡ n x → P →
      WritesAndLeaves {E = E} n (Ok x) log log [] P
  unfolding lines_text fault_count
  does_nothing x log e p = search (arith, wrote-nil)

  -- the call writes the same lines, and leaves what follows from what it is known to leave
  pub performs_on : {P Q : Type 0} {xs ys : List StreamLine} (r : Result A E) (a b : OutLog) →
      xs ≡ ys →
      (P → Q) → WritesAndLeaves n r a b ys P → WritesAndLeaves n r a b xs Q
  performs_on r a b e f p = search (arith, on_ok_weaker)

  -- one line was written
  pub wrote_line : {P : Type 0} {line : StreamLine} (x : A) (a b : OutLog) (text : List ℕ) →
      line_text line ≡ text
      → fault_count (line ∷ []) ≡ n x → Wrote a b text → P →
      WritesAndLeaves {E = E} n (Ok x) a b (line ∷ []) P
  unfolding lines_text
  wrote_line x a b text e f w p = search (arith, append-nil)

  -- a call writes one line
  pub writes_line : {P : Type 0} {line : StreamLine} (r : Result A E) (a b : OutLog) (text : List
      ℕ) →
      line_text line ≡ text
      → ((x : A) → fault_count (line ∷ []) ≡ n x) → Writes r a b text → P →
      WritesAndLeaves n r a b (line ∷ []) P
  unfolding lines_text
  writes_line (Ok x) a b text e f w p = search (arith, append-nil)
  writes_line (Err y) a b text e f w p = search (arith, append-nil)

  -- a line was written, and then a call follows
  pub line_then : {P : Type 0} {line : StreamLine} {ls : List StreamLine} (r : Result A E) (a b d :
      OutLog)
      (text : List ℕ)
      → line_text line ≡ text → fault_count (line ∷ ls) ≡ fault_count ls → Wrote a b text →
      WritesAndLeaves n r b d ls P
      → WritesAndLeaves n r a d (line ∷ ls) P
  unfolding lines_text
  line_then {ls} r a b d text e f w p = search (arith, writes_then)

  -- ---- A put failed.

  pub failed : {P : Type 0} {ls : List StreamLine} (r : Result A E) (a b : OutLog) → IsErr r →
      Writes r a b (lines_text ls) → WritesAndLeaves n r a b ls P
  failed (Ok x) a b h w = absurd (false≢true h)
  failed (Err e) a b h w = search (arith)

  -- a put failed in the first line
  pub line_failed : {P : Type 0} {line : StreamLine} {ls : List StreamLine} (r : Result A E) (a b :
      OutLog)
      (text : List ℕ)
      → BeginsSo line ls → line_text line ≡ text → IsErr r → WroteFront a b text →
      WritesAndLeaves n r a b ls P
  unfolding lines_text
  line_failed (Ok x) a b text begins e h w = absurd (false≢true h)
  line_failed (Err f) a b text begins e h w = search (arith, front-append)

module _ {A B E F : Type 0} {n : A → ℕ} {m : B → ℕ} where
  -- a put failed in a call that writes the first lines
  pub first_failed : {P Q : Type 0} {xs : List StreamLine} (ys : List StreamLine) (e : E) (r :
      Result B F)
      (a b : OutLog) → IsErr r
      → WritesAndLeaves n (Err e) a b xs P → WritesAndLeaves m r a b (xs ++ ys) Q
  first_failed ys e (Ok x) a b h p = absurd (false≢true h)
  first_failed {xs} ys e (Err f) a b h p = search (arith, text_append, front-append)

  -- a put failed in a call that writes all lines
  pub call_failed : {P Q : Type 0} {ls : List StreamLine} (e : E) (r : Result B F) (a b : OutLog) →
      IsErr r → WritesAndLeaves n (Err e) a b ls P → WritesAndLeaves m r a b ls Q
  call_failed e (Ok x) a b h p = absurd (false≢true h)
  call_failed e (Err f) a b h p = search (arith)

  -- a put failed in a call after one that succeeded
  pub then_failed : {P Q : Type 0} {xs ys : List StreamLine} (x : A) (r : Result B F) (a b d :
      OutLog) →
      IsErr r
      → WritesAndLeaves {E = E} n (Ok x) a b xs P → WritesAndLeaves m r b d ys Q →
      WritesAndLeaves m r a d (xs ++ ys) Q
  then_failed x (Ok y) a b d h p q = absurd (false≢true h)
  then_failed {xs} {ys} x (Err e) a b d h p q = search (arith, text_append, wrote-front)

  -- ---- A call that succeeded, and another after it.

  pub done_then : {P Q : Type 0} {xs ys : List StreamLine} (x : A) (r : Result B F) (a b d : OutLog)
      → WritesAndLeaves {E = E} n (Ok x) a b xs P → WritesAndLeaves m r b d ys Q →
      WritesAndLeaves (λ y. n x + m y) r a d (xs ++ ys) Q
  done_then {xs} {ys} x r a b d p q = search (arith, text_append, writes_then, count_append)

-- the same call, if another function counts as many faults
pub counts_as : {A B E F P : Type 0} {n : A → ℕ} {m : B → ℕ} {ls : List StreamLine} (x : A) (y : B)
    (a b : OutLog) → n x ≡ m y
    → WritesAndLeaves {E = E} n (Ok x) a b ls P → WritesAndLeaves {E = F} m (Ok y) a b ls P
counts_as x y a b e p = search (arith)
