-- Numbers that compare as the same are equal, and a number is the same as itself.
use Rattle.std.proofs.Common.{arith, ◌≡◌, Bool, true, false, eqb-true, refl}
use Rattle.std.proofs.lemmas.Bool.{eq-eqb}
use Rattle.std.proofs.lemmas.Bool.Decides.{Decides-int_eq}
use mathlib.Core.Bool.{beq}
use Rattle.giop_cdr.specs.declared.number.Number.{Number}
use Rattle.giop_cdr.specs.declared.number.Number.TheVariants as numbers
use Rattle.giop_sig.specs.Table.{same_number}

pub beq_true : (a b : Bool) → beq a b ≡ true → a ≡ b
beq_true true true e = refl
beq_true true false e = absurd cc
beq_true false true e = absurd cc
beq_true false false e = refl

pub beq_self : (a : Bool) → beq a a ≡ true
beq_self true = refl
beq_self false = refl

pub number_same : (m n : Number) → same_number m n ≡ true → m ≡ n
number_same (numbers.Unsigned m) (numbers.Unsigned n) e = search (arith, eqb-true)
number_same (numbers.Unsigned m) (numbers.Signed n) e = absurd cc
number_same (numbers.Unsigned m) (numbers.Bits n) e = absurd cc
number_same (numbers.Unsigned m) (numbers.Truth n) e = absurd cc
number_same (numbers.Unsigned m) (numbers.Char n) e = absurd cc
number_same (numbers.Signed m) (numbers.Unsigned n) e = absurd cc
number_same (numbers.Signed m) (numbers.Signed n) e = search (arith)
number_same (numbers.Signed m) (numbers.Bits n) e = absurd cc
number_same (numbers.Signed m) (numbers.Truth n) e = absurd cc
number_same (numbers.Signed m) (numbers.Char n) e = absurd cc
number_same (numbers.Bits m) (numbers.Unsigned n) e = absurd cc
number_same (numbers.Bits m) (numbers.Signed n) e = absurd cc
number_same (numbers.Bits m) (numbers.Bits n) e = search (arith, eqb-true)
number_same (numbers.Bits m) (numbers.Truth n) e = absurd cc
number_same (numbers.Bits m) (numbers.Char n) e = absurd cc
number_same (numbers.Truth m) (numbers.Unsigned n) e = absurd cc
number_same (numbers.Truth m) (numbers.Signed n) e = absurd cc
number_same (numbers.Truth m) (numbers.Bits n) e = absurd cc
number_same (numbers.Truth m) (numbers.Truth n) e = search (arith, beq_true)
number_same (numbers.Truth m) (numbers.Char n) e = absurd cc
number_same (numbers.Char m) (numbers.Unsigned n) e = absurd cc
number_same (numbers.Char m) (numbers.Signed n) e = absurd cc
number_same (numbers.Char m) (numbers.Bits n) e = absurd cc
number_same (numbers.Char m) (numbers.Truth n) e = absurd cc
number_same (numbers.Char m) (numbers.Char n) e = search (arith, eqb-true)

pub number_self : (n : Number) → same_number n n ≡ true
number_self (numbers.Unsigned n) = eq-eqb n n refl
number_self (numbers.Signed n) = (Decides-int_eq n n).1 refl
number_self (numbers.Bits n) = eq-eqb n n refl
number_self (numbers.Truth b) = beq_self b
number_self (numbers.Char n) = eq-eqb n n refl
