use Rattle.std.proofs.Common.{◌≡◌, ◌<◌, ◌≤◌, ◌+◌, ◌-◌, ◌⊎◌, inl, inr, ℕ, suc, List, Bool, true, false, ap, ◌∙◌, subst, arith}
use Rattle.std.proofs.Math.Nat.{eq-or-lt_of_le}
use Rattle.giop_sig_files.specs.Names.{after_lines, first_line, after_line, line_at, declare_same_name, DeclareSameName}
use Rattle.giop_sig_files.proofs.earlier.declared_above.Goals as goal

at_most : (text : List ℕ) (above line k : ℕ) → (DeclareSameName text above line → ⊥)
    → (k < above → DeclareSameName text k line → ⊥) → (k ≡ above) ⊎ (k < above)
    → DeclareSameName text k line → ⊥
at_most text above line k other none (inl is) same =
    other (subst (λ (n : ℕ). DeclareSameName text n line) is same)
at_most text above line k other none (inr less) same = none less same

-- one more line, which declares something else
one_more : (text : List ℕ) (above line : ℕ) → (DeclareSameName text above line → ⊥)
    → ((k : ℕ) → 1 ≤ k → k < above → DeclareSameName text k line → ⊥)
    → (k : ℕ) → 1 ≤ k → k < above + 1 → DeclareSameName text k line → ⊥
one_more text above line other none k some less =
    at_most text above line k other (none k some) (eq-or-lt_of_le (omega (arith, less)))

other_than : (a b x y : List ℕ) (r : Bool) → r ≡ false → r ≡ declare_same_name a b → a ≡ x → b ≡ y
    → declare_same_name x y ≡ true → ⊥
other_than a b x y r fails is e f same = absurd cc

next : (n : ℕ) → 1 ≤ n → suc (n - 1) ≡ n + 1 - 1
next n some = omega (arith, some)

pub loop-above-preserved : goal.loop-above-preserved
loop-above-preserved c =
    let i = c.loop-above.invariant in
    let above = c.loop-above.above in
    let text = c.args.text.now in
    let first : c.first_line.result.0.now ≡ line_at text above =
    c.first_line.ensures.line ∙ ap first_line i.rest in
    record {
      rest = c.first_line.ensures.after ∙ ap after_line i.rest
          ∙ ap (λ (n : ℕ). after_lines n text) (next above c.loop-above.auto.above);
      none = one_more text above c.args.line
          (other_than _ _ _ _ c.declare_same_name.result c.if-declare_same_name.false
          c.declare_same_name.ensures
          first c.line_at-declared.ensures) i.none;
    }
