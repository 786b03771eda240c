use Rattle.std.proofs.Common.{ℕ, arith}
use Rattle.std.proofs.lemmas.List.{length-replicate, get_or-replicate}
use Rattle.giop_entry_table.proofs.ids.Ids.with_capacity.Goals as goal

pub invariant_of-result : goal.invariant_of-result
invariant_of-result c =
    let d = c.divisor-divisor in
    let counts = c.in_ok-vec.ensures.items_if_clones_equal (λ y e. e) in
    let firsts = c.in_ok-vec-2.ensures.items_if_clones_equal (λ y e. e) in
    rw (c.in_ok-with_capacity.ensures.items, counts, firsts, length-replicate) (record {
      indexed = record {
        counts_many = length-replicate d.result 0;
        firsts_many = length-replicate d.result 0;
        counted = λ r less. get_or-replicate {A = ℕ} d.result r 0 0 less;
        before = λ r less i here has. absurd (omega (arith, here));
        range = λ r less. omega (arith, get_or-replicate {A = ℕ} d.result r 0 0 less);
      };
    })
