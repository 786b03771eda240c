use Rattle.std.proofs.Common.{◌≡◌, ℕ, Bool, List, [], ◌∷◌, map, refl, arith, Vec, Global}
use Rattle.std.specs.List.{list_any}
use Rattle.std.specs.Str.{bytes_eq}
use Rattle.giop_sig_files.proofs.joining.is_repeated_declaration.Goals as goal

any_map : {X Y : Type 0} (f : X → Y) (p : Y → Bool) (xs : List X)
    → list_any (λ x. p (f x)) xs ≡ list_any p (map f xs)
any_map f p [] = refl
any_map f p (x ∷ xs) = rw (any_map f p xs) refl

pub returns-then-begins_declaration : goal.returns-then-begins_declaration
returns-then-begins_declaration c = grind (
  arith,
  any_map {X = Vec ℕ Global} (λ v. v.items) (λ o. bytes_eq o c.args.block.now.items)
      c.args.before.now,
)
