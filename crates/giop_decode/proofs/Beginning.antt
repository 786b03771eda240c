-- The frames and the leaf with which a type begins, in a decoder's fields.
use Rattle.std.proofs.Common.{◌≡◌, ℕ, zero, suc, pred, ◌-◌, ◌<◌, List, [], ◌∷◌, ◌++◌, length, Option, Some, None, refl, sym, ap, subst, ◌∙◌, arith, append_assoc}
use Rattle.std.specs.List.{AllByRecursion}
use Rattle.giop_decode.specs.ReadResult.{OpenPart}
use Rattle.giop_decode.specs.Begins.{start_outer, start_leaf}
use Rattle.giop_decode.specs.Transitions.{StartsWithPart, FrameIndexFitsAs, open_part, part_as, parts_in_room, tree_in}
use Rattle.giop_decode.specs.declared.frame.Frame.{Frame}
use Rattle.giop_decode.specs.declared.frame.Stage.{Stage}
use Rattle.giop_sig.specs.Types.{Ty, Struct, Array, Led, part_of, shape_in, HasIndex}
use Rattle.giop_sig.specs.Fits.{IsFit}
use Rattle.giop_sig.specs.Table.{Table}
use Rattle.giop_sig.specs.Trees.{tree_at}

pub record FitsAtFirstPart (d : ℕ) (T : Ty) (count : ℕ) (told : Option Stage) : Type 0 where
  pub room : 0 < d
  pub outer : (here : ℕ) → start_outer T ≡ part_as told here None T 0 count ∷ start_outer (part_of T
      0)
  pub leaf : start_leaf T ≡ start_leaf (part_of T 0)
  pub fit : IsFit (pred d) (part_of T 0)
  pub placed : HasIndex (shape_in T) 0
  pub some : told ≡ None → 0 < count

pub begins : (d : ℕ) (T : Ty) (count : ℕ) (told : Option Stage) → IsFit d T →
    StartsWithPart T count told → FitsAtFirstPart d T count told
unfolding IsFit
begins zero T count told fit is = absurd fit
begins (suc d) (Struct n names parts) count told fit is = rw (is.0, is.1) (record {
  room = omega arith;
  outer = λ here. refl;
  leaf = refl;
  fit = fit.1 0 fit.0;
  placed = fit.0;
  some = λ none. fit.0;
})
begins (suc d) (Array n E) count told fit is = rw (is.0, is.1) (record {
  room = omega arith;
  outer = λ here. refl;
  leaf = refl;
  fit = fit.1;
  placed = tt;
  some = λ none. fit.0;
})
begins (suc d) (Led h F parts) count told fit is = rw (is.0, is.1) (record {
  room = omega arith;
  outer = λ here. refl;
  leaf = refl;
  fit = fit.0;
  placed = tt;
  some = λ none. absurd cc;
})
begins (suc d) T count told fit is = absurd is

pub all_push : {X : Type 0} (P : X → Type 0) (xs : List X) (x : X) → AllByRecursion P xs → P x →
    AllByRecursion P (xs ++ x ∷ [])
all_push P [] x h p = (p, tt)
all_push P (y ∷ xs) x h p = (h.0, all_push P xs x h.1 p)

-- ---- one frame more

pub places_push : (C : Table) (room here : ℕ) (frames : List Frame) (f : Frame) →
    parts_in_room C room here (frames ++ f ∷ [])
    ≡ parts_in_room C room here frames ++ open_part C (room - length frames) here f ∷ []
places_push C room here [] f = let none : room ≡ room - 0 = omega arith in
    ap (λ n. open_part C n here f ∷ []) none
places_push C room here (g ∷ frames) f =
    let less : pred room - length frames ≡ room - suc (length frames) = omega arith in
    ap (λ ps. open_part C room here g ∷ ps) (places_push C (pred room) here frames f
    ∙ ap (λ n. parts_in_room C (pred room) here frames ++ open_part C n here f ∷ []) less)

-- the part of a type, inside one frame more than the type itself
pub part_in_frames : (C : Table) (old new : List Frame) (of part i : ℕ) →
    length new ≡ suc (length old) → length old < 24 →
    ((room : ℕ) → tree_at C room part ≡ part_of (tree_at C (suc room) of) i) →
    tree_in C new part ≡ part_of (tree_in C old of) i
part_in_frames C old new of part i more few parts =
    let one : suc (24 - length new) ≡ 24 - length old = omega (arith, more, few) in
    subst (λ n. tree_at C (24 - length new) part ≡ part_of (tree_at C n of) i) one
    (parts (24 - length new))

-- a type that begins with a part of its own can be at that part
pub whole_within : (T : Ty) (count : ℕ) (told : Option Stage) → (told ≡ None → 0 < count) →
    StartsWithPart T count told → FrameIndexFitsAs told None 0 count T
whole_within (Struct n names parts) count None some is =
    (rw is.0 at (some refl), λ kind. kind, λ is. absurd is)
whole_within (Struct n names parts) count (Some stage) some is = let e = is.1 in absurd cc
whole_within (Array n E) count None some is = (tt, λ kind. kind, λ is. absurd is)
whole_within (Array n E) count (Some stage) some is = let e = is.1 in absurd cc
whole_within (Led h F parts) count (Some stage) some is = (tt, refl, is.0)
whole_within (Led h F parts) count None some is = let e = is.1 in absurd cc
whole_within T count told some is = absurd is

pub whole_placed : (T : Ty) (count : ℕ) (told : Option Stage) → (told ≡ None → 0 < count) →
    StartsWithPart T count told → HasIndex (shape_in T) 0
whole_placed (Struct n names parts) count told some is = rw is.0 at (some is.1)
whole_placed (Array n E) count told some is = tt
whole_placed (Led h F parts) count told some is = tt
whole_placed T count told some is = absurd is

pub begins_places : (d here : ℕ) (ps : List OpenPart) (T : Ty) (count : ℕ) (told : Option Stage) →
    FitsAtFirstPart d T count told →
    (ps ++ part_as told here None T 0 count ∷ []) ++ start_outer (part_of T 0) ≡ ps ++ start_outer T
begins_places d here ps T count told b =
    append_assoc ps (part_as told here None T 0 count ∷ []) (start_outer (part_of T 0))
    ∙ ap (λ qs. ps ++ qs) (sym (b.outer here))
