-- Pieces of strings are the pieces of at most one list of contents.
use Rattle.std.proofs.Common.{arith, ◌≡◌, ℕ, zero, suc, ◌+◌, true, List, [], ◌∷◌, ◌++◌, length, take, drop, refl, sym, ap, ◌∙◌, append_assoc, true≢false}
use Rattle.std.specs.Prelude.{flat_map}
use Rattle.std.proofs.lemmas.List.{take-append-drop}
use Rattle.giop_decode.specs.NotedFromLines.{TextPiece, AreUnended, piece, pieces_from, pieces_of}
use Rattle.giop_decode.specs.Pieces.{full_pieces}

-- equal lists have equal first elements and equal rests
heads : (p q : TextPiece) (ps qs : List TextPiece) → p ∷ ps ≡ q ∷ qs → (p ≡ q) × (ps ≡ qs)
heads p q ps qs e = (cc, cc)

cut_one : (full full' offset : ℕ) (c d : List ℕ) (xs ys : List TextPiece) →
    pieces_from full offset c ++ xs ≡ pieces_from full' offset d ++ ys → (c ≡ d) × (xs ≡ ys)
cut_one zero zero offset c d xs ys e = search (arith, heads)
cut_one zero (suc full') offset c d xs ys e = search (arith, heads, take, drop, true≢false)
cut_one (suc full) zero offset c d xs ys e = search (arith, heads, take, drop, true≢false)
cut_one (suc full) (suc full') offset c d xs ys e =
    let h = heads (piece offset (take 32 c) true) (piece offset (take 32 d) true)
    (pieces_from full (offset + 32) (drop 32 c) ++ xs)
    (pieces_from full' (offset + 32) (drop 32 d) ++ ys) e in
    let front : take 32 c ≡ take 32 d = ap (λ (p : TextPiece). p.octets) h.0 in
    let rest = cut_one full full' (offset + 32) (drop 32 c) (drop 32 d) xs ys h.1 in
    (sym (take-append-drop 32 c) ∙ (rw (front, rest.0) (take-append-drop 32 d)), rest.1)

-- a whole content has a last piece
cut_ends : (full offset : ℕ) (c : List ℕ) (xs : List TextPiece) →
    AreUnended (pieces_from full offset c ++ xs) → ⊥
cut_ends zero offset c xs h = true≢false (sym h.0)
cut_ends (suc full) offset c xs h = cut_ends full (offset + 32) (drop 32 c) xs h.1

pieces_end : (c : List ℕ) (cs : List (List ℕ)) (begun other : List TextPiece) → AreUnended other →
    other ≡ (pieces_of c ++ flat_map pieces_of cs) ++ begun → ⊥
pieces_end c cs begun other h e = search (arith, cut_ends, append_assoc)

-- Two lists of contents that have the same pieces are the same list.
pub contents_one : (cs ds : List (List ℕ)) (begun other : List TextPiece) → AreUnended begun →
    AreUnended other → flat_map pieces_of cs ++ begun ≡ flat_map pieces_of ds ++ other → cs ≡ ds
contents_one [] [] begun other h k e = refl
contents_one [] (d ∷ ds) begun other h k e = search (arith, pieces_end)
contents_one (c ∷ cs) [] begun other h k e = search (arith, pieces_end)
contents_one (c ∷ cs) (d ∷ ds) begun other h k e =
    let both : pieces_of c ++ (flat_map pieces_of cs ++ begun) ≡ pieces_of d
    ++ (flat_map pieces_of ds ++ other) =
    sym (append_assoc (pieces_of c) (flat_map pieces_of cs) begun)
    ∙ (e ∙ append_assoc (pieces_of d) (flat_map pieces_of ds) other) in
    let one = cut_one (full_pieces (length c)) (full_pieces (length d)) 0 c d
    (flat_map pieces_of cs ++ begun) (flat_map pieces_of ds ++ other) both in
    rw (one.0, contents_one cs ds begun other h k one.1) refl
