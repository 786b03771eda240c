use Rattle.std.proofs.Common.{◌≡◌, ℕ, suc, ◌+◌, List, ◌∷◌, ◌++◌, map, drop, append_assoc, sym, ap, ◌∙◌, add-one, Vec, Global}
use Rattle.std.specs.Prelude.{flat_map}
use Rattle.std.proofs.lemmas.Grind.{flat_map-append}
use Rattle.std.proofs.lemmas.List.{map-append}
use Rattle.std.proofs.Math.Seq.{drop-cons}
use Rattle.giop_sig_files.specs.declared.places.SignatureText.{SignatureText}
use Rattle.giop_sig_files.specs.Blocks.{blocks}
use Rattle.giop_sig_files.specs.Joined.{block_or_line_feeds, blocks_taken, with_line_feed}
use Rattle.giop_sig_files.proofs.joining.joined.Goals as goal

abbrev texts : (fs : List SignatureText) → List (List ℕ)
texts fs = map (λ f. f.text.items) fs

abbrev items : (bs : List (Vec ℕ Global)) → List (List ℕ)
items bs = map (λ b. b.items) bs

-- one more file
more : (text : List ℕ) (before bs : List (List ℕ)) (f : SignatureText) (fs : List SignatureText)
    (all : List ℕ) → bs ≡ blocks f.text.items
    → text ++ flat_map with_line_feed (blocks_taken before (texts (f ∷ fs))) ≡ all
    → (text ++ flat_map with_line_feed (map (block_or_line_feeds before) bs))
    ++ flat_map with_line_feed (blocks_taken (before ++ bs) (texts fs)) ≡ all
more text before bs f fs all is h =
    rw is (append_assoc text _ _ ∙ ap (λ (xs : List ℕ). text ++ xs)
    (sym (flat_map-append with_line_feed (map (block_or_line_feeds before) (blocks f.text.items))
    _)) ∙ h)

pub loop-file-preserved : goal.loop-file-preserved
loop-file-preserved c =
    let i = c.loop-file.file-index in
    let fs = c.args.files.now in
    let f = c.file-item.result in
    let next : drop i fs ≡ f ∷ drop (i + 1) fs =
    drop-cons fs i f c.loop-file-test.true
    ∙ ap (λ (g : SignatureText). g ∷ drop (suc i) fs) (sym c.file-item.is)
    ∙ ap (λ (n : ℕ). f ∷ drop n fs) (sym (add-one i)) in
    let bs = items c.in_ok-blocks.blocks.items in
    let before = items c.loop-file.before.items in
    let m = more c.loop-file.text.items before bs f (drop (i + 1) fs) _
    (c.in_ok-blocks.ensures ∙ ap blocks c.as_slice.ensures.value)
    (rw next at c.loop-file.invariant) in
    let longer : items c.append.new.self.items ≡ before ++ bs =
    ap items c.in_ok-append.ensures.items
    ∙ map-append (λ (b : Vec ℕ Global). b.items) c.loop-file.before.items
    c.in_ok-blocks.blocks.items in
    rw (
      longer,
      c.in_ok-append_blocks.ensures,
      c.as_slice-in-loop-file.ensures.value,
      c.as_slice-in-loop-file-2.ensures.value,
    ) m
