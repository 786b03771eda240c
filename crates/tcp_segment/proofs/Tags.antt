-- What comes after the tags of a frame, tag by tag.
use Rattle.std.proofs.Common.{◌≡◌, ℕ, zero, suc, ◌+◌, true, false, List, Some, None, refl, add-one}
use Rattle.tcp_segment.specs.Frames.{is_tag, behind_tag, behind_tags}

pub behind_a_tag : (n m kind : ℕ) (octets : List ℕ) (next : ℕ × List ℕ) → m ≡ n + 1
    → is_tag kind ≡ true → behind_tag octets ≡ Some next
    → behind_tags m kind octets ≡ behind_tags n next.0 next.1
unfolding behind_tags
behind_a_tag n m kind octets next more is there = rw (more, add-one, is, there) refl

pub behind_a_cut_tag : (n m kind : ℕ) (octets : List ℕ) → m ≡ n + 1 → is_tag kind ≡ true
    → behind_tag octets ≡ None → behind_tags m kind octets ≡ None
unfolding behind_tags
behind_a_cut_tag n m kind octets more is cut = rw (more, add-one, is, cut) refl

pub behind_no_tag : (n kind : ℕ) (octets : List ℕ) → is_tag kind ≡ false
    → behind_tags n kind octets ≡ Some (kind, octets)
unfolding behind_tags
behind_no_tag zero kind octets is = refl
behind_no_tag (suc n) kind octets is = rw is refl

pub behind_the_last_tag : (n kind : ℕ) (octets : List ℕ) → n ≡ 0
    → behind_tags n kind octets ≡ Some (kind, octets)
unfolding behind_tags
behind_the_last_tag n kind octets none = rw none refl
