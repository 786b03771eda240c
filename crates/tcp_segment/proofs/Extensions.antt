-- What comes after the extension headers of an IPv6 packet, header by header.
use Rattle.std.proofs.Common.{◌≡◌, ℕ, zero, suc, ◌+◌, ◌≤◌, true, false, List, Some, None, arith, refl, add-one}
use Rattle.tcp_segment.specs.Datagrams.{is_extension, extension_size, behind_extension, behind_extensions}

pub extensions_are_long : (header : ℕ) (octets : List ℕ) → 8 ≤ extension_size header octets
extensions_are_long header octets = grind arith

pub behind_one : (n m header : ℕ) (octets : List ℕ) (next : ℕ × List ℕ) → m ≡ n + 1
    → is_extension header ≡ true → behind_extension header octets ≡ Some next
    → behind_extensions m header octets ≡ behind_extensions n next.0 next.1
unfolding behind_extensions
behind_one n m header octets next more is there = rw (more, add-one, is, there) refl

pub behind_a_cut_one : (n m header : ℕ) (octets : List ℕ) → m ≡ n + 1
    → is_extension header ≡ true → behind_extension header octets ≡ None
    → behind_extensions m header octets ≡ None
unfolding behind_extensions
behind_a_cut_one n m header octets more is cut = rw (more, add-one, is, cut) refl

pub behind_no_extension : (n header : ℕ) (octets : List ℕ) → is_extension header ≡ false
    → behind_extensions n header octets ≡ Some (header, octets)
unfolding behind_extensions
behind_no_extension zero header octets is = refl
behind_no_extension (suc n) header octets is = rw is refl

pub behind_the_last : (n header : ℕ) (octets : List ℕ) → n ≡ 0
    → behind_extensions n header octets ≡ Some (header, octets)
unfolding behind_extensions
behind_the_last n header octets none = rw none refl
