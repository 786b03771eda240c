-- The line of an entry, cut at its first space.
use Rattle.std.proofs.Common.{◌≡◌, ℕ, ◌+◌, ◌^◌, ◌<◌, Bool, false, eqb, List, [], ◌∷◌, take, drop, Option, Some, None, refl, sym, subst, arith}
use Rattle.std.specs.List.{AllByRecursion}
use Rattle.std.specs.Fmt.{decimal}
use Rattle.std.specs.Char.{digit_value}
use Rattle.std.specs.Str.Parse.{AllDigits}
use Rattle.std.proofs.lemmas.Bool.{ne_eqb}
use Rattle.std.proofs.lemmas.List.Elements.{recursion_from_All}
use Rattle.std.proofs.lemmas.Str.Parse.{digit_from_value}
use Rattle.giop_sig.specs.RequestList.{Entry, IsNameOctet, IsName, IsAsked, IsEntry, line_of, words, IsEntryLine}
use Rattle.giop_sig.proofs.ListLines.{NonePass, Cut, CutAt, cut_made, none_cut, cut_is}
use Rattle.giop_sig.proofs.ListNumbers.{is_written}

abbrev pub is_space : (b : ℕ) → Bool
is_space b = eqb b 32

no_space : (b : ℕ) → digit_value b < 10 → is_space b ≡ false
no_space b h = search (arith, digit_from_value, ne_eqb)

digits_no_space : (ds : List ℕ) → AllDigits 10 ds → NonePass is_space ds
digits_no_space [] h = tt
digits_no_space (d ∷ ds) h = (no_space d h.0, digits_no_space ds h.1)

pub entry_cut : {third : Bool} (line : List ℕ) (e : Entry) → IsEntry third e → line ≡ line_of e
    → Cut is_space line (decimal e.id) 32 (words e.asked.name e.asked.interface)
entry_cut line e h parts =
    cut_made is_space line (decimal e.id) 32 (words e.asked.name e.asked.interface) parts
    (digits_no_space (decimal e.id) (is_written (decimal e.id) e.id (omega (arith, h.id))
    refl).digits) refl

pub no_entry : {third : Bool} (line : List ℕ) → NonePass is_space line → IsEntryLine third line → ⊥
no_entry line none h = search (arith, none_cut)

-- what is before and after the first space in the line of an entry
pub entry_parts : {third : Bool} (line : List ℕ) (k : ℕ) → CutAt is_space line k
    → (h : IsEntryLine third line) → (take k line ≡ decimal h.0.id)
    × (drop (k + 1) line ≡ words h.0.asked.name h.0.asked.interface)
entry_parts line k c h = cut_is is_space line (decimal h.0.id) 32
    (words h.0.asked.name h.0.asked.interface) k (entry_cut line h.0 h.1 h.2) c

pub no_number : {third : Bool} (line : List ℕ) (k : ℕ) → CutAt is_space line k
    → ((n : ℕ) → n < 2 ^ 32 → take k line ≡ decimal n → ⊥) → IsEntryLine third line → ⊥
no_number line k c none h = none h.0.id h.1.id (entry_parts line k c h).0

-- a text is no words
abbrev pub NoWords : (version_3 : Bool) (text : List ℕ) → Type 0
NoWords third text = (name : List ℕ) (id : Option (List ℕ)) → text ≡ words name id
    → IsAsked third (record { name = name; interface = id }) → ⊥

pub no_words : {third : Bool} (line : List ℕ) (k : ℕ) → CutAt is_space line k
    → NoWords third (drop (k + 1) line) → IsEntryLine third line → ⊥
no_words line k c none h =
    none h.0.asked.name h.0.asked.interface (entry_parts line k c h).1 h.1.asked

-- ---- the words after the id

printed_no_space : (b : ℕ) → IsNameOctet b → is_space b ≡ false
printed_no_space b h = ne_eqb b 32 (λ e. omega (arith, e, h.0))

octets_no_space : (bs : List ℕ) → AllByRecursion IsNameOctet bs → NonePass is_space bs
octets_no_space [] h = tt
octets_no_space (b ∷ bs) h = (printed_no_space b h.0, octets_no_space bs h.1)

pub name_no_space : (name : List ℕ) → IsName name → NonePass is_space name
name_no_space name h = octets_no_space name (recursion_from_All IsNameOctet name h.octets)

pub words_cut : (text name id : List ℕ) → IsName name → text ≡ words name (Some id)
    → Cut is_space text name 32 id
words_cut text name id h parts =
    cut_made is_space text name 32 id parts (name_no_space name h) refl

-- a text without a space is words only if it is a name
pub no_one_word : (third : Bool) (text : List ℕ) → NonePass is_space text → (IsName text → ⊥)
    → NoWords third text
no_one_word third text none never name None is h = never (subst IsName (sym is) h.name)
no_one_word third text none never name (Some id) is h =
    let one : is_space 32 ≡ false = none_cut is_space name 32 id (subst (NonePass is_space) is none)
    in
    absurd cc
