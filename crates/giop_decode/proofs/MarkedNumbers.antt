-- A number with a mark is a value of its type, unless it is a kind without a word.
use Rattle.std.proofs.Common.{◌≡◌, ℕ, ◌^◌, ◌<◌, List, [], ◌++◌, Option, Some, None, codes, decimal, ap, append_assoc, refl}
use Rattle.giop_cdr.specs.declared.number.Number.TheVariants as numbers
use Rattle.giop_cdr.specs.declared.prim.Primitive.TheVariants as prims
use Rattle.giop_decode.specs.declared.progress.ValueFault.TheVariants as kinds
use Rattle.giop_decode.specs.ReadResult.{Coding, Fault, Number, PathSegment}
use Rattle.giop_decode.specs.Reading.{sign_of, number_fault}
use Rattle.giop_decode.specs.ReadingSteps.{after_number}
use Rattle.giop_decode.specs.Spelling.{value_text}
use Rattle.giop_decode.specs.Transitions.{IsNumberOf}
use Rattle.giop_print.specs.Line.{headed}
use Rattle.giop_print.specs.Lines.{kind_line, kind_word, named_text, number_text, spaced}
use Rattle.giop_sig.specs.Kinds.{marked_word}
use Rattle.giop_sig.specs.Names.{text_with_code, marked_name}
use Rattle.giop_sig.specs.Types.{Marked, MarkedNumber, Scalar, Single, Ty, interpreted_by}

abbrev pub number_marked : (T : Ty) (mark n : ℕ) → T ≡ Single (Marked mark) →
    number_fault (Marked mark) n ≡ None → n < 256 ^ 4 → IsNumberOf T (numbers.Unsigned n)
number_marked T mark n is right within = record {
  scalar = Marked mark;
  n = n;
  is = is;
  right = right;
  taken = refl;
  within = within;
}

pub marked_wrong : (coding : Coding) (path : List PathSegment) (T : Ty) (at mark n : ℕ) →
    T ≡ Single (Marked mark) → number_fault (Marked mark) n ≡ Some kinds.Enum →
    after_number coding path T n at [] ≡ Fault [] at kinds.Enum T
marked_wrong coding path T at mark n is bad = rw (is, bad) refl

-- The line of a number with a mark. If it is a kind, the line has its word; else it is the line of
-- an unsigned long, with a name if the number has one.

same_marked : (scalar : Scalar) (mark : ℕ) → Single scalar ≡ Single (Marked mark) →
    scalar ≡ Marked mark
same_marked scalar mark e = cc

same_taken : (mark n m : ℕ) → interpreted_by (Marked mark) n ≡ Some (numbers.Unsigned m) → n ≡ m
same_taken mark n m e = cc

pub marked_value : (message : ℕ) (path : List ℕ) (scalar : Scalar) (n m mark : ℕ) →
    Single scalar ≡ Single (Marked mark) → interpreted_by scalar n ≡ Some (numbers.Unsigned m) →
    value_text message path (Number (Marked mark) m) ≡ value_text message path (Number scalar n)
marked_value message path scalar n m mark is taken =
    let s = same_marked scalar mark is in
    let e = same_taken mark n m (rw s at taken) in
    rw (s, e) refl

pub word_value : (message : ℕ) (path word : List ℕ) (mark n : ℕ) → marked_word mark n ≡ Some word →
    kind_line message path (codes " enum ") word ≡ value_text message path (Number (Marked mark) n)
unfolding kind_line
word_value message path word mark n is = rw is refl

pub bare_value : (message : ℕ) (path : List ℕ) (mark n : ℕ) → marked_word mark n ≡ None →
    marked_name mark n ≡ None →
    kind_line message path (spaced (kind_word prims.ULong)) (number_text 4 (numbers.Unsigned n))
    ≡ value_text message path (Number (Marked mark) n)
unfolding kind_line
bare_value message path mark n none unnamed = rw (none, unnamed) refl

-- a name after a number, before the rest of its line
named_before : (n : ℕ) (word : List ℕ) (code : Option ℕ) (rest : List ℕ) →
    named_text n word code ++ rest ≡ decimal n ++ (codes " " ++ (text_with_code word code ++ rest))
named_before n word None rest = append_assoc (decimal n) (codes " " ++ word) rest
named_before n word (Some code) rest =
    append_assoc (decimal n) (codes " " ++ (word ++ (codes " " ++ decimal code))) rest

pub named_value : (message : ℕ) (path word : List ℕ) (code : Option ℕ) (mark n : ℕ) →
    marked_word mark n ≡ None → marked_name mark n ≡ Some (text_with_code word code) →
    kind_line message path (codes " ulong ") (named_text n word code)
    ≡ value_text message path (Number (Marked mark) n)
unfolding kind_line
named_value message path word code mark n none named =
    rw (none, named)
    (ap (λ text. headed message path (codes " ulong " ++ text)) (named_before n word code (codes "\n")))

-- the frames hear a number with a mark by its mark
pub marked_sign : (scalar : Scalar) (n m mark : ℕ) → Single scalar ≡ Single (Marked mark) →
    interpreted_by scalar n ≡ Some (numbers.Unsigned m) →
    sign_of (Number scalar n) ≡ Some (MarkedNumber mark m)
marked_sign scalar n m mark is taken =
    let s = same_marked scalar mark is in
    let e = same_taken mark n m (rw s at taken) in
    rw (s, e) refl
