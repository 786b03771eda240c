-- The readers of one token, in both directions: what they read from a text whose tokens are known,
-- and which tokens a text has, if they read it.
use Rattle.std.proofs.Common.{arith, ◌≡◌, ℕ, ◌≤◌, ◌<◌, Bool, true, false, cond, eqb, ltb, List, [], ◌∷◌, length, Option, Some, None, Result, Ok, Err, refl, ap}
use Rattle.std.specs.Prelude.{option_and_then}
use Rattle.std.specs.Str.{bytes_eq}
use Rattle.std.proofs.lemmas.Slice.Eq.{bytes_eq-Decides}
use Rattle.std.proofs.lemmas.Bool.{eqb-true, ltb-false, le-ltb, lt-ltb}
use Rattle.giop_tokens.specs.declared.fault.TokenError.{TokenError}
use Rattle.giop_tokens.specs.declared.marks.Mark.{Mark}
use Rattle.giop_tokens.specs.declared.marks.Mark.TheVariants as marks
use Rattle.giop_tokens.specs.Marks.{octet_of, mark_of}
use Rattle.giop_tokens.specs.Tokens.{Token, word, number, repository, mark, next, AreTokens}
use Rattle.giop_tokens.specs.Reading.{◌>>=◌}
use Rattle.giop_tokens.specs.Readers.{misplaced, as_word, as_number, as_repository, is_the_mark, is_the_word, found_or, token_passes, next_as, next_is, next_if, word_at, number_at, repository_at, mark_at, keyword_at, mark_if, keyword_if, end_at}
use Rattle.giop_tokens.specs.Names.{is_reserved, too_long, identifier_at, operation_name_at}
use Rattle.giop_tokens.proofs.WrittenLaws.{next_first}

-- ---- Steps of a reading.

pub bind_ok : {A B : Type 0} (r : Result A TokenError) (f : A → Result B TokenError) (y : B) →
    (r >>= f) ≡ Ok y → (x : A) × (r ≡ Ok x) × (f x ≡ Ok y)
bind_ok (Ok x) f y e = (x, refl, e)
bind_ok (Err d) f y e = absurd cc

abbrev done : {A : Type 0} (x : A) → Result A TokenError
done x = Ok x

pub ok_is : {A : Type 0} (x y : A) → done x ≡ done y → x ≡ y
ok_is x y e = cc

some_is : {A : Type 0} (x y : A) → Some x ≡ Some y → x ≡ y
some_is x y e = cc

-- ---- A text of known tokens is read again.

-- the reader gives the value of the token
pub as_again : {X : Type 0} (tells : Token → Option X) (text : List ℕ) (t : Token) (ts : List Token)
    (x : X) (h : AreTokens text (t ∷ ts)) → tells t ≡ Some x → next_as tells text ≡ Ok (x, h.0)
unfolding next_as
as_again tells text t ts x h e = rw (h.1, e) refl

-- the reader refuses a token of another kind
pub as_other : {X : Type 0} (tells : Token → Option X) (text : List ℕ) (t : Token)
    (ts : List Token) → AreTokens text (t ∷ ts) → tells t ≡ None →
    next_as tells text ≡ Err (misplaced text)
unfolding next_as
as_other tells text t ts h e = rw (h.1, e) refl

pub as_ended : {X : Type 0} (tells : Token → Option X) (text : List ℕ) → AreTokens text [] →
    next_as tells text ≡ Err (misplaced text)
unfolding next_as
as_ended tells text h = rw h refl

pub is_again : (is : Token → Bool) (text : List ℕ) (t : Token) (ts : List Token)
    (h : AreTokens text (t ∷ ts)) → is t ≡ true → next_is is text ≡ Ok h.0
unfolding next_is
is_again is text t ts h e = rw (h.1, e) refl

pub is_other : (is : Token → Bool) (text : List ℕ) (t : Token) (ts : List Token) →
    AreTokens text (t ∷ ts) → is t ≡ false → next_is is text ≡ Err (misplaced text)
unfolding next_is
is_other is text t ts h e = rw (h.1, e) refl

pub is_ended : (is : Token → Bool) (text : List ℕ) → AreTokens text [] →
    next_is is text ≡ Err (misplaced text)
unfolding next_is
is_ended is text h = rw h refl

pub if_again : (is : Token → Bool) (text : List ℕ) (t : Token) (ts : List Token)
    (h : AreTokens text (t ∷ ts)) → is t ≡ true → next_if is text ≡ Ok (Some h.0)
unfolding next_if
if_again is text t ts h e = rw (h.1, e) refl

pub if_other : (is : Token → Bool) (text : List ℕ) (t : Token) (ts : List Token) →
    AreTokens text (t ∷ ts) → is t ≡ false → next_if is text ≡ Ok None
unfolding next_if
if_other is text t ts h e = rw (h.1, e) refl

pub if_ended : (is : Token → Bool) (text : List ℕ) → AreTokens text [] → next_if is text ≡ Ok None
unfolding next_if
if_ended is text h = rw h refl

bytes_self : (w : List ℕ) → bytes_eq w w ≡ true
bytes_self w = (bytes_eq-Decides w w).1 refl

octet_self : (m : Mark) → eqb (octet_of m) (octet_of m) ≡ true
octet_self marks.OpenBrace = refl
octet_self _ = refl

pub word_again : (text w : List ℕ) (ts : List Token) (h : AreTokens text (word w ∷ ts)) →
    word_at text ≡ Ok (w, h.0)
word_again text w ts h = search (arith, as_again)

pub number_again : (text : List ℕ) (n : ℕ) (ts : List Token) (h : AreTokens text (number n ∷ ts)) →
    number_at text ≡ Ok (n, h.0)
number_again text n ts h = search (arith, as_again)

pub repository_again : (text r : List ℕ) (ts : List Token)
    (h : AreTokens text (repository r ∷ ts)) → repository_at text ≡ Ok (r, h.0)
repository_again text r ts h = search (arith, as_again)

pub mark_again : (m : Mark) (text : List ℕ) (ts : List Token) (h : AreTokens text (mark m ∷ ts)) →
    mark_at m text ≡ Ok h.0
mark_again m text ts h = search (arith, is_again, octet_self)

pub keyword_again : (w text : List ℕ) (ts : List Token) (h : AreTokens text (word w ∷ ts)) →
    keyword_at w text ≡ Ok h.0
keyword_again w text ts h = search (arith, is_again, bytes_self)

pub mark_if_again : (m : Mark) (text : List ℕ) (ts : List Token)
    (h : AreTokens text (mark m ∷ ts)) → mark_if m text ≡ Ok (Some h.0)
mark_if_again m text ts h = search (arith, if_again, octet_self)

pub keyword_if_again : (w text : List ℕ) (ts : List Token) (h : AreTokens text (word w ∷ ts)) →
    keyword_if w text ≡ Ok (Some h.0)
keyword_if_again w text ts h = search (arith, if_again, bytes_self)

pub end_again : (text : List ℕ) → AreTokens text [] → end_at text ≡ Ok true
unfolding end_at
end_again text h = rw h refl

pub end_other : (text : List ℕ) (t : Token) (ts : List Token) → AreTokens text (t ∷ ts) →
    end_at text ≡ Ok false
unfolding end_at
end_other text t ts h = rw h.1 refl

-- a name is read again, unless it is reserved or too long
pub identifier_again : (third : Bool) (text w : List ℕ) (ts : List Token)
    (h : AreTokens text (word w ∷ ts)) →
    is_reserved third w ≡ false → length w ≤ 64 → identifier_at third text ≡ Ok (w, h.0)
unfolding identifier_at
identifier_again third text w ts h r few =
    let k : ltb 64 (length w) ≡ false = le-ltb 64 (length w) few in
    rw (word_again text w ts h, r, k) refl

pub identifier_long : (third : Bool) (text w : List ℕ) (ts : List Token)
    → AreTokens text (word w ∷ ts) →
    is_reserved third w ≡ false → 64 < length w → identifier_at third text ≡ Err (too_long text)
unfolding identifier_at
identifier_long third text w ts h r long =
    let k : ltb 64 (length w) ≡ true = lt-ltb 64 (length w) long in
    rw (word_again text w ts h, r, k) refl

pub operation_name_again : (text w : List ℕ) (ts : List Token) (h : AreTokens text (word w ∷ ts)) →
    length w ≤ 128 → operation_name_at text ≡ Ok (w, h.0)
unfolding operation_name_at
operation_name_again text w ts h few = let k : ltb 128 (length w) ≡ false =
    le-ltb 128 (length w) few in rw (word_again text w ts h, k) refl

pub operation_name_long : (text w : List ℕ) (ts : List Token) → AreTokens text (word w ∷ ts) →
    128 < length w → operation_name_at text ≡ Err (too_long text)
unfolding operation_name_at
operation_name_long text w ts h long = let k : ltb 128 (length w) ≡ true =
    lt-ltb 128 (length w) long in rw (word_again text w ts h, k) refl

-- ---- What a reader took is the text's first token.

-- the text is this token, and then the tokens of the rest
abbrev pub TakesToken : (text : List ℕ) (token : Token) (rest : List ℕ) → Type 0
TakesToken text t rest = (ts : List Token) → AreTokens rest ts → AreTokens text (t ∷ ts)

next_takes : (text : List ℕ) (t : Token) (rest : List ℕ) → next text ≡ Ok (Some t, rest) →
    TakesToken text t rest
next_takes text t rest e = λ ts h. (rest, e, h)

told_by : {X : Type 0} (tells : Token → Option X) (text : List ℕ) (t : Token) (rest : List ℕ)
    (x : X × List ℕ) (o : Option X) → tells t ≡ o → next text ≡ Ok (Some t, rest) →
    found_or (misplaced text) o rest ≡ Ok x → (s : Token) × (tells s ≡ Some x.0)
    × (next text ≡ Ok (Some s, x.1))
told_by tells text t rest x None o n e = absurd cc
told_by {X} tells text t rest x (Some y) o n e = search (arith, ok_is)

wanted_by : {X : Type 0} (tells : Token → Option X) (text : List ℕ) (t : Option Token)
    (rest : List ℕ) (x : X × List ℕ) → next text ≡ Ok (t, rest) →
    found_or (misplaced text) (option_and_then tells t) rest ≡ Ok x → (s : Token)
    × (tells s ≡ Some x.0) × (next text ≡ Ok (Some s, x.1))
wanted_by tells text None rest x n e = absurd cc
wanted_by tells text (Some t) rest x n e = search (arith, told_by)

-- the value that a reader gives is the value of the first token
pub as_takes : {X : Type 0} (tells : Token → Option X) (text : List ℕ) (x : X × List ℕ) →
    next_as tells text ≡ Ok x → (t : Token) × (tells t ≡ Some x.0) × (next text ≡ Ok (Some t, x.1))
unfolding next_as
as_takes tells text x e = search (arith, bind_ok, wanted_by)

passed_by : (is : Token → Bool) (text : List ℕ) (t : Option Token) (b : Bool)
    (rest after : List ℕ) → token_passes is t ≡ b → next text ≡ Ok (t, rest) →
    cond b (done rest) (Err (misplaced text)) ≡ Ok after → (s : Token) × (is s ≡ true)
    × (next text ≡ Ok (Some s, after))
passed_by is text t false rest after p n e = absurd cc
passed_by is text None true rest after p n e = absurd cc
passed_by is text (Some t) true rest after p n e = search (arith, ok_is)

pub is_takes : (is : Token → Bool) (text after : List ℕ) → next_is is text ≡ Ok after → (t : Token)
    × (is t ≡ true) × (next text ≡ Ok (Some t, after))
unfolding next_is
is_takes is text after e = search (arith, bind_ok, cond, passed_by)

found_by : (is : Token → Bool) (text : List ℕ) (t : Option Token) (b : Bool) (rest after : List ℕ) →
    token_passes is t ≡ b → next text ≡ Ok (t, rest) → done (cond b (Some rest) None) ≡ Ok
    (Some after) →
    (s : Token) × (is s ≡ true) × (next text ≡ Ok (Some s, after))
found_by is text t false rest after p n e = absurd cc
found_by is text None true rest after p n e = absurd cc
found_by is text (Some t) true rest after p n e = search (arith)

pub if_takes : (is : Token → Bool) (text after : List ℕ) → next_if is text ≡ Ok (Some after) →
    (t : Token) × (is t ≡ true) × (next text ≡ Ok (Some t, after))
unfolding next_if
if_takes is text after e = search (arith, bind_ok, cond, found_by)

-- ---- Reader by reader: the first token, and the text.

word_told : (t : Token) (w : List ℕ) → as_word t ≡ Some w → t ≡ word w
word_told (word v) w e = ap word (some_is v w e)
word_told _ w e = absurd cc

number_told : (t : Token) (n : ℕ) → as_number t ≡ Some n → t ≡ number n
number_told (number k) n e = ap number (some_is k n e)
number_told _ n e = absurd cc

repository_told : (t : Token) (r : List ℕ) → as_repository t ≡ Some r → t ≡ repository r
repository_told (repository s) r e = ap repository (some_is s r e)
repository_told _ r e = absurd cc

mark_again_of : (m : Mark) → mark_of (octet_of m) ≡ Some m
unfolding mark_of
mark_again_of marks.OpenBrace = refl
mark_again_of _ = refl

-- marks of one octet are equal
pub mark_same : (m n : Mark) → octet_of m ≡ octet_of n → m ≡ n
mark_same m n e = search (arith, some_is, mark_again_of)

mark_told : (m : Mark) (t : Token) → is_the_mark m t ≡ true → t ≡ mark m
mark_told m (mark n) e = search (arith, mark_same, eqb-true)
mark_told m _ e = absurd cc

keyword_told : (w : List ℕ) (t : Token) → is_the_word w t ≡ true → t ≡ word w
keyword_told w (word v) e = search (arith, bytes_eq-Decides)
keyword_told w _ e = absurd cc

-- the first token, if it is known to be equal to another one
first_is : (text : List ℕ) (s t : Token) (rest : List ℕ) → next text ≡ Ok (Some s, rest) → s ≡ t →
    next text ≡ Ok (Some t, rest)
first_is text s t rest n e = search (arith)

pub word_next : (text : List ℕ) (x : List ℕ × List ℕ) → word_at text ≡ Ok x →
    next text ≡ Ok (Some (word x.0), x.1)
word_next text x e = search (arith, as_takes, first_is, word_told)

pub number_next : (text : List ℕ) (x : ℕ × List ℕ) → number_at text ≡ Ok x →
    next text ≡ Ok (Some (number x.0), x.1)
number_next text x e = search (arith, as_takes, first_is, number_told)

pub repository_next : (text : List ℕ) (x : List ℕ × List ℕ) → repository_at text ≡ Ok x →
    next text ≡ Ok (Some (repository x.0), x.1)
repository_next text x e = search (arith, as_takes, first_is, repository_told)

pub mark_next : (m : Mark) (text rest : List ℕ) → mark_at m text ≡ Ok rest →
    next text ≡ Ok (Some (mark m), rest)
mark_next m text rest e = search (arith, is_takes, first_is, mark_told)

pub keyword_next : (w text rest : List ℕ) → keyword_at w text ≡ Ok rest →
    next text ≡ Ok (Some (word w), rest)
keyword_next w text rest e = search (arith, is_takes, first_is, keyword_told)

pub mark_if_next : (m : Mark) (text rest : List ℕ) → mark_if m text ≡ Ok (Some rest) →
    next text ≡ Ok (Some (mark m), rest)
mark_if_next m text rest e = search (arith, if_takes, first_is, mark_told)

pub keyword_if_next : (w text rest : List ℕ) → keyword_if w text ≡ Ok (Some rest) →
    next text ≡ Ok (Some (word w), rest)
keyword_if_next w text rest e = search (arith, if_takes, first_is, keyword_told)

-- the tokens of the text are the one that was read, and then those of the rest
pub word_takes : (text : List ℕ) (x : List ℕ × List ℕ) → word_at text ≡ Ok x →
    TakesToken text (word x.0) x.1
word_takes text x e = search (arith, next_takes, word_next)

pub number_takes : (text : List ℕ) (x : ℕ × List ℕ) → number_at text ≡ Ok x →
    TakesToken text (number x.0) x.1
number_takes text x e = search (arith, next_takes, number_next)

pub repository_takes : (text : List ℕ) (x : List ℕ × List ℕ) → repository_at text ≡ Ok x →
    TakesToken text (repository x.0) x.1
repository_takes text x e = search (arith, next_takes, repository_next)

pub mark_takes : (m : Mark) (text rest : List ℕ) → mark_at m text ≡ Ok rest →
    TakesToken text (mark m) rest
mark_takes m text rest e = search (arith, next_takes, mark_next)

pub keyword_takes : (w text rest : List ℕ) → keyword_at w text ≡ Ok rest → TakesToken text
    (word w) rest
keyword_takes w text rest e = search (arith, next_takes, keyword_next)

pub mark_if_takes : (m : Mark) (text rest : List ℕ) → mark_if m text ≡ Ok (Some rest) →
    TakesToken text (mark m) rest
mark_if_takes m text rest e = search (arith, next_takes, mark_if_next)

pub keyword_if_takes : (w text rest : List ℕ) → keyword_if w text ≡ Ok (Some rest) →
    TakesToken text (word w) rest
keyword_if_takes w text rest e = search (arith, next_takes, keyword_if_next)

-- a repository id that was read isn't too long, because a longer one is no token
pub repository_few : (text : List ℕ) (x : List ℕ × List ℕ) → repository_at text ≡ Ok x →
    length x.0 ≤ 128
repository_few text x e = (next_first text (repository x.0) x.1
    (repository_next text x e)).token.few

-- a name that was read is a word that isn't reserved and isn't too long
name_by : (third : Bool) (text : List ℕ) (w x : List ℕ × List ℕ) (b c : Bool)
    → is_reserved third w.0 ≡ b → ltb 64 (length w.0) ≡ c → word_at text ≡ Ok w
    → cond b (Err (misplaced text)) (cond c (Err (too_long text)) (done (w.0, w.1))) ≡ Ok x →
    (word_at text ≡ Ok x) × (is_reserved third x.0 ≡ false) × (length x.0 ≤ 64)
name_by third text w x true c p q n e = absurd cc
name_by third text w x false true p q n e = absurd cc
name_by third text w x false false p q n e = search (arith, ok_is, ltb-false)

pub identifier_word : (third : Bool) (text : List ℕ) (x : List ℕ × List ℕ)
    → identifier_at third text ≡ Ok x
    → (word_at text ≡ Ok x) × (is_reserved third x.0 ≡ false) × (length x.0 ≤ 64)
unfolding identifier_at
identifier_word third text x e = search (arith, bind_ok, cond, ltb, name_by)

operation_by : (text : List ℕ) (w x : List ℕ × List ℕ) (c : Bool) → ltb 128 (length w.0) ≡ c →
    word_at text ≡ Ok w
    → cond c (Err (too_long text)) (done (w.0, w.1)) ≡ Ok x → (word_at text ≡ Ok x)
    × (length x.0 ≤ 128)
operation_by text w x true q n e = absurd cc
operation_by text w x false q n e = search (arith, ok_is, ltb-false)

pub operation_name_word : (text : List ℕ) (x : List ℕ × List ℕ) → operation_name_at text ≡ Ok x →
    (word_at text ≡ Ok x) × (length x.0 ≤ 128)
unfolding operation_name_at
operation_name_word text x e = search (arith, bind_ok, cond, ltb, operation_by)
