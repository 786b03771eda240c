-- What was written to an out with tags, and what was written below it.
use Rattle.std.proofs.Common.{◌≡◌, ℕ, zero, suc, ◌+◌, ◌-◌, ◌≤◌, ◌<◌, ◌==◌, ◌||◌, Bool, true, false, List, [], ◌∷◌, ◌++◌, length, take, drop, slice_index, Option, Some, None, Result, Ok, Err, MatchResult, refl, sym, ap, ◌∙◌, arith, append-nil, append_assoc, length-append, length-take, length-drop, take-add}
use Rattle.std.proofs.Math.Seq.{take-append_seam, drop-append_seam}
use Rattle.std.proofs.lemmas.List.{take_all, take-append-drop}
use Rattle.std.proofs.lemmas.Bool.{and_from, and_parts, le-leb, leb-true, eqb-true, eq-eqb}
use Rattle.std.proofs.lemmas.Slice.Eq.{bytes_eq-Decides}
use Rattle.std.specs.Io.KnownBytes.{Appends, Keeps}
use Rattle.giop_conversation.specs.Tags.{tag_if_first, with_tags, without_tags}
use Rattle.giop_conversation.specs.TaggedText.{is_tag_due, first_line_size, tagged_until_due, StandsTagged, StandsTaggedIn, tag_due_after, HasPutCounted, CountedPutFailed, HasPutTagged, TaggedPutFailed}
use Rattle.giop_conversation.specs.TaggedState.{start_identity, octets_since_tag, text_since_tag, is_due_tag_whole, is_tagged, written_through}
use Rattle.giop_conversation.proofs.TagLemmas.{tagged_append, ends_append, tagged_line, ends_take, untagged_tagged, untagged_few, skip_if_first}

-- ---- what is begun of a tag

whole_tag : (b : Bool) (tag : List ℕ) → take (length tag - 0) (tag_if_first b tag) ≡ tag_if_first b
    tag
whole_tag true tag = search (arith, take_all)
whole_tag false tag = search (arith, take_all)

no_tag_begun : (b : Bool) (tag : List ℕ) (due : ℕ) → (b ≡ true → due ≡ length tag) →
    take (length tag - due) (tag_if_first b tag) ≡ []
no_tag_begun true tag due is = search (arith)
no_tag_begun false tag due is = search (arith, take_all)

begun_is_few : (b : Bool) (tag : List ℕ) (n : ℕ) →
    length (take n (tag_if_first b tag)) ≤ skip_if_first b (length tag)
begun_is_few true tag n = search (arith, length-take)
begun_is_few false tag n = search (arith, take, take_all)

-- if nothing of the next tag was written, what was written of a text is the text with tags
pub stopped_ended : (tag text : List ℕ) (due : ℕ) → (is_tag_due text ≡ true → due ≡ length tag) →
    tagged_until_due tag text due ≡ with_tags tag text
unfolding tagged_until_due
stopped_ended tag text due is = search (arith, no_tag_begun, append-nil)

-- more text after a text that ended
pub stopped_more : (tag text more : List ℕ) (due : ℕ) → is_tag_due text ≡ true →
    tagged_until_due tag (text ++ more) due ≡ with_tags tag text ++ tagged_until_due tag more due
unfolding tagged_until_due
stopped_more tag text more due ended =
    rw (tagged_append true tag text more, ends_append true text more, ended)
    (append_assoc (with_tags tag text) (with_tags tag more) (take (length tag - due)
    (tag_if_first (is_tag_due more) tag)))

-- ---- octets of a tag, and of a line

tag_behind : (w w' before tag : List ℕ) (text : List ℕ) (due n : ℕ) →
    due ≤ length tag → n ≤ due → w ≡ before ++ (with_tags tag text ++ take (length tag - due) tag) →
    w' ≡ w ++ take n (drop (length tag - due) tag) →
    w' ≡ before ++ (with_tags tag text ++ take (length tag - (due - n)) tag)
tag_behind w w' before tag text due n within few is is' =
    let start : length tag - (due - n) ≡ (length tag - due) + n = omega (arith, within, few) in
    let front = take (length tag - due) tag in
    let next = take n (drop (length tag - due) tag) in
    rw (is', is, start, take-add (length tag - due) n tag)
    (append_assoc before (with_tags tag text ++ front) next
    ∙ ap (λ t. before ++ t) (append_assoc (with_tags tag text) front next))

pub tag_step : (w w' before tag : List ℕ) (since : ℕ) (text : List ℕ) (due n : ℕ) →
    StandsTagged w before tag since text due → 0 < due → n ≤ due →
    w' ≡ w ++ take n (drop (length tag - due) tag) → StandsTagged w' before tag (since + n) text
    (due - n)
unfolding tagged_until_due
tag_step w w' before tag since text due n stands some few is = search (
  arith,
  length-append,
  take,
  length-take,
  tag_behind,
)

-- the tag that is due after octets of a line
abbrev pub due_after_first : (tag octets : List ℕ) (n : ℕ) → ℕ
due_after_first tag octets n = tag_due_after tag (slice_index octets (n - 1))

pub due_is : (tag octets text : List ℕ) (n : ℕ) → 0 < n → n ≤ length octets →
    (due_after_first tag octets n ≤ length tag)
    × ((is_tag_due (text ++ take n octets) ≡ true → due_after_first tag octets n ≡ length tag)
    × (is_tag_due (text ++ take n octets) ≡ false → due_after_first tag octets n ≡ 0))
due_is tag octets text n some within = search (arith, ends_append, take, ends_take, slice_index)

line_text : (tag text octets : List ℕ) (n : ℕ) → 0 < n → n ≤ first_line_size octets →
    n ≤ length octets →
    tagged_until_due tag (text ++ take n octets) (due_after_first tag octets n) ≡ tagged_until_due
    tag text 0
    ++ take n octets
unfolding tagged_until_due
line_text tag text octets n some line within =
    let due = due_after_first tag octets n in
    let ends = (due_is tag octets text n some within).1.0 in
    rw (
      no_tag_begun (is_tag_due (text ++ take n octets)) tag due ends,
      whole_tag (is_tag_due text)
          tag,
    )
    (append-nil (with_tags tag (text ++ take n octets))
    ∙ (tagged_append true tag text (take n octets)
    ∙ (ap (λ t. with_tags tag text ++ t) (tagged_line (is_tag_due text) tag octets n some line)
    ∙ sym (append_assoc (with_tags tag text) (tag_if_first (is_tag_due text) tag)
    (take n octets)))))

pub line_step : (w w' before tag : List ℕ) (since : ℕ) (text octets : List ℕ) (n : ℕ) →
    StandsTagged w before tag since text 0 → 0 < n → n ≤ first_line_size octets → n ≤ length octets
    →
    w' ≡ w ++ take n octets →
    StandsTagged w' before tag (since + n) (text ++ take n octets) (due_after_first tag octets n)
line_step w w' before tag since text octets n stands some line within is = search (
  arith,
  line_text,
  due_is,
  length-append,
  take,
  length-take,
  append_assoc,
)

-- ---- The same of an out, if it is known what was written to it.

pub tag_step_in : (a b : Option (List ℕ)) (before tag : List ℕ) (since : ℕ) (text : List ℕ)
    (due n : ℕ) →
    StandsTaggedIn a before tag since text due → 0 < due → n ≤ due →
    Appends a b (take n (drop (length tag - due) tag)) →
    StandsTaggedIn b before tag (since + n) text (due - n)
tag_step_in None b before tag since text due n stands some few appends = absurd stands
tag_step_in (Some w) None before tag since text due n stands some few appends = absurd appends
tag_step_in (Some w) (Some w') before tag since text due n stands some few appends =
    tag_step w w' before tag since text due n stands some few appends

pub line_step_in : (a b : Option (List ℕ)) (before tag : List ℕ) (since : ℕ)
    (text octets : List ℕ) (n : ℕ) →
    StandsTaggedIn a before tag since text 0 → 0 < n → n ≤ first_line_size octets →
    n ≤ length octets →
    Appends a b (take n octets) →
    StandsTaggedIn b before tag (since + n) (text ++ take n octets) (due_after_first tag octets n)
line_step_in None b before tag since text octets n stands some line within appends = absurd stands
line_step_in (Some w) None before tag since text octets n stands some line within appends =
    absurd appends
line_step_in (Some w) (Some w') before tag since text octets n stands some line within appends =
    line_step w w' before tag since text octets n stands some line within appends

pub kept_in : (a b : Option (List ℕ)) (before tag : List ℕ) (since : ℕ) (text : List ℕ) (due : ℕ) →
    StandsTaggedIn a before tag since text due → Keeps a b → StandsTaggedIn b before tag since text
    due
kept_in None b before tag since text due stands keeps = absurd stands
kept_in (Some w) None before tag since text due stands keeps = absurd keeps
kept_in (Some w) (Some w') before tag since text due stands keeps = rw keeps stands

take_take : (n m : ℕ) (xs : List ℕ) → n ≤ m → take n (take m xs) ≡ take n xs
take_take zero m xs few = refl
take_take (suc n) zero xs few = absurd (omega (arith, few))
take_take (suc n) (suc m) [] few = refl
take_take (suc n) (suc m) (x ∷ xs) few = search (arith, take_take n m xs (omega (arith, few)))

-- a put of octets of one line
pub put_line_ok : (a b : Option (List ℕ)) (tag octets : List ℕ) (since since' due due' n : ℕ) →
    due ≡ 0 →
    0 < length octets → first_line_size octets ≤ length octets → 0 < first_line_size octets →
    HasPutCounted a b (take (first_line_size octets) octets) since since' n →
    due' ≡ tag_due_after tag (slice_index octets (n - 1)) →
    HasPutTagged a b tag octets since since' due due' n
put_line_ok a b tag octets since since' due due' n none some within line put is = search (
  arith,
  length-take,
  take_take,
  line_step_in,
)

pub put_line_err : (a b : Option (List ℕ)) (tag : List ℕ) (since since' due : ℕ) → due ≡ 0 →
    CountedPutFailed a b since since' → TaggedPutFailed a b tag since since' due due
put_line_err a b tag since since' due none put = search (arith, kept_in)

pub put_after_tag : (a b d : Option (List ℕ)) (tag octets : List ℕ)
    (since since' since'' due due' due'' n : ℕ) →
    ((before text : List ℕ) → StandsTaggedIn a before tag since text due →
    StandsTaggedIn b before tag since' text due') →
    HasPutTagged b d tag octets since' since'' due' due'' n →
    HasPutTagged a d tag octets since since'' due due'' n
put_after_tag a b d tag octets since since' since'' due due' due'' n first put = search (arith)

pub failed_after_tag : (a b d : Option (List ℕ)) (tag : List ℕ)
    (since since' since'' due due' due'' : ℕ) →
    ((before text : List ℕ) → StandsTaggedIn a before tag since text due →
    StandsTaggedIn b before tag since' text due') →
    TaggedPutFailed b d tag since' since'' due' due'' → TaggedPutFailed a d tag since since'' due
    due''
failed_after_tag a b d tag since since' since'' due due' due'' first put = search (arith)

pub put_both : {E : Type 0} (r : Result ℕ E) (a b d : Option (List ℕ)) (tag octets : List ℕ)
    (since since' since'' due due' due'' : ℕ) →
    ((before text : List ℕ) → StandsTaggedIn a before tag since text due →
    StandsTaggedIn b before tag since' text due') →
    MatchResult r (λ n. HasPutTagged b d tag octets since' since'' due' due'' n)
    (λ _. TaggedPutFailed b d tag since' since'' due' due'') →
    MatchResult r (λ n. HasPutTagged a d tag octets since since'' due due'' n)
    (λ _. TaggedPutFailed a d tag since since'' due due'')
put_both (Ok n) a b d tag octets since since' since'' due due' due'' first put =
    put_after_tag a b d tag octets since since' since'' due due' due'' n first put
put_both (Err e) a b d tag octets since since' since'' due due' due'' first put =
    failed_after_tag a b d tag since since' since'' due due' due'' first put

-- ---- the text that is read again from the octets below

text_back : (tag text : List ℕ) (due : ℕ) →
    without_tags (length tag) (tagged_until_due tag text due) ≡ text
unfolding tagged_until_due
text_back tag text due =
    untagged_tagged true tag text (take (length tag - due) (tag_if_first (is_tag_due text) tag))
    ∙ (ap (λ rest. text ++ rest)
    (untagged_few _ _ _ (begun_is_few (is_tag_due text) tag (length tag - due))) ∙ append-nil text)

record IsReadBack (w before tag : List ℕ) (since : ℕ) (text : List ℕ) (due : ℕ) : Type 0 where
  front : take (length w - since) w ≡ before
  body : octets_since_tag since w ≡ tagged_until_due tag text due
  back : text_since_tag tag since w ≡ text
  size : since ≤ length w

is_read : (w before tag : List ℕ) (since : ℕ) (text : List ℕ) (due : ℕ) →
    StandsTagged w before tag since text due →
    IsReadBack w before tag since text due
is_read w before tag since text due s =
    let all = tagged_until_due tag text due in
    let l : length w ≡ length before + length all = ap length s.whole ∙ length-append before all in
    let start : length w - since ≡ length before = omega (arith, l, s.counted) in
    let body : drop (length w - since) w ≡ all = rw start (ap (drop (length before)) s.whole
    ∙ drop-append_seam before all) in
    record {
      front = rw start (ap (take (length before)) s.whole ∙ take-append_seam before all);
      body = body;
      back = ap (without_tags (length tag)) body ∙ text_back tag text due;
      size = omega (arith, l, s.counted);
    }

or_zero : (b : Bool) (due : ℕ) → (b ≡ false → due ≡ 0) → (b || due == 0) ≡ true
or_zero true due is = refl
or_zero false due is = eq-eqb due 0 (is refl)

zero_or : (b : Bool) (due : ℕ) → (b || due == 0) ≡ true → b ≡ false → due ≡ 0
zero_or true due is inside = absurd (cc inside)
zero_or false due is inside = eqb-true due 0 is

tagged_is : (w before tag : List ℕ) (since : ℕ) (text : List ℕ) (due failures : ℕ) →
    StandsTagged w before tag since text due → is_due_tag_whole tag due failures text ≡ true →
    is_tagged tag due since failures w ≡ true
unfolding is_tagged
tagged_is w before tag since text due failures s clean =
    let r = is_read w before tag since text due s in
    rw (r.back, r.body) (
    and_from _ _ (and_from _ _ (le-leb since (length w) r.size) (le-leb due (length tag) s.within))
    (and_from _ _ ((bytes_eq-Decides (tagged_until_due tag text due)
    (tagged_until_due tag text due)).1 refl)
    (and_from _ _ (or_zero (is_tag_due text) due s.inside) clean)))

pub shown_is : (w before tag : List ℕ) (since : ℕ) (text : List ℕ) (due failures : ℕ) →
    StandsTagged w before tag since text due → is_due_tag_whole tag due failures text ≡ true →
    written_through tag due since failures w ≡ Some (start_identity before tag ++ text)
unfolding written_through
shown_is w before tag since text due failures s clean = search (arith, is_read, tagged_is)

pub record IsWrittenThrough (w tag : List ℕ) (since due failures : ℕ) (s : List ℕ) : Type 0 where
  pub before : List ℕ
  pub text : List ℕ
  pub stands : StandsTagged w before tag since text due
  pub clean : is_due_tag_whole tag due failures text ≡ true
  pub is : s ≡ start_identity before tag ++ text

value_of : Option (List ℕ) → List ℕ
value_of None = []
value_of (Some s) = s

record IsTaggedWritten (w tag : List ℕ) (since due failures : ℕ) : Type 0 where
  size : since ≤ length w
  within : due ≤ length tag
  body : octets_since_tag since w ≡ tagged_until_due tag (text_since_tag tag since w) due
  inside : is_tag_due (text_since_tag tag since w) ≡ false → due ≡ 0
  clean : is_due_tag_whole tag due failures (text_since_tag tag since w) ≡ true

has_parts : (w tag : List ℕ) (since due failures : ℕ) → is_tagged tag due since failures w ≡ true →
    IsTaggedWritten w tag since due failures
unfolding is_tagged
has_parts w tag since due failures holds = search (
  arith,
  and_parts,
  leb-true,
  bytes_eq-Decides,
  zero_or,
)

pub shows : (w tag : List ℕ) (since due failures : ℕ) (s : List ℕ) →
    written_through tag due since failures w ≡ Some s →
    IsWrittenThrough w tag since due failures s
unfolding written_through value_of
shows w tag since due failures s some = by (is_tagged tag due since failures w) refl
  where
    by : (b : Bool) → is_tagged tag due since failures w ≡ b → IsWrittenThrough w tag since due
        failures s
    by false fails = search (arith)
    by true holds =
        let h = has_parts w tag since due failures holds in
        let start = length w - since in
        let text = text_since_tag tag since w in
        let l = length-drop start w in
        record {
          before = take start w;
          text = text;
          stands = record {
            whole = sym (take-append-drop start w) ∙ ap (λ b. take start w ++ b) h.body;
            counted = rw (← h.body) (omega (arith, l, h.size));
            within = h.within;
            inside = h.inside;
          };
          clean = h.clean;
          is = sym (ap value_of (rw holds at some));
        }

-- ---- what a call of writing did

-- the octets before the tag, the tag and the text are those that the identity begins with
pub record AreSameStarts (before tag text before' tag' text' : List ℕ) : Type 0 where
  pub same_before : before' ≡ before
  pub same_tag : tag' ≡ tag
  pub same_text : text' ≡ text

first_is : List ℕ → ℕ
first_is [] = 0
first_is (x ∷ xs) = x

same_parts : (before tag text before' tag' text' : List ℕ) → length before' ≡ length before →
    length tag' ≡ length tag →
    (before' ++ tag') ++ text' ≡ (before ++ tag) ++ text →
    AreSameStarts before tag text before' tag' text'
same_parts before tag text before' tag' text' l t e =
    let e' : before' ++ (tag' ++ text') ≡ before ++ (tag ++ text) =
    sym (append_assoc before' tag' text') ∙ (e ∙ append_assoc before tag text) in
    let b : before' ≡ before = sym (take-append_seam before' (tag' ++ text'))
    ∙ (rw (l, e') (take-append_seam before (tag ++ text))) in
    let r : tag' ++ text' ≡ tag ++ text = sym (drop-append_seam before' (tag' ++ text'))
    ∙ (rw (l, e') (drop-append_seam before (tag ++ text))) in
    record {
      same_before = b;
      same_tag = sym (take-append_seam tag' text') ∙ (rw (t, r) (take-append_seam tag text));
      same_text = sym (drop-append_seam tag' text') ∙ (rw (t, r) (drop-append_seam tag text));
    }

pub identity_is : (before tag text before' tag' text' : List ℕ) →
    start_identity before' tag' ++ text' ≡ start_identity before tag ++ text →
    AreSameStarts before tag text before' tag' text'
unfolding first_is
identity_is before tag text before' tag' text' e = search (arith, drop, same_parts)
