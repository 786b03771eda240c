-- A put to an out with tags, as an `Out` tells it.
use Rattle.std.proofs.Common.{◌≡◌, ℕ, ◌==◌, min, true, false, List, [], ◌++◌, length, take, Option, Some, None, option_and_then, refl, sym, ap, ◌∙◌, arith, append-nil, append_assoc}
use Rattle.std.proofs.lemmas.Bool.{or_left, or_right, eq-eqb, ne_eqb, not_from_false}
use Rattle.std.specs.Io.KnownBytes.{Appends, Keeps}
use Rattle.giop_print.specs.Output.{saturating_next, Took, Failed}
use Rattle.giop_conversation.specs.TaggedText.{is_tag_due, StandsTaggedIn, HasPutTagged, TaggedPutFailed}
use Rattle.giop_conversation.specs.TaggedState.{tagging_log, start_identity, is_due_tag_whole, written_through}
use Rattle.giop_conversation.proofs.TaggedLemmas.{shown_is, shows, due_is}

pub clean_line : (tag text : List ℕ) (due failures : ℕ) → (is_tag_due text ≡ true → due
    ≡ length tag) →
    is_due_tag_whole tag due failures text ≡ true
clean_line tag text due failures whole = search (arith, or_right, eq-eqb, or_left, not_from_false)

counted_is_some : (failures : ℕ) → (saturating_next failures == 0) ≡ false
unfolding saturating_next
counted_is_some failures = search (arith, ne_eqb, min)

pub clean_failed : (tag text : List ℕ) (due failures : ℕ) →
    is_due_tag_whole tag due (saturating_next failures) text ≡ true
clean_failed tag text due failures = search (arith, or_left, not_from_false, counted_is_some)

-- what is shown if the octets stand like this
shown_in : (b : Option (List ℕ)) (before tag : List ℕ) (since : ℕ) (text : List ℕ)
    (due failures : ℕ) →
    StandsTaggedIn b before tag since text due → is_due_tag_whole tag due failures text ≡ true →
    option_and_then (written_through tag due since failures) b ≡ Some (start_identity before tag
    ++ text)
shown_in None before tag since text due failures stands clean = absurd stands
shown_in (Some w) before tag since text due failures stands clean = search (arith, shown_is)

-- the text grows by octets, or stays
pub grows : (a b : Option (List ℕ)) (tag more : List ℕ)
    (since since' due due' failures failures' : ℕ) →
    ((before text : List ℕ) → StandsTaggedIn a before tag since text due →
    StandsTaggedIn b before tag since' (text ++ more) due') →
    ((text : List ℕ) → is_due_tag_whole tag due' failures' (text ++ more) ≡ true) →
    Appends (option_and_then (written_through tag due since failures) a)
    (option_and_then (written_through tag due' since' failures') b) more
grows None b tag more since since' due due' failures failures' stands clean = tt
grows (Some w) b tag more since since' due due' failures failures' stands clean =
    by (written_through tag due since failures w) refl
  where
    by : (o : Option (List ℕ)) → written_through tag due since failures w ≡ o →
        Appends o (option_and_then (written_through tag due' since' failures') b) more
    by None is = tt
    by (Some s) is =
        let s-is = shows w tag since due failures s is in
        let after = shown_in b s-is.before tag since' (s-is.text
        ++ more) due' failures' (stands s-is.before s-is.text s-is.stands) (clean s-is.text) in
        rw after (sym (append_assoc (start_identity s-is.before tag) s-is.text more)
        ∙ ap (λ front. front ++ more) (sym s-is.is))

keeps_if : (x y : Option (List ℕ)) → Appends x y [] → Keeps x y
keeps_if None y appends = tt
keeps_if (Some xs) None appends = absurd appends
keeps_if (Some xs) (Some ys) appends = appends ∙ append-nil xs

pub took : (a b : Option (List ℕ)) (tag octets : List ℕ)
    (f f' since since' due due' n puts puts' failures : ℕ) →
    HasPutTagged a b tag octets since since' due due' n → puts' ≡ saturating_next puts →
    Took (tagging_log (record {
      whole = a;
      below = f;
      tag = tag;
      due = due;
      since = since;
      refused = false;
      puts =
          puts;
      failures = failures;
    }))
    (tagging_log (record {
      whole = b;
      below = f';
      tag = tag;
      due = due';
      since = since';
      refused = false;
      puts =
          puts';
      failures = failures;
    })) octets n
took a b tag octets f f' since since' due due' n puts puts' failures put more = search (
  arith,
  grows,
  take,
  clean_line,
  due_is,
)

pub failed : (a b : Option (List ℕ)) (tag : List ℕ)
    (f f' since since' due due' puts puts' failures failures' : ℕ) →
    TaggedPutFailed a b tag since since' due due' → puts' ≡ saturating_next puts → failures'
    ≡ saturating_next failures → Failed (tagging_log (record {
      whole = a;
      below = f;
      tag = tag;
      due = due;
      since = since;
      refused = false;
      puts =
          puts;
      failures = failures;
    }))
    (tagging_log (record {
      whole = b;
      below = f';
      tag = tag;
      due = due';
      since = since';
      refused = false;
      puts =
          puts';
      failures = failures';
    }))
failed a b tag f f' since since' due due' puts puts' failures failures' put more one = search
    (arith, keeps_if, grows, append-nil, clean_failed)
